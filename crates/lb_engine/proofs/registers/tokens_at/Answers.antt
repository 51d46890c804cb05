use Rattle.std.proofs.Common.{sym}
use Rattle.lb_engine.specs.Registers.{from_place}
use Rattle.lb_engine.proofs.RowLemmas.{act-is}
use Rattle.lb_engine.proofs.registers.tokens_at.Goals as goal

pub returns-in-Group : goal.returns-in-Group
returns-in-Group g c = record { leads = λ row. act-is (λ place. from_place place row) c.shared_rest.result (sym c.in-Group.is) (c.shared_rest.ensures.leads row) }

pub returns-in-Register : goal.returns-in-Register
returns-in-Register g c = record { leads = λ row. act-is (λ place. from_place place row) c.register_tokens.result (sym c.in-Register.is) (c.register_tokens.ensures.leads row) }

pub returns-in-Picked : goal.returns-in-Picked
returns-in-Picked g c = record { leads = λ row. act-is (λ place. from_place place row) c.picked_tokens.result (sym c.in-Picked.is) (c.picked_tokens.ensures.leads row) }
