use Rattle.std.proofs.Common.{sym}
use Rattle.lb_model_engine.specs.Definitions.{body_read}
use Rattle.lb_engine.proofs.RowLemmas.{act-is}
use Rattle.lb_engine.proofs.definitions.body.Goals as goal

pub returns-in-true : goal.returns-in-true
returns-in-true g c = record { leads = λ row. act-is (λ b. body_read b row) c.expanded_rest.result (sym c.in-true.is) (c.expanded_rest.ensures.leads row) }

pub returns-in-false : goal.returns-in-false
returns-in-false g c = record { leads = λ row. act-is (λ b. body_read b row) c.group_rest.result (sym c.in-false.is) (c.group_rest.ensures.leads row) }
