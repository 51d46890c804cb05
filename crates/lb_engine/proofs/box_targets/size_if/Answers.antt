use Rattle.lb_engine.proofs.RowLemmas.{act-is}
use Rattle.lb_model_engine.specs.Boxes.{target_to}
use Rattle.std.proofs.Common.{sym}
use Rattle.lb_engine.proofs.box_targets.size_if.Goals as goal

pub returns-then-found : goal.returns-then-found
returns-then-found g c = record { leads = λ row. act-is (λ b. target_to b row) c.size.result (sym c.if-found.true) (c.size.ensures.leads row) }

pub returns : goal.returns
returns g c = record { leads = λ row. act-is (λ b. target_to b row) c.spread.result (sym c.if-found.false) (c.spread.ensures.leads row) }
