use Rattle.lb_base.specs.declared.glue.Target.TheVariants.{Natural}
use Rattle.lb_engine.proofs.JoinLemmas.{leads-done}
use Rattle.lb_engine.proofs.RowLemmas.{act-is}
use Rattle.lb_engine.specs.Reads.{behind_reading}
use Rattle.lb_model_engine.specs.Boxes.{spread_to}
use Rattle.std.proofs.Common.{sym}
use Rattle.std.specs.Prelude.{Ok}
use Rattle.lb_engine.specs.declared.reading.Reading.TheVariants as reading
use Rattle.lb_engine.proofs.box_targets.spread_if.Goals as goal

pub returns-then-found : goal.returns-then-found
returns-then-found g c = record { leads = λ row. act-is (λ b. spread_to b row) c.spread_by.result (sym c.if-found.true) (c.spread_by.ensures.leads row) }

pub returns : goal.returns
returns g c = record { leads = λ row. act-is (λ b. spread_to b row) (Ok (reading.Of Natural)) (sym c.if-found.false) (leads-done g.C.Cells (behind_reading row) (reading.Of Natural) c.requires.holds) }
