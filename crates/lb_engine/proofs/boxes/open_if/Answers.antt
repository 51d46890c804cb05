use Rattle.lb_engine.proofs.JoinLemmas.{leads-done}
use Rattle.lb_engine.proofs.RowLemmas.{act-is}
use Rattle.lb_engine.specs.Boxes.{opened_if}
use Rattle.lb_model_nest.specs.Wholes.{executed}
use Rattle.lb_model_nest.specs.declared.turn.Went.TheVariants.{Stopped}
use Rattle.std.proofs.Common.{sym}
use Rattle.std.specs.Prelude.{Ok}
use Rattle.lb_base.specs.declared.fault.Kind.TheVariants.{TokenMisplaced}
use Rattle.lb_engine.proofs.boxes.open_if.Goals as goal

pub returns-then-opens : goal.returns-then-opens
returns-then-opens g c = record { goes = act-is (λ b. opened_if b c.args.kind) c.open_list.result (sym c.if-opens.true) c.open_list.ensures.goes }

pub returns : goal.returns
returns g c = record { goes = act-is (λ b. opened_if b c.args.kind) (Ok (Stopped TokenMisplaced)) (sym c.if-opens.false) (leads-done g.C.Cells executed (Stopped TokenMisplaced) c.requires.holds) }
