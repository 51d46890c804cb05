use Rattle.lb_engine.proofs.JoinLemmas.{leads-done}
use Rattle.lb_engine.proofs.RowLemmas.{act-is}
use Rattle.lb_engine.specs.Boxes.{wanted_to}
use Rattle.lb_model_nest.specs.Wholes.{executed}
use Rattle.lb_model_nest.specs.declared.turn.Went.TheVariants.{Stopped}
use Rattle.std.proofs.Common.{sym}
use Rattle.std.specs.Prelude.{Ok}
use Rattle.lb_base.specs.declared.fault.Kind.TheVariants.{TokenMisplaced}
use Rattle.lb_engine.proofs.wanted_boxes.bring.Goals as goal

pub returns-in-Begun : goal.returns-in-Begun
returns-in-Begun g c = record { goes = act-is (λ x. wanted_to x c.args.context) c.begin_box.result (sym c.in-Begun.is) c.begin_box.ensures.goes }

pub returns-in-Taken : goal.returns-in-Taken
returns-in-Taken g c = record { goes = act-is (λ x. wanted_to x c.args.context) c.take_box.result (sym c.in-Taken.is) c.take_box.ensures.goes }

pub returns-in-Copied : goal.returns-in-Copied
returns-in-Copied g c = record { goes = act-is (λ x. wanted_to x c.args.context) c.copy_box.result (sym c.in-Copied.is) c.copy_box.ensures.goes }

pub returns-in-Nothing : goal.returns-in-Nothing
returns-in-Nothing g c = record { goes = act-is (λ x. wanted_to x c.args.context) (Ok (Stopped TokenMisplaced)) (sym c.in-Nothing.is) (leads-done g.C.Cells executed (Stopped TokenMisplaced) c.requires.holds) }
