use Rattle.lb_engine.proofs.RowLemmas.{read-ends, read-fails, read-then}
use Rattle.lb_engine.specs.Looks.{look_at}
use Rattle.lb_engine.specs.Reads.{behind_reading}
use Rattle.lb_model.specs.Kinds.{boxed_of}
use Rattle.lb_model_engine.specs.Boxes.{box_copied}
use Rattle.lb_model_nest.specs.Boxes.{placed}
use Rattle.lb_model_nest.specs.Wholes.{Executed, Whole, executed}
use Rattle.lb_model_nest.specs.declared.nest.BoxContext.{BoxContext}
use Rattle.lb_model_nest.specs.declared.turn.Went.TheVariants.{On}
use Rattle.std.proofs.Common.{refl}
use Rattle.std.specs.Prelude.{ℕ}
use Rattle.lb_values.specs.declared.cell.Cell.TheVariants as cell
use Rattle.lb_engine.proofs.boxes.copy_box.Goals as goal

-- what is done with it
abbrev to : BoxContext → ℕ → Whole → Executed
to context n v = look_at (cell.Boxed n) boxed_of (placed context) v

pub copy-requires : goal.copy-requires
copy-requires g c = record { holds = (c.in_ok-number.ensures.leads (λ x. executed On)).keeps }

pub returns-in-Of : goal.returns-in-Of
unfolding box_copied
returns-in-Of g c = record { goes = read-then (behind_reading (to c.args.context)) c.copy.result c.in-Of.is (c.in_ok-number.ensures.leads (to c.args.context)) c.copy.ensures.goes }

pub returns-in-Stops : goal.returns-in-Stops
unfolding box_copied
returns-in-Stops g c = record { goes = read-ends (behind_reading (to c.args.context)) executed c.in-Stops.went c.in-Stops.is refl (c.in_ok-number.ensures.leads (to c.args.context)) }

pub returns-in_err-number : goal.returns-in_err-number
returns-in_err-number g c = record { goes = read-fails c.from_residual.result c.from_residual.ensures.0 (c.in_err-number.ensures.leads (to c.args.context)) }
