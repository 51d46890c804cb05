use Rattle.lb_engine.proofs.RowLemmas.{read-ends, read-fails, read-then}
use Rattle.lb_engine.specs.BoxSizes.{sized}
use Rattle.lb_engine.specs.Looks.{look_at}
use Rattle.lb_engine.specs.Reads.{behind_reading}
use Rattle.lb_model.specs.Kinds.{boxed_of}
use Rattle.lb_model_engine.specs.Boxes.{size_changed}
use Rattle.lb_model_engine.specs.Reads.{dimension}
use Rattle.lb_model_nest.specs.Wholes.{Executed, Whole, executed}
use Rattle.lb_model_nest.specs.declared.turn.Went.TheVariants.{On}
use Rattle.lb_values.specs.declared.reach.Reach.{Reach}
use Rattle.std.proofs.Common.{refl}
use Rattle.std.specs.Prelude.{ℕ}
use Rattle.lb_values.specs.declared.cell.Cell.TheVariants as cell
use Rattle.lb_engine.specs.declared.box_sizes.Size.{Size}
use Rattle.lb_engine.proofs.box_sizes.set.Goals as goal

-- what is done with it
abbrev to : Reach → Size → ℕ → Whole → Executed
to reach size n v = dimension (λ d x. look_at (cell.Boxed n) boxed_of (λ box y. size_changed reach n box (sized size d) y) x) v

pub set_to-requires : goal.set_to-requires
set_to-requires g c = record { holds = (c.in_ok-equals.ensures.leads (executed On)).keeps }

pub returns-in-Of : goal.returns-in-Of
returns-in-Of g c = record { goes = read-then (behind_reading (λ u. (to c.args.reach c.args.size c.args.number))) c.set_to.result c.in-Of.is (c.in_ok-equals.ensures.leads (to c.args.reach c.args.size c.args.number)) c.set_to.ensures.goes }

pub returns-in-Stops : goal.returns-in-Stops
returns-in-Stops g c = record { goes = read-ends (behind_reading (λ u. (to c.args.reach c.args.size c.args.number))) executed c.in-Stops.went c.in-Stops.is refl (c.in_ok-equals.ensures.leads (to c.args.reach c.args.size c.args.number)) }

pub returns-in_err-equals : goal.returns-in_err-equals
returns-in_err-equals g c = record { goes = read-fails c.from_residual.result c.from_residual.ensures.0 (c.in_err-equals.ensures.leads (to c.args.reach c.args.size c.args.number)) }
