use Rattle.lb_engine.proofs.RowLemmas.{act-is, read-ends, read-fails, read-then}
use Rattle.lb_engine.specs.BoxSizes.{sized}
use Rattle.lb_engine.specs.Looks.{look_at}
use Rattle.lb_engine.specs.Reads.{behind_reading}
use Rattle.lb_model.specs.Kinds.{boxed_of}
use Rattle.lb_model_engine.specs.Boxes.{size_changed}
use Rattle.lb_model_nest.specs.Wholes.{Executed, Whole, executed}
use Rattle.lb_model_nest.specs.declared.turn.Went.TheVariants.{On}
use Rattle.lb_values.specs.declared.reach.Reach.{Reach}
use Rattle.std.proofs.Common.{FitsSigned, refl, rules, w32}
use Rattle.std.proofs.lemmas.Int.{to_z-of_z}
use Rattle.std.specs.Prelude.{ℕ, ℤ}
use Rattle.lb_values.specs.declared.cell.Cell.TheVariants as cell
use Rattle.lb_engine.specs.declared.box_sizes.Size.{Size}
use Rattle.lb_engine.proofs.box_sizes.set_to.Goals as goal

-- what is done with it
abbrev to : Reach → Size → ℕ → ℤ → Whole → Executed
to reach size n d v = look_at (cell.Boxed n) boxed_of (λ box y. size_changed reach n box (sized size d) y) v

pub change_size-requires : goal.change_size-requires
change_size-requires g c = record { holds = (c.in_ok-length.ensures.leads (λ x. executed On)).keeps }

pub returns-in-Of : goal.returns-in-Of
returns-in-Of g c = let fits : FitsSigned w32 c.in-Of.length = search rules in record { goes = read-then (behind_reading (to c.args.reach c.args.size c.args.number)) c.change_size.result c.in-Of.is (c.in_ok-length.ensures.leads (to c.args.reach c.args.size c.args.number)) (act-is (to c.args.reach c.args.size c.args.number) c.change_size.result (to_z-of_z w32 c.in-Of.length fits) c.change_size.ensures.goes) }

pub returns-in-Stops : goal.returns-in-Stops
returns-in-Stops g c = record { goes = read-ends (behind_reading (to c.args.reach c.args.size c.args.number)) executed c.in-Stops.went c.in-Stops.is refl (c.in_ok-length.ensures.leads (to c.args.reach c.args.size c.args.number)) }

pub returns-in_err-length : goal.returns-in_err-length
returns-in_err-length g c = record { goes = read-fails c.from_residual.result c.from_residual.ensures.0 (c.in_err-length.ensures.leads (to c.args.reach c.args.size c.args.number)) }
