use Rattle.lb_engine.proofs.RowLemmas.{read-ends, read-fails, read-then}
use Rattle.lb_engine.specs.Reads.{behind_reading}
use Rattle.lb_model_engine.specs.Boxes.{box_wanted}
use Rattle.lb_model_nest.specs.Wholes.{Executed, Whole, executed}
use Rattle.lb_model_nest.specs.declared.nest.BoxContext.TheVariants.{Register}
use Rattle.lb_model_nest.specs.declared.turn.Went.TheVariants.{On}
use Rattle.lb_values.specs.declared.reach.Reach.{Reach}
use Rattle.std.proofs.Common.{refl}
use Rattle.std.specs.Prelude.{ℕ}
use Rattle.lb_engine.proofs.box_registers.set.Goals as goal

-- what is done with it
abbrev to : Reach → ℕ → Whole → Executed
to reach n v = box_wanted (Register reach n) v

pub want_box-requires : goal.want_box-requires
want_box-requires g c = record { holds = (c.in_ok-equals.ensures.leads (executed On)).keeps }

pub returns-in-Of : goal.returns-in-Of
returns-in-Of g c = record { goes = read-then (behind_reading (λ u. (to c.args.reach c.args.number))) c.want_box.result c.in-Of.is (c.in_ok-equals.ensures.leads (to c.args.reach c.args.number)) c.want_box.ensures.goes }

pub returns-in-Stops : goal.returns-in-Stops
returns-in-Stops g c = record { goes = read-ends (behind_reading (λ u. (to c.args.reach c.args.number))) executed c.in-Stops.went c.in-Stops.is refl (c.in_ok-equals.ensures.leads (to c.args.reach c.args.number)) }

pub returns-in_err-equals : goal.returns-in_err-equals
returns-in_err-equals g c = record { goes = read-fails c.from_residual.result c.from_residual.ensures.0 (c.in_err-equals.ensures.leads (to c.args.reach c.args.number)) }
