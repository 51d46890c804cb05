use Rattle.lb_engine.proofs.RowLemmas.{read-ends, read-fails, read-then}
use Rattle.lb_engine.specs.Reads.{behind_reading}
use Rattle.lb_model_engine.specs.Boxes.{box_wanted, setbox}
use Rattle.lb_model_engine.specs.Reads.{equals}
use Rattle.lb_model_nest.specs.Wholes.{Executed, Whole, executed}
use Rattle.lb_model_nest.specs.declared.nest.BoxContext.TheVariants.{Register}
use Rattle.lb_model_nest.specs.declared.turn.Went.TheVariants.{On}
use Rattle.lb_values.specs.declared.reach.Reach.{Reach}
use Rattle.std.proofs.Common.{refl}
use Rattle.std.specs.Prelude.{ℕ}
use Rattle.lb_engine.proofs.box_registers.setbox.Goals as goal

-- what is done with it
abbrev to : Reach → ℕ → Whole → Executed
to reach n v = equals (λ u. box_wanted (Register reach n) u) v

pub set-requires : goal.set-requires
set-requires g c = record { holds = (c.in_ok-number.ensures.leads (λ x. executed On)).keeps }

pub returns-in-Of : goal.returns-in-Of
unfolding setbox
returns-in-Of g c = record { goes = read-then (behind_reading (to c.args.reach)) c.set.result c.in-Of.is (c.in_ok-number.ensures.leads (to c.args.reach)) c.set.ensures.goes }

pub returns-in-Stops : goal.returns-in-Stops
unfolding setbox
returns-in-Stops g c = record { goes = read-ends (behind_reading (to c.args.reach)) executed c.in-Stops.went c.in-Stops.is refl (c.in_ok-number.ensures.leads (to c.args.reach)) }

pub returns-in_err-number : goal.returns-in_err-number
returns-in_err-number g c = record { goes = read-fails c.from_residual.result c.from_residual.ensures.0 (c.in_err-number.ensures.leads (to c.args.reach)) }
