use Rattle.lb_base.specs.declared.glue.Target.{Target}
use Rattle.lb_base.specs.declared.node.Axis.{Axis}
use Rattle.lb_engine.proofs.RowLemmas.{read-ends, read-fails, read-then}
use Rattle.lb_engine.specs.Reads.{behind_reading}
use Rattle.lb_model_engine.specs.Boxes.{box_begun, brace_taken}
use Rattle.lb_model_nest.specs.Wholes.{Executed, Whole, executed}
use Rattle.lb_model_nest.specs.declared.nest.BoxContext.{BoxContext}
use Rattle.lb_model_nest.specs.declared.turn.Went.TheVariants.{On}
use Rattle.std.proofs.Common.{refl}
use Rattle.lb_model_nest.specs.declared.nest.ListKind.TheVariants as list
use Rattle.lb_engine.proofs.boxes.begin_box.Goals as goal

-- what is done with it
abbrev to : Axis → BoxContext → Target → Whole → Executed
to axis context size v = brace_taken (list.Box axis size context) v

pub open_behind-requires : goal.open_behind-requires
open_behind-requires g c = record { holds = (c.in_ok-size.ensures.leads (λ x. executed On)).keeps }

pub returns-in-Of : goal.returns-in-Of
unfolding box_begun
returns-in-Of g c = record { goes = read-then (behind_reading (to c.args.axis c.args.context)) c.open_behind.result c.in-Of.is (c.in_ok-size.ensures.leads (to c.args.axis c.args.context)) c.open_behind.ensures.goes }

pub returns-in-Stops : goal.returns-in-Stops
unfolding box_begun
returns-in-Stops g c = record { goes = read-ends (behind_reading (to c.args.axis c.args.context)) executed c.in-Stops.went c.in-Stops.is refl (c.in_ok-size.ensures.leads (to c.args.axis c.args.context)) }

pub returns-in_err-size : goal.returns-in_err-size
returns-in_err-size g c = record { goes = read-fails c.from_residual.result c.from_residual.ensures.0 (c.in_err-size.ensures.leads (to c.args.axis c.args.context)) }
