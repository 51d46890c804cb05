use Rattle.lb_base.specs.declared.token.Tok.{Tok}
use Rattle.lb_engine.proofs.RowLemmas.{read-ends, read-fails, read-then}
use Rattle.lb_engine.specs.Reads.{behind_reading}
use Rattle.lb_model_engine.specs.Reads.{put_closed}
use Rattle.lb_model_nest.specs.Boxes.{mark_opened}
use Rattle.lb_model_nest.specs.Wholes.{Executed, Whole, and_then, executed}
use Rattle.lb_model_nest.specs.declared.turn.Went.TheVariants.{On}
use Rattle.std.proofs.Common.{List, false, refl}
use Rattle.lb_engine.proofs.materials.mark_with.Goals as goal

-- what is done with it
abbrev to : List Tok → List Tok → Whole → Executed
to left right u = and_then (and_then (put_closed right u) (put_closed left)) (mark_opened false)

pub begin_both-requires : goal.begin_both-requires
begin_both-requires g c = record { holds = (c.in_ok-right.ensures.leads (λ x. executed On)).keeps }

pub returns-in-Of : goal.returns-in-Of
returns-in-Of g c = record { goes = read-then (behind_reading (to c.args.left)) c.begin_both.result c.in-Of.is (c.in_ok-right.ensures.leads (to c.args.left)) c.begin_both.ensures.goes }

pub returns-in-Stops : goal.returns-in-Stops
returns-in-Stops g c = record { goes = read-ends (behind_reading (to c.args.left)) executed c.in-Stops.went c.in-Stops.is refl (c.in_ok-right.ensures.leads (to c.args.left)) }

pub returns-in_err-right : goal.returns-in_err-right
returns-in_err-right g c = record { goes = read-fails c.from_residual.result c.from_residual.ensures.0 (c.in_err-right.ensures.leads (to c.args.left)) }
