use Rattle.lb_base.specs.declared.glue.Glue.{Glue}
use Rattle.lb_engine.proofs.RowLemmas.{read-ends, read-fails, read-then}
use Rattle.lb_engine.proofs.latex_spaces.vspace_of.Goals as goal
use Rattle.lb_engine.specs.Reads.{behind_reading}
use Rattle.lb_model_nest.specs.Items.{vspace_put}
use Rattle.lb_model_nest.specs.Wholes.{Executed, Whole, executed}
use Rattle.lb_model_nest.specs.declared.turn.Went.TheVariants.{On}
use Rattle.std.proofs.Common.{refl}
use Rattle.std.specs.Prelude.{Bool}

-- what is done with it
abbrev to : Bool → Glue → Whole → Executed
to starred g v = vspace_put starred g v

pub put_vspace-requires : goal.put_vspace-requires
put_vspace-requires g c = record { holds = (c.in_ok-glue.ensures.leads (λ x. executed On)).keeps }

pub returns-in-Of : goal.returns-in-Of
returns-in-Of g c = record { goes = read-then (behind_reading (to c.args.starred)) c.put_vspace.result c.in-Of.is (c.in_ok-glue.ensures.leads (to c.args.starred)) c.put_vspace.ensures.goes }

pub returns-in-Stops : goal.returns-in-Stops
returns-in-Stops g c = record { goes = read-ends (behind_reading (to c.args.starred)) executed c.in-Stops.went c.in-Stops.is refl (c.in_ok-glue.ensures.leads (to c.args.starred)) }

pub returns-in_err-glue : goal.returns-in_err-glue
returns-in_err-glue g c = record { goes = read-fails c.from_residual.result c.from_residual.ensures.0 (c.in_err-glue.ensures.leads (to c.args.starred)) }
