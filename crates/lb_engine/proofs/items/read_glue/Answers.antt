use Rattle.std.proofs.Common.{refl}
use Rattle.lb_base.specs.declared.glue.Glue.{Glue}
use Rattle.lb_model_nest.specs.Items.{glue_added}
use Rattle.lb_model_nest.specs.declared.turn.Went.TheVariants.{On}
use Rattle.lb_model_nest.specs.Wholes.{Executed, Whole, executed}
use Rattle.lb_engine.proofs.RowLemmas.{read-ends, read-fails, read-then}
use Rattle.lb_engine.specs.Reads.{behind_reading}
use Rattle.lb_engine.proofs.items.read_glue.Goals as goal

-- what is done with it
abbrev to : Glue → Whole → Executed
to g v = glue_added g v

pub add_glue-requires : goal.add_glue-requires
add_glue-requires g c = record { holds = (c.in_ok-glue.ensures.leads (λ x. executed On)).keeps }

pub returns-in-Of : goal.returns-in-Of
returns-in-Of g c =
    record { goes = read-then (behind_reading to) c.add_glue.result c.in-Of.is (c.in_ok-glue.ensures.leads to) c.add_glue.ensures.goes }

pub returns-in-Stops : goal.returns-in-Stops
returns-in-Stops g c = record { goes = read-ends (behind_reading to) executed c.in-Stops.went c.in-Stops.is refl (c.in_ok-glue.ensures.leads to) }

pub returns-in_err-glue : goal.returns-in_err-glue
returns-in_err-glue g c = record { goes = read-fails c.from_residual.result c.from_residual.ensures.0 (c.in_err-glue.ensures.leads to) }
