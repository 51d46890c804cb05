use Rattle.lb_engine.proofs.LeadsLemmas.{leads-ended, leads-then}
use Rattle.lb_model_engine.specs.Reads.{glue}
use Rattle.lb_model_nest.specs.Items.{glue_added}
use Rattle.lb_model_nest.specs.Paragraphs.{paragraph_ended}
use Rattle.lb_engine.proofs.skips.skip_behind.Goals as goal

pub returns-in-On : goal.returns-in-On
returns-in-On g c = record { goes = leads-then paragraph_ended (λ v. glue glue_added v) c.read_glue.result c.in-On.is c.in_ok-went.ensures.goes c.read_glue.ensures.goes }

pub returns-in_default : goal.returns-in_default
returns-in_default g c = record { goes = leads-ended paragraph_ended (λ v. glue glue_added v) c.in_ok-went.went c.in_default.not-On c.in_ok-went.ensures.goes }
