use Rattle.lb_model_engine.specs.Items.{hskip}
use Rattle.lb_model_engine.specs.Reads.{glue}
use Rattle.lb_model_nest.specs.Items.{glue_added}
use Rattle.lb_model_nest.specs.Paragraphs.{begun_in_vertical}
use Rattle.lb_engine.proofs.LeadsLemmas.{leads-ended, leads-then}
use Rattle.lb_engine.proofs.items.hskip.Goals as goal
use Rattle.std.proofs.Common.{true}

pub returns-in-On : goal.returns-in-On
unfolding hskip
returns-in-On g c = record { goes = leads-then (begun_in_vertical true) (λ v. glue glue_added v) c.read_glue.result c.in-On.is c.in_ok-went.ensures.goes c.read_glue.ensures.goes }

pub returns-in_default : goal.returns-in_default
unfolding hskip
returns-in_default g c = record { goes = leads-ended (begun_in_vertical true) (λ v. glue glue_added v) c.in_ok-went.went c.in_default.not-On c.in_ok-went.ensures.goes }
