use Rattle.lb_engine.proofs.LeadsLemmas.{leads-ended, leads-then}
use Rattle.lb_engine.proofs.latex_spaces.hspace_of.Goals as goal
use Rattle.lb_model_engine.specs.Reads.{glue_in}
use Rattle.lb_model_nest.specs.Items.{hspace_put}
use Rattle.lb_model_nest.specs.Paragraphs.{begun_in_vertical}
use Rattle.std.specs.Prelude.{true}

pub returns-in-On : goal.returns-in-On
returns-in-On g c = record { goes = leads-then (begun_in_vertical true) (λ v. glue_in c.args.toks (hspace_put c.args.starred) v) c.put_hspace_of.result c.in-On.is c.in_ok-went.ensures.goes c.put_hspace_of.ensures.goes }

pub returns-in_default : goal.returns-in_default
returns-in_default g c = record { goes = leads-ended (begun_in_vertical true) (λ v. glue_in c.args.toks (hspace_put c.args.starred) v) c.in_ok-went.went c.in_default.not-On c.in_ok-went.ensures.goes }
