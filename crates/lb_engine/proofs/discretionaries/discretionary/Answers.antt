use Rattle.lb_engine.proofs.LeadsLemmas.{leads-ended, leads-then}
use Rattle.lb_model_engine.specs.Material.{discretionary, parts_begun, three_arguments}
use Rattle.lb_model_nest.specs.Paragraphs.{begun_in_vertical}
use Rattle.std.proofs.Common.{true}
use Rattle.lb_engine.proofs.discretionaries.discretionary.Goals as goal

pub returns-in-On : goal.returns-in-On
unfolding discretionary
returns-in-On g c = record { goes = leads-then (begun_in_vertical true) (three_arguments parts_begun) c.with_parts.result c.in-On.is c.in_ok-went.ensures.goes c.with_parts.ensures.goes }

pub returns-in_default : goal.returns-in_default
unfolding discretionary
returns-in_default g c = record { goes = leads-ended (begun_in_vertical true) (three_arguments parts_begun) c.in_ok-went.went c.in_default.not-On c.in_ok-went.ensures.goes }
