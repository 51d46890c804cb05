use Rattle.lb_engine.proofs.LeadsLemmas.{leads-ended, leads-then}
use Rattle.lb_model_engine.specs.Material.{three_put}
use Rattle.lb_model_nest.specs.Boxes.{parts_opened}
use Rattle.lb_engine.proofs.discretionaries.begin_parts.Goals as goal

pub returns-in-On : goal.returns-in-On
returns-in-On g c = record { goes = leads-then (three_put c.args.first c.args.second c.args.third) parts_opened c.open_parts.result c.in-On.is c.in_ok-went.ensures.goes c.open_parts.ensures.goes }

pub returns-in_default : goal.returns-in_default
returns-in_default g c = record { goes = leads-ended (three_put c.args.first c.args.second c.args.third) parts_opened c.in_ok-went.went c.in_default.not-On c.in_ok-went.ensures.goes }
