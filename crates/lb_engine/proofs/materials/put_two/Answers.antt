use Rattle.lb_engine.proofs.LeadsLemmas.{leads-ended, leads-then}
use Rattle.lb_model_engine.specs.Reads.{put_closed}
use Rattle.lb_engine.proofs.materials.put_two.Goals as goal

pub returns-in-On : goal.returns-in-On
returns-in-On g c = record { goes = leads-then (put_closed c.args.second) (put_closed c.args.first) c.put_closed-in-On.result c.in-On.is c.in_ok-went.ensures.goes c.put_closed-in-On.ensures.goes }

pub returns-in_default : goal.returns-in_default
returns-in_default g c = record { goes = leads-ended (put_closed c.args.second) (put_closed c.args.first) c.in_ok-went.went c.in_default.not-On c.in_ok-went.ensures.goes }
