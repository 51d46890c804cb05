use Rattle.std.proofs.Common.{◌∷◌, []}
use Rattle.lb_model_engine.specs.Definitions.{meaning_copied}
use Rattle.lb_model_nest.specs.Wholes.{put}
use Rattle.lb_engine.proofs.LeadsLemmas.{leads-ended, leads-then}
use Rattle.lb_engine.proofs.copied_meanings.copy_second.Goals as goal

pub returns-in-On : goal.returns-in-On
returns-in-On g c = record { goes = leads-then (put (c.args.first ∷ c.args.second.now ∷ [])) (meaning_copied c.args.reach c.args.name.now c.args.second.now) c.copy_meaning.result c.in-On.is c.in_ok-went.ensures.goes c.copy_meaning.ensures.goes }

pub returns-in_default : goal.returns-in_default
returns-in_default g c = record { goes = leads-ended (put (c.args.first ∷ c.args.second.now ∷ [])) (meaning_copied c.args.reach c.args.name.now c.args.second.now) c.in_ok-went.went c.in_default.not-On c.in_ok-went.ensures.goes }
