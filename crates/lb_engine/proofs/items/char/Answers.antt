use Rattle.lb_model_engine.specs.Words.{char}
use Rattle.lb_model_engine.specs.Reads.{code}
use Rattle.lb_model_nest.specs.Words.{character_put}
use Rattle.lb_model_nest.specs.Paragraphs.{begun_in_vertical}
use Rattle.lb_engine.proofs.LeadsLemmas.{leads-ended, leads-then}
use Rattle.lb_engine.proofs.items.char.Goals as goal
use Rattle.std.proofs.Common.{true}

pub returns-in-On : goal.returns-in-On
unfolding char
returns-in-On g c = record { goes = leads-then (begun_in_vertical true) (λ v. code (λ n u. character_put n u) v) c.read_character.result c.in-On.is c.in_ok-went.ensures.goes c.read_character.ensures.goes }

pub returns-in_default : goal.returns-in_default
unfolding char
returns-in_default g c = record { goes = leads-ended (begun_in_vertical true) (λ v. code (λ n u. character_put n u) v) c.in_ok-went.went c.in_default.not-On c.in_ok-went.ensures.goes }
