use Rattle.lb_model_nest.specs.Paragraphs.{begun_in_vertical}
use Rattle.lb_model_nest.specs.Words.{character, character_put}
use Rattle.lb_nest.proofs.LeadsLemmas.{leads-then}
use Rattle.std.specs.Prelude.{true}
use Rattle.lb_nest.proofs.characters.character.Goals as goal

pub returns-in-On : goal.returns-in-On
unfolding character
returns-in-On g c =
    record { goes = leads-then (begun_in_vertical true) (character_put c.args.code) c.put_character.result c.in-On.is c.in_ok-went.ensures.goes (c.put_character.ensures.goes c.begin_in_vertical.new.left) }
