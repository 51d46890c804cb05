use Rattle.lb_model_nest.specs.Fonts.{present}
use Rattle.lb_model_nest.specs.Items.{discretionary_hyphen, hyphen_in}
use Rattle.lb_model_nest.specs.Paragraphs.{begun_in_vertical}
use Rattle.lb_nest.proofs.LeadsLemmas.{leads-then}
use Rattle.std.specs.Prelude.{true}
use Rattle.lb_nest.proofs.corrections.discretionary_hyphen.Goals as goal

pub returns-in-On : goal.returns-in-On
unfolding discretionary_hyphen
returns-in-On g c =
    record { goes = leads-then (begun_in_vertical true) (present hyphen_in) c.add_present_hyphen.result c.in-On.is c.in_ok-went.ensures.goes (c.add_present_hyphen.ensures.goes c.begin_in_vertical.new.left) }
