use Rattle.lb_model_nest.specs.Boxes.{list_ended, list_ended_in}
use Rattle.lb_model_nest.specs.Paragraphs.{paragraph_ended}
use Rattle.lb_nest.proofs.LeadsLemmas.{leads-then, leads-there}
use Rattle.lb_nest.specs.Views.{at_place}
use Rattle.lb_nest.proofs.list_end.end_list.Goals as goal

pub returns-in-On : goal.returns-in-On
unfolding list_ended
returns-in-On g c =
    let result = c.end_innermost.result in
    record { leads = leads-then paragraph_ended list_ended_in result c.in-On.is c.in_ok-went.ensures.goes (leads-there (at_place c.args.place.now) result (c.end_innermost.ensures.leads c.end_paragraph.new.left)) }
