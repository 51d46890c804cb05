use Rattle.lb_model_nest.specs.Boxes.{part_behind}
use Rattle.lb_nest.proofs.LeadsLemmas.{leads-as}
use Rattle.lb_nest.proofs.material.open_next_part.Goals as goal

pub returns-in-PreBreak : goal.returns-in-PreBreak
returns-in-PreBreak g c = record { goes = λ left. leads-as part_behind c.open_list.result c.in-PreBreak.is (c.open_list.ensures.goes left) }

pub returns-in-PostBreak : goal.returns-in-PostBreak
returns-in-PostBreak g c = record { goes = λ left. leads-as part_behind c.open_list-in-PostBreak.result c.in-PostBreak.is (c.open_list-in-PostBreak.ensures.goes left) }
