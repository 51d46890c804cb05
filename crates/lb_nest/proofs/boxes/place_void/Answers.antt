use Rattle.lb_model_nest.specs.Boxes.{void_placed}
use Rattle.lb_nest.proofs.LeadsLemmas.{leads-as}
use Rattle.lb_nest.proofs.boxes.place_void.Goals as goal

pub returns-in-Register : goal.returns-in-Register
returns-in-Register g c = record { goes = λ left. leads-as void_placed c.change.result c.in-Register.is (c.change.ensures.goes left) }
