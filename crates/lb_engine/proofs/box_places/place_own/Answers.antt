use Rattle.lb_engine.proofs.RowLemmas.{act-is}
use Rattle.lb_model_nest.specs.Boxes.{box_placed}
use Rattle.lb_engine.proofs.box_places.place_own.Goals as goal

pub returns : goal.returns
returns g c = record { goes = act-is (λ b. box_placed c.args.context b) c.place_box.result c.in_ok-own.ensures c.place_box.ensures.goes }
