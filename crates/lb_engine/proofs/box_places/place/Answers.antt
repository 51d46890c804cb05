use Rattle.lb_engine.proofs.RowLemmas.{act-is}
use Rattle.lb_model_nest.specs.Boxes.{placed}
use Rattle.std.proofs.Common.{sym}
use Rattle.lb_engine.proofs.box_places.place.Goals as goal

pub returns-in-Some : goal.returns-in-Some
returns-in-Some g c = record { goes = act-is (placed c.args.context) c.place_shared.result (sym c.in-Some.is) c.place_shared.ensures.goes }

pub returns-in-None : goal.returns-in-None
returns-in-None g c = record { goes = act-is (placed c.args.context) c.place_void.result (sym c.in-None.is) c.place_void.ensures.goes }
