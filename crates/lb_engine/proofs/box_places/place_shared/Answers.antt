use Rattle.lb_engine.proofs.RowLemmas.{act-is}
use Rattle.lb_model_nest.specs.Boxes.{box_placed}
use Rattle.std.proofs.Common.{refl, sym}
use Rattle.lb_engine.proofs.box_places.place_shared.Goals as goal

pub returns-in-Shifted : goal.returns-in-Shifted
returns-in-Shifted g c = record { goes = c.place_own.ensures.goes }

pub change-requires-clause-settable : goal.change-requires-clause-settable
change-requires-clause-settable g c = refl

pub change-requires-clause-fits : goal.change-requires-clause-fits
change-requires-clause-fits g c = λ p h s. refl

pub returns-in-Register : goal.returns-in-Register
unfolding box_placed
returns-in-Register g c = record { goes = act-is (λ x. box_placed x c.args.boxed) c.change.result (sym c.in-Register.is) c.change.ensures.goes }
