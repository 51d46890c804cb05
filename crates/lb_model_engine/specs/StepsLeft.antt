-- What holds of the steps that are left.
use Rattle.std.specs.Prelude.{◌≡◌, ◌≤◌, suc}
use Rattle.lb_base.specs.declared.token.Tok.{Tok}
use Rattle.lb_model.specs.declared.place.Place.{Place}
use Rattle.lb_model_expansion.specs.declared.expansion.Went.TheVariants.{Gave}
use Rattle.lb_model_expansion.specs.Expansion.{ran}
use Rattle.lb_model_nest.specs.Wholes.{Executed, Whole}
use Rattle.lb_model_engine.specs.Turns.{turn}

-- whatever is done, no more steps are left than there were
abbrev pub NeverRise : (Whole → Executed) → Type 0
NeverRise row = (w : Whole) → (row w).done.next.feed.left ≤ w.feed.left

-- where the feed gives a token to a turn, at least one less is left behind the turn
abbrev pub TokenTakesAStep : Type 0
TokenTakesAStep = (last : Place) (w : Whole) (tok : Tok) → (ran w.feed).done.went ≡ Gave tok → suc (turn last w).done.next.feed.left ≤ w.feed.left
