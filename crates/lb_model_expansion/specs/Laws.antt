-- What holds of the steps that are left.
use Rattle.std.specs.Prelude.{◌≡◌, ◌≤◌, suc}
use Rattle.lb_base.specs.declared.token.Tok.{Tok}
use Rattle.lb_model.specs.Configs.{Config, taken_by}
use Rattle.lb_model.specs.declared.place.Got.TheVariants.{Tok as GotTok}
use Rattle.lb_model_expansion.specs.Expansion.{ran, step}
use Rattle.lb_model_expansion.specs.declared.expansion.Went.TheVariants.{Gave}
use Rattle.lb_model_expansion.specs.Steps.{Performed, ends_pass}

-- whatever is done, no more steps are left than there were
abbrev pub NeverRise : (Config → Performed) → Type 0
NeverRise act = (c : Config) → (act c).done.next.left ≤ c.left

-- where a step begins with a token, at least one less is left behind it
abbrev pub TokenTakesAStep : Type 0
TokenTakesAStep = (c : Config) (tok : Tok) → (taken_by (ends_pass c.readings) c).got ≡ GotTok tok → suc (step c).done.next.left ≤ c.left

-- where expansion gives a token, at least one less is left too
abbrev pub GivenTakesAStep : Type 0
GivenTakesAStep = (c : Config) (tok : Tok) → (ran c).done.went ≡ Gave tok → suc (ran c).done.next.left ≤ c.left
