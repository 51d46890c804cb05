-- What holds of headings.
use Rattle.std.specs.Prelude.{◌≡◌, [], true}
use Rattle.lb_model.specs.declared.world.World.{World}
use Rattle.lb_model.specs.Settings.{State}
use Rattle.lb_model_sections.specs.declared.heading.HeadWant.{HeadWant}
use Rattle.lb_model_sections.specs.Headings.{heading}

-- a heading with a star steps no counter
abbrev pub StarStepsNothing : Type 0
StarStepsNothing = (want : HeadWant) (w : World) (s : State) → want.star ≡ true → (heading want w s).changes ≡ []
