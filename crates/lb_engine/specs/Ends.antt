-- Ends of environments that are under way.
use Rattle.std.specs.Prelude.{◌≡◌, ◌∷◌, ℕ, List}
use Rattle.lb_model.specs.Sources.Item.{Pending}
use Rattle.lb_model_engine.specs.Environments.{boundary}
use Rattle.lb_engine.specs.declared.engine.Engine.{Engine}

-- the end of one more environment is under way, behind a boundary
abbrev pub IsBounded : List ℕ → Engine → Engine → Type 0
IsBounded name new old =
    new ≡ record old { desk = record old.desk { source = Pending boundary ∷ old.desk.source }; ending = name ∷ old.ending }
