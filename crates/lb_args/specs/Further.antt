-- Arguments behind those that are there already, and where parameters stand.
use Rattle.std.specs.Prelude.{◌++◌, Bool, true, false, List, [], ◌∷◌}
use Rattle.lb_base.specs.declared.token.Tok.{Tok}
use Rattle.lb_base.specs.declared.token.Tok.TheVariants.{Param}
use Rattle.lb_model.specs.Configs.{Config}
use Rattle.lb_model.specs.Readings.{Took, then_taken, whole}

-- what is taken stands behind these arguments
abbrev pub further : List (List Tok) → (Config → Took (List (List Tok))) → Config → Took (List (List Tok))
further so_far took c = then_taken (took c) (λ xs e. whole (so_far ++ xs) e)

abbrev pub is_parameter : Tok → Bool
is_parameter (Param n) = true
is_parameter tok = false

-- a list begins with a parameter, where it is not empty
abbrev pub AtParameter : List Tok → Type 0
AtParameter [] = Unit {0}
AtParameter (Param n ∷ toks) = Unit {0}
AtParameter (t ∷ toks) = ⊥
