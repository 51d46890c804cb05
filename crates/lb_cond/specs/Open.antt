-- Open conditionals, as the code tells of them.
use Rattle.std.specs.Prelude.{List, [], ◌∷◌, Option, None, Some}
use Rattle.lb_model.specs.declared.open.Conditional.{Conditional}

-- the innermost conditional and those around it, where the last of these stands for none
abbrev pub conditionals_of : Conditional → List Conditional → List Conditional
conditionals_of inner [] = []
conditionals_of inner (c ∷ around) = inner ∷ conditionals_of c around

abbrev pub innermost : List Conditional → Option Conditional
innermost [] = None
innermost (c ∷ conditionals) = Some c

-- the innermost one is this
abbrev pub replaced : Conditional → List Conditional → List Conditional
replaced part [] = []
replaced part (c ∷ conditionals) = part ∷ conditionals
