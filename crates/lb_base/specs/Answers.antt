-- What a call answers, by a definition that is a value or the kind of a fault.
use Rattle.std.specs.Prelude.{◌≡◌, Result, Ok, Err, ⊤}
use Rattle.lb_base.specs.declared.fault.Kind.{Kind}
use Rattle.lb_base.specs.declared.fault.Stop.{Stop}
use Rattle.lb_base.specs.declared.fault.Stop.TheVariants.{At, Fault, Memory}

-- The call answers exactly what is meant. Of want of memory nothing is said, and a fault at a place of its own never comes.
abbrev pub Answers : {T : Type 0} → Result T Kind → Result T Stop → Type 0
Answers meant (Ok value) = meant ≡ Ok value
Answers meant (Err Memory) = ⊤
Answers meant (Err (Fault kind)) = meant ≡ Err kind
Answers meant (Err (At fault)) = ⊥
