-- Boxes that can be lifted by their height and by their depth.
use Rattle.std.specs.Prelude.{Option, None, Some, ℤ, pos, neg_ℤ, ◌≤ℤ◌, ⊤}
use Rattle.lb_base.specs.declared.node.Boxed.{Boxed, out-Boxed}

abbrev pub IsNegatable : ℤ → Type 0
IsNegatable z = neg_ℤ (pos 2147483647) ≤ℤ z

pub record IsLiftable (box : Boxed) : Type 0 where
  pub height : IsNegatable (out-Boxed box).height
  pub depth : IsNegatable (out-Boxed box).depth

abbrev pub IsNegatableBox : Option Boxed → Type 0
IsNegatableBox None = ⊤
IsNegatableBox (Some box) = IsLiftable box
