-- What the laws of lists and boxes speak of: lists without discretionaries, and when the glue of a box takes up exactly its
-- excess.
use Rattle.std.specs.Prelude.{◌≡◌, ◌≢◌, ◌⊎◌, All, List, [], ◌∷◌, None, ℤ, pos, ◌<ℤ◌, false}
use Rattle.lb_base.specs.declared.glue.Glue.{Glue}
use Rattle.lb_base.specs.declared.glue.GlueSet.{GlueSet}
use Rattle.lb_base.specs.declared.glue.Order.TheVariants.{Finite}
use Rattle.lb_base.specs.declared.node.Axis.{Axis}
use Rattle.lb_base.specs.declared.node.Axis.TheVariants.{Horizontal, Vertical}
use Rattle.lb_base.specs.declared.node.Boxed.{Boxed, out-Boxed}
use Rattle.lb_base.specs.declared.node.Node.{Node}
use Rattle.lb_model_paper.specs.Boxes.{is_overfull}
use Rattle.lb_model_paper.specs.Nodes.{unbroken_parts}

-- each node of a list shows itself
abbrev pub HasNoDiscretionary : List Node → Type 0
HasNoDiscretionary nodes = All (λ node. unbroken_parts node ≡ None) nodes

-- where there is nothing to take up; where the glue stretches, and has something to stretch; and where it shrinks, and has shrink
-- enough
abbrev pub TakesUpAll : GlueSet → ℤ → Type 0
TakesUpAll set whole =
    (set.excess ≡ pos 0) ⊎ ((pos 0 <ℤ set.excess × (whole ≢ pos 0)) ⊎ (set.excess <ℤ pos 0 × (whole ≢ pos 0) × (is_overfull set whole ≡ false)))

-- the size of a box along its list
abbrev pub size_along : Axis → Boxed → ℤ
size_along Horizontal box = (out-Boxed box).width
size_along Vertical box = (out-Boxed box).height

-- a glue of width 0 that stretches by 1sp, three times one node, and an excess of 2sp to be taken up
abbrev pub unit_stretch : Glue
unit_stretch = record { width = pos 0; stretch = pos 1; stretch_order = Finite; shrink = pos 0; shrink_order = Finite }

abbrev pub three_times : Node → List Node
three_times node = node ∷ node ∷ node ∷ []

abbrev pub two_more : GlueSet
two_more = record { excess = pos 2; order = Finite }
