-- Items that are put behind a list one by one.
use Rattle.std.proofs.Common.{◌≡◌, ◌∙◌, ap, List, [], ◌∷◌, ◌++◌, ℤ, append_assoc}
use Rattle.lb_base.specs.declared.node.Boxed.{Boxed}
use Rattle.lb_base.specs.declared.node.Node.{Node}
use Rattle.lb_model_paper.specs.PageBoxes.{box_at, kern}

pub join : (old before new more : List Node) (x : Node) → before ≡ old ++ more → new ≡ before ++ x ∷ [] → new ≡ old ++ (more ++ x ∷ [])
join old before new more x is last = last ∙ ap (λ (ns : List Node). ns ++ x ∷ []) is ∙ append_assoc old more (x ∷ [])

pub join-list : (old before new more last : List Node) → before ≡ old ++ more → new ≡ before ++ last → new ≡ old ++ (more ++ last)
join-list old before new more last is added = added ∙ ap (λ (ns : List Node). ns ++ last) is ∙ append_assoc old more last

pub a_kern : (old new : List Node) (k width : ℤ) → new ≡ old ++ kern k ∷ [] → k ≡ width → new ≡ old ++ kern width ∷ []
a_kern old new k width is same = is ∙ ap (λ (z : ℤ). old ++ kern z ∷ []) same

pub a_box : (old new : List Node) (k shift : ℤ) (box : Boxed) → new ≡ old ++ box_at k box ∷ [] → k ≡ shift → new ≡ old ++ box_at shift box ∷ []
a_box old new k shift box is same = is ∙ ap (λ (z : ℤ). old ++ box_at z box ∷ []) same

pub shape : (a head : List Node) (x y : Node) (feet foot : List Node) → (((((a ++ head) ++ x ∷ []) ++ y ∷ []) ++ feet) ++ foot) ≡ (a ++ (head ++ x ∷ y ∷ (feet ++ foot)))
shape a head x y feet foot =
    append_assoc (((a ++ head) ++ x ∷ []) ++ y ∷ []) feet foot
    ∙ append_assoc ((a ++ head) ++ x ∷ []) (y ∷ []) (feet ++ foot)
    ∙ append_assoc (a ++ head) (x ∷ []) (y ∷ (feet ++ foot))
    ∙ append_assoc a head (x ∷ y ∷ (feet ++ foot))
