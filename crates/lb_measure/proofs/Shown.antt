-- What lists show one behind another.
use Rattle.std.proofs.Common.{◌≡◌, ℕ, zero, suc, ◌<◌, ◌≤◌, List, [], ◌∷◌, ◌++◌, Option, None, Some, refl, sym, ap, ◌∙◌, arith}
use Rattle.std.proofs.lemmas.List.{append-nil, append_assoc}
use Rattle.lb_base.specs.declared.node.Node.{Node}
use Rattle.lb_model_paper.specs.Nodes.{shown, unbroken_parts, weight_of}
use Rattle.lb_model_paper.proofs.ShownLists.{list_weight, list_weight-cons, list_weight-append, shown-nil, shown-disc, shown-other, weight_of-disc, weight_of-other}

some_weight : (node : Node) (o : Option (List Node)) → unbroken_parts node ≡ o → 0 < weight_of node
some_weight node None is = omega (arith, weight_of-other node is)
some_weight node (Some parts) is = omega (arith, weight_of-disc node parts is)

turn : (n : ℕ) (node : Node) (nodes more : List Node) (o : Option (List Node)) → unbroken_parts node ≡ o → list_weight (node ∷ nodes) ≤ suc n
    → ((first : List Node) → list_weight first ≤ n → shown (first ++ more) ≡ shown first ++ shown more)
    → shown (node ∷ nodes ++ more) ≡ shown (node ∷ nodes) ++ shown more
turn n node nodes more None is le rest =
    let less : list_weight nodes ≤ n = omega (arith, list_weight-cons node nodes, weight_of-other node is) in
    shown-other node (nodes ++ more) is ∙ ap (λ (ns : List Node). node ∷ ns) (rest nodes less) ∙ ap (λ (ns : List Node). ns ++ shown more) (sym (shown-other node nodes is))
turn n node nodes more (Some parts) is le rest =
    let less : list_weight (parts ++ nodes) ≤ n = omega (arith, list_weight-cons node nodes, list_weight-append parts nodes, weight_of-disc node parts is) in
    shown-disc node parts (nodes ++ more) is ∙ ap shown (sym (append_assoc parts nodes more)) ∙ rest (parts ++ nodes) less ∙ ap (λ (ns : List Node). ns ++ shown more) (sym (shown-disc node parts nodes is))

shown-append_within : (n : ℕ) (nodes more : List Node) → list_weight nodes ≤ n → shown (nodes ++ more) ≡ shown nodes ++ shown more
shown-append_within n [] more le = sym (ap (λ (ns : List Node). ns ++ shown more) shown-nil)
shown-append_within zero (node ∷ nodes) more le = absurd (omega (arith, list_weight-cons node nodes, some_weight node (unbroken_parts node) refl))
shown-append_within (suc n) (node ∷ nodes) more le = turn n node nodes more (unbroken_parts node) refl le (λ first less. shown-append_within n first more less)

pub shown-append : (nodes more : List Node) → shown (nodes ++ more) ≡ shown nodes ++ shown more
shown-append nodes more = let le : list_weight nodes ≤ list_weight nodes = omega arith in shown-append_within (list_weight nodes) nodes more le

-- what a discretionary shows, and what another node does
pub shown_one-disc : (node : Node) (parts : List Node) → unbroken_parts node ≡ Some parts → shown (node ∷ []) ≡ shown parts
shown_one-disc node parts is = shown-disc node parts [] is ∙ shown-append parts [] ∙ ap (λ (ns : List Node). shown parts ++ ns) shown-nil ∙ append-nil (shown parts)

pub shown_one-other : (node : Node) → unbroken_parts node ≡ None → shown (node ∷ []) ≡ node ∷ []
shown_one-other node is = shown-other node [] is ∙ ap (λ (ns : List Node). node ∷ ns) shown-nil
