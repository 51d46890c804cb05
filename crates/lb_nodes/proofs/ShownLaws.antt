-- What lists show, part by part.
use Rattle.std.proofs.Common.{◌≡◌, ℕ, zero, suc, ◌<◌, ◌≤◌, List, [], ◌∷◌, ◌++◌, length, Option, None, Some, refl, sym, ap, ◌∙◌, subst, arith}
use Rattle.std.proofs.lemmas.List.{append_assoc}
use Rattle.std.proofs.lemmas.List.Elements.{All-cons}
use Rattle.lb_base.specs.declared.node.Discretionary.{Discretionary, out-Discretionary}
use Rattle.lb_base.specs.declared.node.Node as made
use Rattle.lb_base.specs.declared.node.Node.{Node}
use Rattle.lb_model_paper.specs.Nodes.{shown, unbroken_parts}
use Rattle.lb_nodes.specs.Laws.{HasNoDiscretionary}
use Rattle.lb_model_paper.proofs.ShownLists.{list_weight, list_weight-append, list_weight-cons, shown-disc, shown-nil, shown-other, unbroken_parts-disc, weight_of-disc, weight_of-other}

-- the weight of a list without its first node, or with the parts of that in its place
lighter-disc : (node : Node) (parts nodes : List Node) (n : ℕ) → unbroken_parts node ≡ Some parts → list_weight (node ∷ nodes) ≤ suc n → list_weight (parts ++ nodes) ≤ n
lighter-disc node parts nodes n is within = omega (arith, list_weight-cons node nodes, weight_of-disc node parts is, list_weight-append parts nodes)

lighter-other : (node : Node) (nodes : List Node) (n : ℕ) → unbroken_parts node ≡ None → list_weight (node ∷ nodes) ≤ suc n → list_weight nodes ≤ n
lighter-other node nodes n is within = omega (arith, list_weight-cons node nodes, weight_of-other node is)

some_weight : (node : Node) (nodes : List Node) (found : Option (List Node)) → unbroken_parts node ≡ found → list_weight (node ∷ nodes) ≤ 0 → ⊥
some_weight node nodes (Some parts) is none = omega (arith, list_weight-cons node nodes, weight_of-disc node parts is)
some_weight node nodes None is none = omega (arith, list_weight-cons node nodes, weight_of-other node is)

-- ---- lists one behind another

joined_by : (n : ℕ) (node : Node) (nodes more : List Node) (found : Option (List Node)) → unbroken_parts node ≡ found → list_weight (node ∷ nodes) ≤ suc n → ((ns : List Node) → list_weight ns ≤ n → shown (ns ++ more) ≡ shown ns ++ shown more) → shown (node ∷ (nodes ++ more)) ≡ shown (node ∷ nodes) ++ shown more
joined_by n node nodes more (Some parts) is within before =
    shown-disc node parts (nodes ++ more) is
    ∙ ap shown (sym (append_assoc parts nodes more))
    ∙ before (parts ++ nodes) (lighter-disc node parts nodes n is within)
    ∙ ap (λ (ns : List Node). ns ++ shown more) (sym (shown-disc node parts nodes is))
joined_by n node nodes more None is within before =
    shown-other node (nodes ++ more) is
    ∙ ap (λ (ns : List Node). node ∷ ns) (before nodes (lighter-other node nodes n is within))
    ∙ ap (λ (ns : List Node). ns ++ shown more) (sym (shown-other node nodes is))

joined_within : (n : ℕ) (nodes more : List Node) → list_weight nodes ≤ n → shown (nodes ++ more) ≡ shown nodes ++ shown more
joined_within zero [] more within = ap (λ (ns : List Node). ns ++ shown more) (sym shown-nil)
joined_within zero (node ∷ nodes) more within = absurd (some_weight node nodes (unbroken_parts node) refl within)
joined_within (suc n) [] more within = ap (λ (ns : List Node). ns ++ shown more) (sym shown-nil)
joined_within (suc n) (node ∷ nodes) more within = joined_by n node nodes more (unbroken_parts node) refl within (λ ns less. joined_within n ns more less)

at_most_itself : (n : ℕ) → n ≤ n
at_most_itself n = omega arith

pub shown-joined : (nodes more : List Node) → shown (nodes ++ more) ≡ shown nodes ++ shown more
shown-joined nodes more = joined_within (list_weight nodes) nodes more (at_most_itself (list_weight nodes))

pub shown-Disc : (parts : Discretionary) (nodes : List Node) → shown (made.Disc parts ∷ nodes) ≡ shown (out-Discretionary parts).no_break ++ shown nodes
shown-Disc parts nodes = shown-disc (made.Disc parts) (out-Discretionary parts).no_break nodes (unbroken_parts-disc (made.Disc parts) parts refl) ∙ shown-joined (out-Discretionary parts).no_break nodes

-- ---- no discretionary is left

none_by : (n : ℕ) (node : Node) (nodes : List Node) (found : Option (List Node)) → unbroken_parts node ≡ found → list_weight (node ∷ nodes) ≤ suc n → ((ns : List Node) → list_weight ns ≤ n → HasNoDiscretionary (shown ns)) → HasNoDiscretionary (shown (node ∷ nodes))
none_by n node nodes (Some parts) is within before =
    let P : List Node → Type 0 = λ ns. HasNoDiscretionary ns in
    subst P (sym (shown-disc node parts nodes is)) (before (parts ++ nodes) (lighter-disc node parts nodes n is within))
none_by n node nodes None is within before =
    let P : List Node → Type 0 = λ ns. HasNoDiscretionary ns in
    let Q : Node → Type 0 = λ m. unbroken_parts m ≡ None in
    subst P (sym (shown-other node nodes is)) (All-cons Q node (shown nodes) is (before nodes (lighter-other node nodes n is within)))

none_of_nothing : HasNoDiscretionary (shown [])
none_of_nothing =
    let P : List Node → Type 0 = λ ns. HasNoDiscretionary ns in
    subst P (sym shown-nil) (λ k d less. (let no : ⊥ = omega arith in absurd no))

none_within : (n : ℕ) (nodes : List Node) → list_weight nodes ≤ n → HasNoDiscretionary (shown nodes)
none_within zero [] within = none_of_nothing
none_within zero (node ∷ nodes) within = absurd (some_weight node nodes (unbroken_parts node) refl within)
none_within (suc n) [] within = none_of_nothing
none_within (suc n) (node ∷ nodes) within = none_by n node nodes (unbroken_parts node) refl within (λ ns less. none_within n ns less)

pub shown-none_left : (nodes : List Node) → HasNoDiscretionary (shown nodes)
shown-none_left nodes = none_within (list_weight nodes) nodes (at_most_itself (list_weight nodes))

pub shown-itself : (nodes : List Node) → HasNoDiscretionary nodes → shown nodes ≡ nodes
shown-itself [] none = shown-nil
shown-itself (node ∷ nodes) none =
    let some : 0 < length (node ∷ nodes) = omega arith in
    let rest : HasNoDiscretionary nodes = λ k d less. (let more : suc k < length (node ∷ nodes) = omega arith in none (suc k) d more) in
    shown-other node nodes (none 0 node some) ∙ ap (λ (ns : List Node). node ∷ ns) (shown-itself nodes rest)
