-- What a list shows.
use Rattle.std.proofs.Common.{◌≡◌, ℕ, suc, ◌+◌, ◌<◌, ◌≤◌, List, [], ◌∷◌, ◌++◌, length, map, sum, reverse, take, drop, get_or, None, Some, refl, sym, ap, ◌∙◌, arith}
use Rattle.std.proofs.lemmas.List.{append-nil, append_assoc, map-append, reverse-append, reverse-reverse, drop_all, drop_more, take_all, take_more}
use Rattle.std.proofs.lemmas.List.Sums.{sum_by-append, sum_by-cons}
use Rattle.lb_base.specs.declared.node.Boxed.{Boxed, fold-Boxed}
use Rattle.lb_base.specs.declared.node.Discretionary.{Discretionary, out-Discretionary, fold-Discretionary, fold_out-Discretionary}
use Rattle.lb_base.specs.declared.node.HeadMark.{HeadMark, fold-HeadMark}
use Rattle.lb_base.specs.declared.node.HeadMark.TheOpen.{Char, Lig, Kern, Glue, Penalty, Disc, Rule, Boxed as InnerBox, Note, Mark, Ins, Adjust}
use Rattle.lb_base.specs.declared.node.Node as made
use Rattle.lb_base.specs.declared.node.Node.{Node, Node-F, out-Node, roll-Node, roll-out-Node, map-Node, fold-Node, fold_out-Node}
use Rattle.lb_base.specs.declared.node.Node.TheVariants.{outs-Disc, rolls-Disc}
use Rattle.lb_model_paper.specs.Nodes.{shown, shown_within, unbroken_parts, unbroken_parts_in, weight_in, weight_of}

-- how many nodes have to be looked at to show a list
abbrev pub list_weight : List Node → ℕ
list_weight nodes = sum (map weight_of nodes)

pub list_weight-cons : (node : Node) (nodes : List Node) → list_weight (node ∷ nodes) ≡ weight_of node + list_weight nodes
list_weight-cons node nodes = sum_by-cons (λ (n : ℕ). n) (weight_of node) (map weight_of nodes)

pub list_weight-append : (nodes more : List Node) → list_weight (nodes ++ more) ≡ list_weight nodes + list_weight more
list_weight-append nodes more = ap sum (map-append weight_of nodes more) ∙ sum_by-append (λ (n : ℕ). n) (map weight_of nodes) (map weight_of more)

-- the weight of the third part of a discretionary
abbrev parts_weight : Discretionary → ℕ
parts_weight = fold-Discretionary ℕ ℕ ℕ ℕ (λ _. 0) weight_in (λ _. 0) (λ parts. sum parts.no_break)

parts_weight_is : (parts : Discretionary) → parts_weight parts ≡ list_weight (out-Discretionary parts).no_break
parts_weight_is parts = fold_out-Discretionary ℕ ℕ ℕ ℕ (λ _. 0) weight_in (λ _. 0) (λ parts. sum parts.no_break) parts

-- the weight of a node by what it is
abbrev layer_weight : Node-F HeadMark Node Boxed Discretionary → ℕ
layer_weight layer = weight_in (map-Node HeadMark Node Boxed Discretionary ℕ ℕ ℕ ℕ (fold-HeadMark ℕ ℕ ℕ ℕ (λ _. 0) weight_in (λ _. 0) (λ parts. sum parts.no_break)) weight_of (fold-Boxed ℕ ℕ ℕ ℕ (λ _. 0) weight_in (λ _. 0) (λ parts. sum parts.no_break)) parts_weight layer)

weight_of_is : (node : Node) → weight_of node ≡ layer_weight (out-Node node)
weight_of_is node = fold_out-Node ℕ ℕ ℕ ℕ (λ _. 0) weight_in (λ _. 0) (λ parts. sum parts.no_break) node

layer_weight-disc : (layer : Node-F HeadMark Node Boxed Discretionary) (parts : List Node) → unbroken_parts_in layer ≡ Some parts → layer_weight layer ≡ suc (list_weight parts)
layer_weight-disc (Disc held) parts is =
    let same : (out-Discretionary held).no_break ≡ parts = cc in
    ap suc (parts_weight_is held ∙ ap list_weight same)
layer_weight-disc (Char code metrics font) parts is = cc
layer_weight-disc (Lig ligature) parts is = cc
layer_weight-disc (Kern width origin) parts is = cc
layer_weight-disc (Glue glue) parts is = cc
layer_weight-disc (Penalty penalty) parts is = cc
layer_weight-disc (Rule size) parts is = cc
layer_weight-disc (InnerBox box) parts is = cc
layer_weight-disc (Note note) parts is = cc
layer_weight-disc (Mark mark) parts is = cc
layer_weight-disc (Ins footnote) parts is = cc
layer_weight-disc (Adjust material) parts is = cc

layer_weight-other : (layer : Node-F HeadMark Node Boxed Discretionary) → unbroken_parts_in layer ≡ None → layer_weight layer ≡ 1
layer_weight-other (Disc held) is = cc
layer_weight-other (Char code metrics font) is = refl
layer_weight-other (Lig ligature) is = refl
layer_weight-other (Kern width origin) is = refl
layer_weight-other (Glue glue) is = refl
layer_weight-other (Penalty penalty) is = refl
layer_weight-other (Rule size) is = refl
layer_weight-other (InnerBox box) is = refl
layer_weight-other (Note note) is = refl
layer_weight-other (Mark mark) is = refl
layer_weight-other (Ins footnote) is = refl
layer_weight-other (Adjust material) is = refl

-- the weight of a discretionary, and of another node
pub weight_of-disc : (node : Node) (parts : List Node) → unbroken_parts node ≡ Some parts → weight_of node ≡ suc (list_weight parts)
weight_of-disc node parts is = weight_of_is node ∙ layer_weight-disc (out-Node node) parts is

pub weight_of-other : (node : Node) → unbroken_parts node ≡ None → weight_of node ≡ 1
weight_of-other node is = weight_of_is node ∙ layer_weight-other (out-Node node) is

-- ---- the two equations of what a list shows

shown_within-disc : (left : ℕ) (node : Node) (parts nodes : List Node) → unbroken_parts node ≡ Some parts → shown_within (suc left) (node ∷ nodes) ≡ shown_within left (parts ++ nodes)
shown_within-disc left node parts nodes is = rw (is, shown_within)

shown_within-other : (left : ℕ) (node : Node) (nodes : List Node) → unbroken_parts node ≡ None → shown_within (suc left) (node ∷ nodes) ≡ node ∷ shown_within left nodes
shown_within-other left node nodes is = rw (is, shown_within)

pub shown-nil : shown [] ≡ []
unfolding shown
shown-nil = refl

pub shown-disc : (node : Node) (parts nodes : List Node) → unbroken_parts node ≡ Some parts → shown (node ∷ nodes) ≡ shown (parts ++ nodes)
unfolding shown
shown-disc node parts nodes is =
    let weight : list_weight (node ∷ nodes) ≡ suc (list_weight (parts ++ nodes)) = omega (arith, list_weight-cons node nodes, weight_of-disc node parts is, list_weight-append parts nodes) in
    ap (λ (left : ℕ). shown_within left (node ∷ nodes)) weight ∙ shown_within-disc (list_weight (parts ++ nodes)) node parts nodes is

pub shown-other : (node : Node) (nodes : List Node) → unbroken_parts node ≡ None → shown (node ∷ nodes) ≡ node ∷ shown nodes
unfolding shown
shown-other node nodes is =
    let weight : list_weight (node ∷ nodes) ≡ suc (list_weight nodes) = omega (arith, list_weight-cons node nodes, weight_of-other node is) in
    ap (λ (left : ℕ). shown_within left (node ∷ nodes)) weight ∙ shown_within-other (list_weight nodes) node nodes is

-- ---- nodes as the code takes them apart

pub unbroken_parts-disc : (node : Node) (parts : Discretionary) → node ≡ made.Disc parts → unbroken_parts node ≡ Some (out-Discretionary parts).no_break
unbroken_parts-disc node parts is = ap unbroken_parts_in (ap out-Node is ∙ outs-Disc parts)

unbroken_parts_in-other : (node : Node) (layer : Node-F HeadMark Node Boxed Discretionary) → out-Node node ≡ layer → ((parts : Discretionary) → node ≡ made.Disc parts → ⊥) → unbroken_parts_in layer ≡ None
unbroken_parts_in-other node (Disc parts) is other = absurd (other parts (sym (roll-out-Node node) ∙ ap roll-Node is ∙ rolls-Disc parts))
unbroken_parts_in-other node (Char code metrics font) is other = refl
unbroken_parts_in-other node (Lig ligature) is other = refl
unbroken_parts_in-other node (Kern width origin) is other = refl
unbroken_parts_in-other node (Glue glue) is other = refl
unbroken_parts_in-other node (Penalty penalty) is other = refl
unbroken_parts_in-other node (Rule size) is other = refl
unbroken_parts_in-other node (InnerBox box) is other = refl
unbroken_parts_in-other node (Note note) is other = refl
unbroken_parts_in-other node (Mark mark) is other = refl
unbroken_parts_in-other node (Ins footnote) is other = refl
unbroken_parts_in-other node (Adjust material) is other = refl

pub unbroken_parts-other : (node : Node) → ((parts : Discretionary) → node ≡ made.Disc parts → ⊥) → unbroken_parts node ≡ None
unbroken_parts-other node other = unbroken_parts_in-other node (out-Node node) refl other

-- ---- a list without discretionaries

pub is_shown-turn : (nodes : List Node) (k : ℕ) (node : Node) → k < length nodes → node ≡ get_or nodes k node → unbroken_parts node ≡ None → shown nodes ≡ take k nodes ++ shown (drop k nodes) → shown nodes ≡ take (k + 1) nodes ++ shown (drop (k + 1) nodes)
is_shown-turn nodes k node within is none so_far =
    let rest : List Node = drop (k + 1) nodes in
    let next : drop k nodes ≡ node ∷ rest = drop_more nodes k node within ∙ ap (λ (n : Node). n ∷ rest) (sym is) in
    let first : take (k + 1) nodes ≡ take k nodes ++ node ∷ [] = take_more nodes k node within ∙ ap (λ (n : Node). take k nodes ++ n ∷ []) (sym is) in
    so_far ∙ ap (λ (ns : List Node). take k nodes ++ shown ns) next ∙ ap (λ (ns : List Node). take k nodes ++ ns) (shown-other node rest none) ∙ sym (append_assoc (take k nodes) (node ∷ []) (shown rest)) ∙ ap (λ (ns : List Node). ns ++ shown rest) (sym first)

pub is_shown-all : (nodes : List Node) (k : ℕ) → length nodes ≤ k → shown nodes ≡ take k nodes ++ shown (drop k nodes) → shown nodes ≡ nodes
is_shown-all nodes k past so_far =
    so_far ∙ ap (λ (ns : List Node). take k nodes ++ shown ns) (drop_all k nodes past) ∙ ap (λ (ns : List Node). take k nodes ++ ns) shown-nil ∙ append-nil (take k nodes) ∙ take_all k nodes past

-- ---- one turn over the nodes that are still to be shown, the next one last

next_of : (pending rest : List Node) (node : Node) → pending ≡ rest ++ node ∷ [] → reverse pending ≡ node ∷ reverse rest
next_of pending rest node is = ap reverse is ∙ reverse-append rest (node ∷ [])

parts_of : (pending rest parts : List Node) → pending ≡ rest ++ reverse parts → reverse pending ≡ parts ++ reverse rest
parts_of pending rest parts is = ap reverse is ∙ reverse-append rest (reverse parts) ∙ ap (λ (ns : List Node). ns ++ reverse rest) (reverse-reverse parts)

pub shown-turn_disc : (all nodes pending rest more parts : List Node) (node : Node) → pending ≡ rest ++ node ∷ [] → unbroken_parts node ≡ Some parts → more ≡ rest ++ reverse parts → nodes ++ shown (reverse pending) ≡ all → nodes ++ shown (reverse more) ≡ all
shown-turn_disc all nodes pending rest more parts node next disc is so_far =
    ap (λ (ns : List Node). nodes ++ shown ns) (parts_of more rest parts is) ∙ ap (λ (ns : List Node). nodes ++ ns) (sym (shown-disc node parts (reverse rest) disc)) ∙ ap (λ (ns : List Node). nodes ++ shown ns) (sym (next_of pending rest node next)) ∙ so_far

pub shown-turn_other : (all nodes pending rest more : List Node) (node : Node) → pending ≡ rest ++ node ∷ [] → unbroken_parts node ≡ None → more ≡ nodes ++ node ∷ [] → nodes ++ shown (reverse pending) ≡ all → more ++ shown (reverse rest) ≡ all
shown-turn_other all nodes pending rest more node next other is so_far =
    ap (λ (ns : List Node). ns ++ shown (reverse rest)) is ∙ append_assoc nodes (node ∷ []) (shown (reverse rest)) ∙ ap (λ (ns : List Node). nodes ++ ns) (sym (shown-other node (reverse rest) other)) ∙ ap (λ (ns : List Node). nodes ++ shown ns) (sym (next_of pending rest node next)) ∙ so_far

pub list_weight-turn_other : (pending rest : List Node) (node : Node) → pending ≡ rest ++ node ∷ [] → unbroken_parts node ≡ None → list_weight (reverse rest) < list_weight (reverse pending)
list_weight-turn_other pending rest node next other =
    let before : list_weight (reverse pending) ≡ weight_of node + list_weight (reverse rest) = ap list_weight (next_of pending rest node next) ∙ list_weight-cons node (reverse rest) in
    omega (arith, weight_of-other node other)

pub shown-end : (all nodes pending : List Node) → pending ≡ [] → nodes ++ shown (reverse pending) ≡ all → nodes ≡ all
shown-end all nodes pending none so_far =
    sym (append-nil nodes) ∙ ap (λ (ns : List Node). nodes ++ ns) (sym shown-nil) ∙ ap (λ (ns : List Node). nodes ++ shown (reverse ns)) (sym none) ∙ so_far
