-- How many items lists have.
use Rattle.std.proofs.Common.{◌≡◌, ℕ, suc, ◌+◌, ◌<◌, ◌≤◌, List, [], ◌∷◌, ◌++◌, length, map, sum, take, drop, get_or, refl, sym, ap, ◌∙◌, arith}
use Rattle.std.proofs.lemmas.List.{drop_all, drop_more, map-append, take-append-drop}
use Rattle.std.proofs.lemmas.List.Sums.{sum_by-append, sum_by-cons}
use Rattle.lb_base.specs.declared.node.Boxed.{Boxed, fold-Boxed}
use Rattle.lb_base.specs.declared.node.Discretionary.{Discretionary, out-Discretionary, fold_out-Discretionary}
use Rattle.lb_base.specs.declared.node.HeadMark.{HeadMark, fold-HeadMark}
use Rattle.lb_base.specs.declared.node.HeadMark.TheOpen.{Char, Lig, Kern, Glue, Penalty, Disc, Rule, Boxed as InnerBox, Note, Mark, Ins, Adjust}
use Rattle.lb_base.specs.declared.node.Node as made
use Rattle.lb_base.specs.declared.node.Node.{Node, Node-F, out-Node, roll-Node, roll-out-Node, map-Node, fold-Node, fold_out-Node}
use Rattle.lb_base.specs.declared.node.Node.TheVariants.{outs-Disc, rolls-Disc}
use Rattle.lb_model_paper.specs.Breaks.{count_in, count_of, count_of_parts, items_in}
use Rattle.lb_measure.specs.Counts.{count_of_disc}

pub items_in-nil : items_in [] ≡ 0
unfolding items_in
items_in-nil = refl

pub items_in-cons : (node : Node) (nodes : List Node) → items_in (node ∷ nodes) ≡ count_of node + items_in nodes
unfolding items_in
items_in-cons node nodes = sum_by-cons (λ (n : ℕ). n) (count_of node) (map count_of nodes)

-- the nodes from the k-th on
pub items_in-drop : (nodes : List Node) (k : ℕ) (node : Node) → k < length nodes → node ≡ get_or nodes k node → items_in (drop k nodes) ≡ count_of node + items_in (drop (k + 1) nodes)
items_in-drop nodes k node within is =
    ap items_in (drop_more nodes k node within ∙ ap (λ (n : Node). n ∷ drop (k + 1) nodes) (sym is)) ∙ items_in-cons node (drop (k + 1) nodes)

pub items_in-end : (nodes : List Node) (k : ℕ) → length nodes ≤ k → items_in (drop k nodes) ≡ 0
items_in-end nodes k past = ap items_in (drop_all k nodes past) ∙ items_in-nil

pub items_in-append : (nodes more : List Node) → items_in (nodes ++ more) ≡ items_in nodes + items_in more
unfolding items_in
items_in-append nodes more = ap sum (map-append count_of nodes more) ∙ sum_by-append (λ (n : ℕ). n) (map count_of nodes) (map count_of more)

pub items_in-below : (nodes : List Node) (k : ℕ) → items_in (drop k nodes) ≤ items_in nodes
items_in-below nodes k = omega (arith, ap items_in (sym (take-append-drop k nodes)), items_in-append (take k nodes) (drop k nodes))

-- ---- the items of a discretionary

pub count_of_disc_is : (parts : Discretionary) → count_of_disc parts ≡ items_in (out-Discretionary parts).pre_break + (items_in (out-Discretionary parts).post_break + items_in (out-Discretionary parts).no_break)
unfolding items_in
count_of_disc_is parts = fold_out-Discretionary ℕ ℕ ℕ ℕ (λ _. 0) count_in (λ _. 0) count_of_parts parts

abbrev layer_count : Node-F HeadMark Node Boxed Discretionary → ℕ
layer_count layer = count_in (map-Node HeadMark Node Boxed Discretionary ℕ ℕ ℕ ℕ (fold-HeadMark ℕ ℕ ℕ ℕ (λ _. 0) count_in (λ _. 0) count_of_parts) count_of (fold-Boxed ℕ ℕ ℕ ℕ (λ _. 0) count_in (λ _. 0) count_of_parts) count_of_disc layer)

count_of_is : (node : Node) → count_of node ≡ layer_count (out-Node node)
count_of_is node = fold_out-Node ℕ ℕ ℕ ℕ (λ _. 0) count_in (λ _. 0) count_of_parts node

pub count_of-disc : (node : Node) (parts : Discretionary) → node ≡ made.Disc parts → count_of node ≡ suc (count_of_disc parts)
count_of-disc node parts is = count_of_is node ∙ ap layer_count (ap out-Node is ∙ outs-Disc parts)

other_layer : (node : Node) (layer : Node-F HeadMark Node Boxed Discretionary) → out-Node node ≡ layer → ((parts : Discretionary) → node ≡ made.Disc parts → ⊥) → layer_count layer ≡ 1
other_layer node (Disc parts) is other = absurd (other parts (sym (roll-out-Node node) ∙ ap roll-Node is ∙ rolls-Disc parts))
other_layer node (Char code metrics font) is other = refl
other_layer node (Lig ligature) is other = refl
other_layer node (Kern width origin) is other = refl
other_layer node (Glue glue) is other = refl
other_layer node (Penalty penalty) is other = refl
other_layer node (Rule size) is other = refl
other_layer node (InnerBox box) is other = refl
other_layer node (Note note) is other = refl
other_layer node (Mark mark) is other = refl
other_layer node (Ins footnote) is other = refl
other_layer node (Adjust material) is other = refl

pub count_of-other : (node : Node) → ((parts : Discretionary) → node ≡ made.Disc parts → ⊥) → count_of node ≡ 1
count_of-other node other = count_of_is node ∙ other_layer node (out-Node node) refl other

some_in : (node : Node) (layer : Node-F HeadMark Node Boxed Discretionary) → 0 < layer_count layer
some_in node (Disc parts) = omega arith
some_in node (Char code metrics font) = omega arith
some_in node (Lig ligature) = omega arith
some_in node (Kern width origin) = omega arith
some_in node (Glue glue) = omega arith
some_in node (Penalty penalty) = omega arith
some_in node (Rule size) = omega arith
some_in node (InnerBox box) = omega arith
some_in node (Note note) = omega arith
some_in node (Mark mark) = omega arith
some_in node (Ins footnote) = omega arith
some_in node (Adjust material) = omega arith

-- a list has no more nodes than items
pub length-items : (nodes : List Node) → length nodes ≤ items_in nodes
length-items [] = omega arith
length-items (node ∷ nodes) = omega (arith, items_in-cons node nodes, length-items nodes, count_of_is node, some_in node (out-Node node))
