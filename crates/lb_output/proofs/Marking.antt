-- The marks of a list, node by node.
use Rattle.std.proofs.Common.{◌≡◌, ℕ, zero, suc, ◌+◌, ◌<◌, ◌≤◌, List, [], ◌∷◌, ◌++◌, length, map, drop, get_or, refl, sym, ap, ◌∙◌, arith}
use Rattle.std.specs.Prelude.{flat_map, Option, None, Some}
use Rattle.std.specs.Option.{option_or}
use Rattle.std.proofs.lemmas.List.{drop_more}
use Rattle.lb_base.specs.declared.node.Boxed.{Boxed, out-Boxed, fold-Boxed, fold_out-Boxed}
use Rattle.lb_base.specs.declared.node.Discretionary.{Discretionary, out-Discretionary, fold-Discretionary, fold_out-Discretionary}
use Rattle.lb_base.specs.declared.node.HeadMark.{HeadMark, fold-HeadMark}
use Rattle.lb_base.specs.declared.node.HeadMark.TheOpen.{Char, Lig, Kern, Glue, Penalty, Disc, Rule, Boxed as InnerBox, Note, Mark as MarkLayer, Ins, Adjust}
use Rattle.lb_base.specs.declared.node.Node.{Node, Node-F, out-Node, map-Node, fold_out-Node}
use Rattle.lb_model_paper.specs.Nodes.{most}
use Rattle.lb_model_paper.specs.PageMarks.{box_levels, first_right, head_marks, last_left, last_right, left_of, levels, levels_in, levels_of, marks_down, marks_in, marks_of_node, parts_levels, right_of}
use Rattle.lb_output.specs.FoundMarks.{Found, past}

-- ---- marks behind marks

or_assoc : (a b c : Option Boxed) → option_or (option_or a b) c ≡ option_or a (option_or b c)
or_assoc None b c = refl
or_assoc (Some x) b c = refl

or_none : (a : Option Boxed) → a ≡ option_or a None
or_none None = refl
or_none (Some x) = refl

first_right-append : (a b : List HeadMark) → first_right (a ++ b) ≡ option_or (first_right a) (first_right b)
first_right-append [] b = refl
first_right-append (m ∷ ms) b = refl

last_right-append : (a b : List HeadMark) → last_right (a ++ b) ≡ option_or (last_right b) (last_right a)
last_right-append [] b = or_none (last_right b)
last_right-append (m ∷ ms) b = ap (λ o. option_or o (Some (right_of m))) (last_right-append ms b) ∙ or_assoc (last_right b) (last_right ms) (Some (right_of m))

last_left-append : (a b : List HeadMark) → last_left (a ++ b) ≡ option_or (last_left b) (last_left a)
last_left-append [] b = or_none (last_left b)
last_left-append (m ∷ ms) b = ap (λ o. option_or o (left_of m)) (last_left-append ms b) ∙ or_assoc (last_left b) (last_left ms) (left_of m)

abbrev with_parts : Option Boxed → Option Boxed → Option Boxed → Found
with_parts first left last = record { first_right = first; last_left = left; last_right = last }

found_same : (f g : Found) → f.first_right ≡ g.first_right → f.last_left ≡ g.last_left → f.last_right ≡ g.last_right → f ≡ g
found_same f g a b c = ap (λ (o : Option Boxed). with_parts o f.last_left f.last_right) a ∙ ap (λ (o : Option Boxed). with_parts g.first_right o f.last_right) b ∙ ap (λ (o : Option Boxed). with_parts g.first_right g.last_left o) c

past_past : (f : Found) (a b : List HeadMark) → past (past f a) b ≡ past f (a ++ b)
past_past f a b = found_same (past (past f a) b) (past f (a ++ b))
    (or_assoc f.first_right (first_right a) (first_right b) ∙ sym (ap (λ o. option_or f.first_right o) (first_right-append a b)))
    (sym (ap (λ o. option_or o f.last_left) (last_left-append a b) ∙ or_assoc (last_left b) (last_left a) f.last_left))
    (sym (ap (λ o. option_or o f.last_right) (last_right-append a b) ∙ or_assoc (last_right b) (last_right a) f.last_right))

-- ---- how many lists stand inside one another

levels_of-is : (node : Node) → levels_of node ≡ levels_in (map-Node HeadMark Node Boxed Discretionary ℕ ℕ ℕ ℕ (fold-HeadMark ℕ ℕ ℕ ℕ (λ _. 0) levels_in box_levels parts_levels) levels_of (fold-Boxed ℕ ℕ ℕ ℕ (λ _. 0) levels_in box_levels parts_levels) (fold-Discretionary ℕ ℕ ℕ ℕ (λ _. 0) levels_in box_levels parts_levels) (out-Node node))
levels_of-is node = fold_out-Node ℕ ℕ ℕ ℕ (λ _. 0) levels_in box_levels parts_levels node

levels_at : (node : Node) (layer : Node-F HeadMark Node Boxed Discretionary) → out-Node node ≡ layer → levels_of node ≡ levels_in (map-Node HeadMark Node Boxed Discretionary ℕ ℕ ℕ ℕ (fold-HeadMark ℕ ℕ ℕ ℕ (λ _. 0) levels_in box_levels parts_levels) levels_of (fold-Boxed ℕ ℕ ℕ ℕ (λ _. 0) levels_in box_levels parts_levels) (fold-Discretionary ℕ ℕ ℕ ℕ (λ _. 0) levels_in box_levels parts_levels) layer)
levels_at node layer is = levels_of-is node ∙ ap (λ l. levels_in (map-Node HeadMark Node Boxed Discretionary ℕ ℕ ℕ ℕ (fold-HeadMark ℕ ℕ ℕ ℕ (λ _. 0) levels_in box_levels parts_levels) levels_of (fold-Boxed ℕ ℕ ℕ ℕ (λ _. 0) levels_in box_levels parts_levels) (fold-Discretionary ℕ ℕ ℕ ℕ (λ _. 0) levels_in box_levels parts_levels) l)) is

box_levels-is : (node : Node) (box : Boxed) → out-Node node ≡ InnerBox box → levels_of node ≡ levels (out-Boxed box).items
box_levels-is node box is = levels_at node (InnerBox box) is ∙ fold_out-Boxed ℕ ℕ ℕ ℕ (λ _. 0) levels_in box_levels parts_levels box

parts_levels-is : (node : Node) (parts : Discretionary) → out-Node node ≡ Disc parts → levels_of node ≡ levels (out-Discretionary parts).no_break
parts_levels-is node parts is = levels_at node (Disc parts) is ∙ fold_out-Discretionary ℕ ℕ ℕ ℕ (λ _. 0) levels_in box_levels parts_levels parts

-- ---- nodes whose marks are the same

head_within : (n bound : ℕ) (ns : List ℕ) → most (n ∷ ns) ≤ bound → n ≤ bound
head_within n bound ns within = grind arith

tail_within : (n bound : ℕ) (ns : List ℕ) → most (n ∷ ns) ≤ bound → most ns ≤ bound
tail_within n bound ns within = grind arith

nodes_same : (f g : Node → List HeadMark) (bound : ℕ) (nodes : List Node) → ((node : Node) → levels_of node ≤ bound → f node ≡ g node) → most (map levels_of nodes) ≤ bound → flat_map f nodes ≡ flat_map g nodes
nodes_same f g bound [] same within = refl
nodes_same f g bound (node ∷ nodes) same within =
    let here = same node (head_within (levels_of node) bound (map levels_of nodes) within) in
    let rest = nodes_same f g bound nodes same (tail_within (levels_of node) bound (map levels_of nodes) within) in
    ap (λ ms. ms ++ flat_map f nodes) here ∙ ap (λ ms. g node ++ ms) rest

layer_same : (f g : List Node → List HeadMark) (node : Node) (layer : Node-F HeadMark Node Boxed Discretionary) → out-Node node ≡ layer → ((inner : List Node) → levels_of node ≡ levels inner → f inner ≡ g inner) → marks_in f layer ≡ marks_in g layer
layer_same f g node (InnerBox box) is same = same (out-Boxed box).items (box_levels-is node box is)
layer_same f g node (Disc parts) is same = same (out-Discretionary parts).no_break (parts_levels-is node parts is)
layer_same f g node (MarkLayer mark) is same = refl
layer_same f g node (Char code metrics font) is same = refl
layer_same f g node (Lig ligature) is same = refl
layer_same f g node (Kern width origin) is same = refl
layer_same f g node (Glue glue) is same = refl
layer_same f g node (Penalty penalty) is same = refl
layer_same f g node (Rule size) is same = refl
layer_same f g node (Note note) is same = refl
layer_same f g node (Ins footnote) is same = refl
layer_same f g node (Adjust material) is same = refl

node_same : (f g : List Node → List HeadMark) (node : Node) → ((inner : List Node) → levels_of node ≡ levels inner → f inner ≡ g inner) → marks_of_node f node ≡ marks_of_node g node
unfolding marks_of_node
node_same f g node same = layer_same f g node (out-Node node) refl same

-- ---- depth enough

down_is : (left : ℕ) (nodes : List Node) → marks_down (suc left) nodes ≡ flat_map (marks_of_node (marks_down left)) nodes
unfolding marks_down
down_is left nodes = refl

enough : (n m : ℕ) (nodes : List Node) → levels nodes ≤ n → levels nodes ≤ m → marks_down n nodes ≡ marks_down m nodes
enough zero m nodes a b = absurd (omega arith)
enough (suc n) zero nodes a b = absurd (omega arith)
enough (suc n) (suc m) nodes a b =
    let first : most (map levels_of nodes) ≤ n = omega arith in
    let second : most (map levels_of nodes) ≤ m = omega arith in
    let all : most (map levels_of nodes) ≤ most (map levels_of nodes) = omega arith in
    down_is n nodes
    ∙ nodes_same (marks_of_node (marks_down n)) (marks_of_node (marks_down m)) (most (map levels_of nodes)) nodes
    (λ node deep. node_same (marks_down n) (marks_down m) node
    (λ inner is. (
    let low : levels inner ≤ n = omega arith in
    let high : levels inner ≤ m = omega arith in
    enough n m inner low high)))
    all
    ∙ sym (down_is m nodes)

head_marks-down : (nodes : List Node) (n : ℕ) → levels nodes ≤ n → head_marks nodes ≡ marks_down n nodes
unfolding head_marks
head_marks-down nodes n within = let all : levels nodes ≤ levels nodes = omega arith in enough (levels nodes) n nodes all within

-- the marks of a list are those of its nodes
pub head_marks-is : (nodes : List Node) → head_marks nodes ≡ flat_map (marks_of_node head_marks) nodes
head_marks-is nodes =
    let bound : ℕ = most (map levels_of nodes) in
    let size : levels nodes ≤ suc bound = omega arith in
    let all : most (map levels_of nodes) ≤ bound = omega arith in
    head_marks-down nodes (suc bound) size
    ∙ down_is bound nodes
    ∙ nodes_same (marks_of_node (marks_down bound)) (marks_of_node head_marks) bound nodes
    (λ node deep. node_same (marks_down bound) head_marks node
    (λ inner is. (
    let low : levels inner ≤ bound = omega arith in
    sym (head_marks-down inner bound low))))
    all

-- ---- one turn over the nodes

-- what is found so far, with the marks of the nodes from the k-th on, is what is found in the end
abbrev pub IsGoing : List Node → Found → ℕ → Found → Type 0
IsGoing nodes before k found = past found (flat_map (marks_of_node head_marks) (drop k nodes)) ≡ past before (head_marks nodes)

pub going_start : (nodes : List Node) (before : Found) → IsGoing nodes before 0 before
going_start nodes before = ap (λ ms. past before ms) (sym (head_marks-is nodes))

pub going_turn : (nodes : List Node) (before found more : Found) (k : ℕ) (node : Node) → k < length nodes → node ≡ get_or nodes k node → more ≡ past found (marks_of_node head_marks node) → IsGoing nodes before k found → IsGoing nodes before (k + 1) more
going_turn nodes before found more k node within is with_node so_far =
    let rest : List HeadMark = flat_map (marks_of_node head_marks) (drop (k + 1) nodes) in
    let next : drop k nodes ≡ node ∷ drop (k + 1) nodes = drop_more nodes k node within ∙ ap (λ (n : Node). n ∷ drop (k + 1) nodes) (sym is) in
    ap (λ (f : Found). past f rest) with_node
    ∙ past_past found (marks_of_node head_marks node) rest
    ∙ sym (ap (λ ns. past found (flat_map (marks_of_node head_marks) ns)) next)
    ∙ so_far
