-- The notes of a list, node by node.
use Rattle.std.proofs.Common.{◌≡◌, ℕ, zero, suc, ◌+◌, ◌<◌, ◌≤◌, List, [], ◌∷◌, ◌++◌, append_assoc, length, map, drop, get_or, Bool, true, false, None, Some, refl, subst, sym, ap, ◌∙◌, arith}
use Rattle.std.specs.Prelude.{flat_map, Result, Ok}
use Rattle.std.proofs.lemmas.List.{drop_more}
use Rattle.lb_base.specs.declared.fault.Kind.TheVariants.{CounterTooLarge}
use Rattle.lb_base.specs.declared.node.Boxed.{Boxed, out-Boxed, fold-Boxed, fold_out-Boxed}
use Rattle.lb_base.specs.declared.node.Discretionary.{Discretionary, out-Discretionary, fold-Discretionary, fold_out-Discretionary}
use Rattle.lb_base.specs.declared.node.HeadMark.{HeadMark, fold-HeadMark}
use Rattle.lb_base.specs.declared.node.HeadMark.TheOpen.{Char, Lig, Kern, Glue, Penalty, Disc, Rule, Boxed as InnerBox, Note as NoteLayer, Mark, Ins, Adjust}
use Rattle.lb_base.specs.declared.node.Node.{Node, Node-F, out-Node, map-Node, fold_out-Node}
use Rattle.lb_base.specs.declared.node.Note.{Note}
use Rattle.lb_model.specs.declared.append.Append.{Append}
use Rattle.lb_model_paper.specs.Nodes.{most}
use Rattle.lb_model_paper.specs.PageMarks.{box_levels, levels, levels_in, levels_of, parts_levels}
use Rattle.lb_model_nest.specs.declared.turn.Went.{Went}
use Rattle.lb_model_nest.specs.declared.turn.Went.TheVariants.{On, Stopped}
use Rattle.lb_model_nest.specs.Pages.{notes_down, notes_in, notes_of, notes_of_node, notes_written}
use Rattle.lb_model_nest.specs.Wholes.{Executed, Whole, executed}
use Rattle.lb_nest.specs.Appends.{is_without_appends, note_append, note_appends}
use Rattle.lb_nest.specs.Views.{whole}
use Rattle.lb_nest.specs.Works.{Works}
use Rattle.lb_nest.specs.declared.nest.Nest.{Nest}
use Rattle.lb_nest.proofs.AppendLemmas.{entries-added, no-notes, notes-added, notes-not-there, notes-there, too-large}
use Rattle.lb_nest.proofs.LeadsLemmas.{same-left}

-- ---- How many lists stand inside one another

levels-is : (node : Node) (layer : Node-F HeadMark Node Boxed Discretionary) → out-Node node ≡ layer → levels_of node ≡ levels_in (map-Node HeadMark Node Boxed Discretionary ℕ ℕ ℕ ℕ (fold-HeadMark ℕ ℕ ℕ ℕ (λ _. 0) levels_in box_levels parts_levels) levels_of (fold-Boxed ℕ ℕ ℕ ℕ (λ _. 0) levels_in box_levels parts_levels) (fold-Discretionary ℕ ℕ ℕ ℕ (λ _. 0) levels_in box_levels parts_levels) layer)
levels-is node layer is =
    fold_out-Node ℕ ℕ ℕ ℕ (λ _. 0) levels_in box_levels parts_levels node
    ∙ ap (λ l. levels_in (map-Node HeadMark Node Boxed Discretionary ℕ ℕ ℕ ℕ (fold-HeadMark ℕ ℕ ℕ ℕ (λ _. 0) levels_in box_levels parts_levels) levels_of (fold-Boxed ℕ ℕ ℕ ℕ (λ _. 0) levels_in box_levels parts_levels) (fold-Discretionary ℕ ℕ ℕ ℕ (λ _. 0) levels_in box_levels parts_levels) l)) is

box-levels : (node : Node) (box : Boxed) → out-Node node ≡ InnerBox box → levels_of node ≡ levels (out-Boxed box).items
box-levels node box is = levels-is node (InnerBox box) is ∙ fold_out-Boxed ℕ ℕ ℕ ℕ (λ _. 0) levels_in box_levels parts_levels box

parts-levels : (node : Node) (parts : Discretionary) → out-Node node ≡ Disc parts → levels_of node ≡ levels (out-Discretionary parts).no_break
parts-levels node parts is = levels-is node (Disc parts) is ∙ fold_out-Discretionary ℕ ℕ ℕ ℕ (λ _. 0) levels_in box_levels parts_levels parts

-- ---- Nodes whose notes are the same

head-within : (n bound : ℕ) (ns : List ℕ) → most (n ∷ ns) ≤ bound → n ≤ bound
head-within n bound ns within = grind arith

tail-within : (n bound : ℕ) (ns : List ℕ) → most (n ∷ ns) ≤ bound → most ns ≤ bound
tail-within n bound ns within = grind arith

nodes-same : (f g : Node → List Note) (bound : ℕ) (nodes : List Node) → ((node : Node) → levels_of node ≤ bound → f node ≡ g node) → most (map levels_of nodes) ≤ bound → flat_map f nodes ≡ flat_map g nodes
nodes-same f g bound [] same within = refl
nodes-same f g bound (node ∷ nodes) same within =
    let here = same node (head-within (levels_of node) bound (map levels_of nodes) within) in
    let rest = nodes-same f g bound nodes same (tail-within (levels_of node) bound (map levels_of nodes) within) in
    ap (λ ms. ms ++ flat_map f nodes) here ∙ ap (λ ms. g node ++ ms) rest

layer-same : (f g : List Node → List Note) (node : Node) (layer : Node-F HeadMark Node Boxed Discretionary) → out-Node node ≡ layer → ((inner : List Node) → levels_of node ≡ levels inner → f inner ≡ g inner) → notes_in f layer ≡ notes_in g layer
layer-same f g node (InnerBox box) is same = same (out-Boxed box).items (box-levels node box is)
layer-same f g node (Disc parts) is same = same (out-Discretionary parts).no_break (parts-levels node parts is)
layer-same f g node (NoteLayer note) is same = refl
layer-same f g node (Char code metrics font) is same = refl
layer-same f g node (Lig ligature) is same = refl
layer-same f g node (Kern width origin) is same = refl
layer-same f g node (Glue glue) is same = refl
layer-same f g node (Penalty penalty) is same = refl
layer-same f g node (Rule size) is same = refl
layer-same f g node (Mark mark) is same = refl
layer-same f g node (Ins footnote) is same = refl
layer-same f g node (Adjust material) is same = refl

node-same : (f g : List Node → List Note) (node : Node) → ((inner : List Node) → levels_of node ≡ levels inner → f inner ≡ g inner) → notes_of_node f node ≡ notes_of_node g node
unfolding notes_of_node
node-same f g node same = layer-same f g node (out-Node node) refl same

-- ---- Depth enough

down-is : (left : ℕ) (nodes : List Node) → notes_down (suc left) nodes ≡ flat_map (notes_of_node (notes_down left)) nodes
unfolding notes_down
down-is left nodes = refl

enough : (n m : ℕ) (nodes : List Node) → levels nodes ≤ n → levels nodes ≤ m → notes_down n nodes ≡ notes_down m nodes
enough zero m nodes a b = absurd (omega arith)
enough (suc n) zero nodes a b = absurd (omega arith)
enough (suc n) (suc m) nodes a b =
    let first : most (map levels_of nodes) ≤ n = omega arith in
    let second : most (map levels_of nodes) ≤ m = omega arith in
    let all : most (map levels_of nodes) ≤ most (map levels_of nodes) = omega arith in
    down-is n nodes
    ∙ nodes-same (notes_of_node (notes_down n)) (notes_of_node (notes_down m)) (most (map levels_of nodes)) nodes
    (λ node deep. node-same (notes_down n) (notes_down m) node
    (λ inner is. (
    let low : levels inner ≤ n = omega arith in
    let high : levels inner ≤ m = omega arith in
    enough n m inner low high)))
    all
    ∙ sym (down-is m nodes)

notes-down : (nodes : List Node) (n : ℕ) → levels nodes ≤ n → notes_of nodes ≡ notes_down n nodes
unfolding notes_of
notes-down nodes n within = let all : levels nodes ≤ levels nodes = omega arith in enough (levels nodes) n nodes all within

-- the notes of a list are those of its nodes
notes-is : (nodes : List Node) → notes_of nodes ≡ flat_map (notes_of_node notes_of) nodes
notes-is nodes =
    let bound : ℕ = most (map levels_of nodes) in
    let size : levels nodes ≤ suc bound = omega arith in
    let all : most (map levels_of nodes) ≤ bound = omega arith in
    notes-down nodes (suc bound) size
    ∙ down-is bound nodes
    ∙ nodes-same (notes_of_node (notes_down bound)) (notes_of_node notes_of) bound nodes
    (λ node deep. node-same (notes_down bound) notes_of node
    (λ inner is. (
    let low : levels inner ≤ bound = omega arith in
    sym (notes-down inner bound low))))
    all

-- ---- One turn over the nodes

appends-both : (number : List ℕ) (a b : List Note) → note_appends number (a ++ b) ≡ note_appends number a ++ note_appends number b
appends-both number [] b = refl
appends-both number (n ∷ a) b = ap (λ l. note_append number n ∷ l) (appends-both number a b)

-- what is there, with the notes of the nodes from the k-th on, is what there is in the end
abbrev pub IsGoing : List ℕ → List Node → List Append → ℕ → List Append → Type 0
IsGoing number nodes before k entries = entries ++ note_appends number (flat_map (notes_of_node notes_of) (drop k nodes)) ≡ before ++ note_appends number (notes_of nodes)

pub going-start : (number : List ℕ) (nodes : List Node) (before : List Append) → IsGoing number nodes before 0 before
going-start number nodes before = ap (λ ns. before ++ note_appends number ns) (sym (notes-is nodes))

pub going-turn : (number : List ℕ) (nodes : List Node) (before entries more : List Append) (k : ℕ) (node : Node) → k < length nodes → node ≡ get_or nodes k node
    → more ≡ entries ++ note_appends number (notes_of_node notes_of node) → IsGoing number nodes before k entries → IsGoing number nodes before (k + 1) more
going-turn number nodes before entries more k node within is with-node so-far =
    let here : List Note = notes_of_node notes_of node in
    let rest : List Note = flat_map (notes_of_node notes_of) (drop (k + 1) nodes) in
    let next : drop k nodes ≡ node ∷ drop (k + 1) nodes = drop_more nodes k node within ∙ ap (λ (n : Node). n ∷ drop (k + 1) nodes) (sym is) in
    ap (λ l. l ++ note_appends number rest) with-node
    ∙ append_assoc entries (note_appends number here) (note_appends number rest)
    ∙ ap (λ l. entries ++ l) (sym (appends-both number here rest))
    ∙ sym (ap (λ ns. entries ++ note_appends number (flat_map (notes_of_node notes_of) ns)) next)
    ∙ so-far

-- ---- Notes that are written

pub works-as : {E X Y : Type 0} (act : Y → Whole → Executed) {rest : X → Whole → Executed} {x y : Y} (result : Result X E) {ln : ℕ} {nn : Nest} {lo : ℕ} {no : Nest}
    → x ≡ y → Works (act y) rest result ln nn lo no → Works (act x) rest result ln nn lo no
works-as act {rest} result {ln} {nn} {lo} {no} e t = subst (λ z. Works (act z) rest result ln nn lo no) (sym e) t

pub notes-work : {E : Type 0} (number : List ℕ) (notes : List Note) (n : Nest) (entries : List Append) (left : ℕ) → entries ≡ n.entries ++ note_appends number notes
    → Works {E = E} (notes_written (Some number) notes) executed (Ok On) left (record n { entries = entries }) left n
notes-work number notes n entries left e =
    record {
      works =
          λ w p k g.
          notes-added number notes (whole w p k g left n)
          ∙ ap (executed On) (entries-added (note_appends number notes) n w p k g left)
          ∙ ap (λ l. executed On (whole w p k g left (record n { entries = l }))) (sym e);
      shelf = refl;
      left = same-left left;
    }

abbrev pub unnumbered : Bool → Went
unnumbered true = On
unnumbered false = Stopped CounterTooLarge

-- the page's number cannot be shown
refused : (number : List ℕ) (notes : List Note) (b : Bool) (w : Whole) → is_without_appends (note_appends number notes) ≡ b → notes_written None notes w ≡ executed (unnumbered b) w
refused number notes true w e = no-notes notes w (notes-there number notes e)
refused number notes false w e = too-large notes w (notes-not-there number notes e)

pub notes-refused : {E : Type 0} (number : List ℕ) (notes : List Note) (b : Bool) (n : Nest) (left : ℕ) → is_without_appends (note_appends number notes) ≡ b
    → Works {E = E} (notes_written None notes) executed (Ok (unnumbered b)) left n left n
notes-refused number notes b n left e = record { works = λ w p k g. refused number notes b (whole w p k g left n) e; shelf = refl; left = same-left left }
