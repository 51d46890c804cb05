-- The marks of a box, item by item.
use Rattle.std.proofs.Common.{◌≡◌, ℕ, zero, suc, ◌+◌, ◌<◌, ◌≤◌, ◌*◌, true, false, ◌&&◌, List, [], ◌∷◌, ◌++◌, length, map, take, drop, get_or, refl, sym, ap, ◌∙◌, subst, ℤ, pos, ◌+ℤ◌, arith}
use Rattle.std.specs.List.{list_all}
use Rattle.std.specs.Prelude.{unsigned_abs}
use Rattle.std.proofs.lemmas.Int.{ints}
use Rattle.std.proofs.lemmas.List.{append-nil, append_assoc, drop_all, drop_more, take_more}
use Rattle.std.proofs.lemmas.List.Folds.{list_all-append}
use Rattle.lb_base.specs.declared.fault.Stop.{Stop}
use Rattle.lb_base.specs.declared.fault.Stop.TheVariants.{At as AtPlace, Fault, Memory}
use Rattle.lb_base.specs.declared.node.Axis.{Axis}
use Rattle.lb_base.specs.declared.node.Boxed.{Boxed, out-Boxed, fold_out-Boxed}
use Rattle.lb_base.specs.declared.node.Discretionary.{Discretionary, fold-Discretionary}
use Rattle.lb_base.specs.declared.node.HeadMark.{HeadMark, fold-HeadMark}
use Rattle.lb_base.specs.declared.node.HeadMark.TheOpen.{Char, Lig, Kern, Glue, Penalty, Disc, Rule, Boxed as InnerBox, Note, Mark as MarkLayer, Ins, Adjust}
use Rattle.lb_base.specs.declared.node.Node.{Node, Node-F, out-Node, map-Node, fold_out-Node}
use Rattle.lb_base.specs.declared.page.Mark.{Mark}
use Rattle.lb_model_paper.specs.Marks.{baseline_of, is_small_mark, item_spot, items_marks, layer_marks, marks_at, marks_within, node_marks, Spot, spot_along}
use Rattle.lb_model_paper.specs.Boxes.{give_of, shift_after}
use Rattle.lb_model_paper.specs.Nodes.{along as along_of, box_nesting, mark_nesting, most, nesting_in, nesting_of, nesting_of_box, parts_nesting, total}
use Rattle.lb_marks.specs.Spots.{IsMarkStop}
use Rattle.lb_nodes.specs.Bounds.{IsLength, IsLongSum}
use Rattle.lb_nodes.specs.Setting.{Given, given_behind, given_past}
use Rattle.lb_nodes.proofs.Shifting.{shift_behind-no_part}
use Rattle.lb_nodes.proofs.Totalling.{total_push}
use Rattle.lb_nodes.proofs.Walks.{given_past-behind, IsLongSum-past, IsNear-past}

-- ---- how deep boxes nest

pub nesting_of_box-is : (box : Boxed) → nesting_of_box box ≡ suc (most (map nesting_of (out-Boxed box).items))
nesting_of_box-is box = fold_out-Boxed ℕ ℕ ℕ ℕ mark_nesting nesting_in box_nesting parts_nesting box

nesting_of-is : (node : Node) → nesting_of node ≡ nesting_in (map-Node HeadMark Node Boxed Discretionary ℕ ℕ ℕ ℕ (fold-HeadMark ℕ ℕ ℕ ℕ mark_nesting nesting_in box_nesting parts_nesting) nesting_of nesting_of_box (fold-Discretionary ℕ ℕ ℕ ℕ mark_nesting nesting_in box_nesting parts_nesting) (out-Node node))
nesting_of-is node = fold_out-Node ℕ ℕ ℕ ℕ mark_nesting nesting_in box_nesting parts_nesting node

inner_nesting : (node : Node) (box : Boxed) → out-Node node ≡ InnerBox box → nesting_of node ≡ nesting_of_box box
inner_nesting node box is = nesting_of-is node ∙ ap (λ layer. nesting_in (map-Node HeadMark Node Boxed Discretionary ℕ ℕ ℕ ℕ (fold-HeadMark ℕ ℕ ℕ ℕ mark_nesting nesting_in box_nesting parts_nesting) nesting_of nesting_of_box (fold-Discretionary ℕ ℕ ℕ ℕ mark_nesting nesting_in box_nesting parts_nesting) layer)) is

-- ---- items whose marks are the same

head_within : (n bound : ℕ) (ns : List ℕ) → most (n ∷ ns) ≤ bound → n ≤ bound
head_within n bound ns within = grind arith

tail_within : (n bound : ℕ) (ns : List ℕ) → most (n ∷ ns) ≤ bound → most ns ≤ bound
tail_within n bound ns within = grind arith

items_same : (f g : ℕ → Node → List Mark) (bound number : ℕ) (nodes : List Node) → ((k : ℕ) (node : Node) → nesting_of node ≤ bound → f k node ≡ g k node) → most (map nesting_of nodes) ≤ bound → items_marks f number nodes ≡ items_marks g number nodes
unfolding items_marks
items_same f g bound number [] same within = refl
items_same f g bound number (node ∷ nodes) same within =
    let here = same number node (head_within (nesting_of node) bound (map nesting_of nodes) within) in
    let rest = items_same f g bound (number + 1) nodes same (tail_within (nesting_of node) bound (map nesting_of nodes) within) in
    ap (λ ms. ms ++ items_marks f (number + 1) nodes) here ∙ ap (λ ms. g number node ++ ms) rest

layer_same : (f g : Boxed → Spot → List Mark) (box : Boxed) (spot : Spot) (node : Node) (layer : Node-F HeadMark Node Boxed Discretionary) → out-Node node ≡ layer → ((inner : Boxed) (at : Spot) → out-Node node ≡ InnerBox inner → f inner at ≡ g inner at) → layer_marks f box spot layer ≡ layer_marks g box spot layer
layer_same f g box spot node (InnerBox inner) is same = same inner spot is
layer_same f g box spot node (Char code metrics font) is same = refl
layer_same f g box spot node (Lig ligature) is same = refl
layer_same f g box spot node (Kern width origin) is same = refl
layer_same f g box spot node (Glue glue) is same = refl
layer_same f g box spot node (Penalty penalty) is same = refl
layer_same f g box spot node (Disc parts) is same = refl
layer_same f g box spot node (Rule size) is same = refl
layer_same f g box spot node (Note note) is same = refl
layer_same f g box spot node (MarkLayer mark) is same = refl
layer_same f g box spot node (Ins footnote) is same = refl
layer_same f g box spot node (Adjust material) is same = refl

node_same : (f g : Boxed → Spot → List Mark) (box : Boxed) (spot : Spot) (node : Node) → ((inner : Boxed) (at : Spot) → out-Node node ≡ InnerBox inner → f inner at ≡ g inner at) → node_marks f box spot node ≡ node_marks g box spot node
unfolding node_marks
node_same f g box spot node same = layer_same f g box (baseline_of (out-Boxed box).axis spot node) node (out-Node node) refl same

-- ---- depth enough

abbrev item_marks : ℕ → Boxed → Spot → ℕ → Node → List Mark
item_marks left box spot number node = node_marks (marks_within left) box (item_spot box spot number) node

within_is : (left : ℕ) (box : Boxed) (spot : Spot) → marks_within (suc left) box spot ≡ items_marks (item_marks left box spot) 0 (out-Boxed box).items
unfolding marks_within
within_is left box spot = refl

no_box : (box : Boxed) → nesting_of_box box ≤ 0 → ⊥
no_box box within = omega (arith, nesting_of_box-is box)

items_within : (box : Boxed) (n : ℕ) → nesting_of_box box ≤ suc n → most (map nesting_of (out-Boxed box).items) ≤ n
items_within box n within = omega (arith, nesting_of_box-is box)

enough : (n m : ℕ) (box : Boxed) (spot : Spot) → nesting_of_box box ≤ n → nesting_of_box box ≤ m → marks_within n box spot ≡ marks_within m box spot
enough zero m box spot a b = absurd (no_box box a)
enough (suc n) zero box spot a b = absurd (no_box box b)
enough (suc n) (suc m) box spot a b =
    let first = items_within box n a in
    let second = items_within box m b in
    within_is n box spot
    ∙ items_same (item_marks n box spot) (item_marks m box spot) (most (map nesting_of (out-Boxed box).items)) 0 (out-Boxed box).items
    (λ k node deep. node_same (marks_within n) (marks_within m) box (item_spot box spot k) node
    (λ inner at is. (
    let size = inner_nesting node inner is in
    let low : nesting_of_box inner ≤ n = omega arith in
    let high : nesting_of_box inner ≤ m = omega arith in
    enough n m inner at low high)))
    (let all : most (map nesting_of (out-Boxed box).items) ≤ most (map nesting_of (out-Boxed box).items) = omega arith in all)
    ∙ sym (within_is m box spot)

marks_at-within : (box : Boxed) (spot : Spot) (n : ℕ) → nesting_of_box box ≤ n → marks_at box spot ≡ marks_within n box spot
unfolding marks_at
marks_at-within box spot n within = let all : nesting_of_box box ≤ nesting_of_box box = omega arith in enough (nesting_of_box box) n box spot all within

-- ---- the marks of a box are those of its items

abbrev pub own_marks : Boxed → Spot → ℕ → Node → List Mark
own_marks box spot number node = node_marks marks_at box (item_spot box spot number) node

pub marks_at-is : (box : Boxed) (spot : Spot) → marks_at box spot ≡ items_marks (own_marks box spot) 0 (out-Boxed box).items
marks_at-is box spot =
    let bound : ℕ = most (map nesting_of (out-Boxed box).items) in
    let size : nesting_of_box box ≤ suc bound = omega (arith, nesting_of_box-is box) in
    let all : most (map nesting_of (out-Boxed box).items) ≤ bound = omega arith in
    marks_at-within box spot (suc bound) size
    ∙ within_is bound box spot
    ∙ items_same (item_marks bound box spot) (own_marks box spot) bound 0 (out-Boxed box).items
    (λ k node deep. node_same (marks_within bound) marks_at box (item_spot box spot k) node
    (λ inner at is. (
    let deeper = inner_nesting node inner is in
    let low : nesting_of_box inner ≤ bound = omega arith in
    sym (marks_at-within inner at bound low))))
    all

-- ---- one turn over the items

pub items_turn : (f : ℕ → Node → List Mark) (nodes : List Node) (k : ℕ) (node : Node) → k < length nodes → node ≡ get_or nodes k node → items_marks f k (drop k nodes) ≡ f k node ++ items_marks f (k + 1) (drop (k + 1) nodes)
unfolding items_marks
items_turn f nodes k node within is =
    let next : drop k nodes ≡ node ∷ drop (k + 1) nodes = drop_more nodes k node within ∙ ap (λ (n : Node). n ∷ drop (k + 1) nodes) (sym is) in
    ap (λ ns. items_marks f k ns) next

pub items_end : (f : ℕ → Node → List Mark) (nodes : List Node) (k : ℕ) → length nodes ≤ k → items_marks f k (drop k nodes) ≡ []
unfolding items_marks
items_end f nodes k past = ap (λ ns. items_marks f k ns) (drop_all k nodes past)

-- ---- what the loop over the items keeps

-- the marks made so far, and those of the items from the k-th on
pub record Going (box : Boxed) (spot : Spot) (before made : List Mark) (k : ℕ) : Type 0 where
  pub marks : made ++ items_marks (own_marks box spot) k (drop k (out-Boxed box).items) ≡ before ++ marks_at box spot
  pub small : list_all is_small_mark (marks_at box spot) ≡ list_all is_small_mark (items_marks (own_marks box spot) k (drop k (out-Boxed box).items))

pub going_start : (box : Boxed) (spot : Spot) (before : List Mark) → Going box spot before before 0
going_start box spot before = record {
  marks = ap (λ ms. before ++ ms) (sym (marks_at-is box spot));
  small = ap (list_all is_small_mark) (marks_at-is box spot);
}

small_split : (box : Boxed) (spot : Spot) (k : ℕ) (node : Node) → k < length (out-Boxed box).items → node ≡ get_or (out-Boxed box).items k node → list_all is_small_mark (items_marks (own_marks box spot) k (drop k (out-Boxed box).items)) ≡ (list_all is_small_mark (own_marks box spot k node) && list_all is_small_mark (items_marks (own_marks box spot) (k + 1) (drop (k + 1) (out-Boxed box).items)))
small_split box spot k node within is =
    ap (list_all is_small_mark) (items_turn (own_marks box spot) (out-Boxed box).items k node within is)
    ∙ list_all-append is_small_mark (own_marks box spot k node) (items_marks (own_marks box spot) (k + 1) (drop (k + 1) (out-Boxed box).items))

pub going_turn : (box : Boxed) (spot : Spot) (before made more : List Mark) (k : ℕ) (node : Node) → k < length (out-Boxed box).items → node ≡ get_or (out-Boxed box).items k node → more ≡ made ++ own_marks box spot k node → list_all is_small_mark (own_marks box spot k node) ≡ true → Going box spot before made k → Going box spot before more (k + 1)
going_turn box spot before made more k node within is put small so_far =
    let rest : List Mark = items_marks (own_marks box spot) (k + 1) (drop (k + 1) (out-Boxed box).items) in
    record {
      marks = ap (λ ms. ms ++ rest) put ∙ append_assoc made (own_marks box spot k node) rest ∙ ap (λ ms. made ++ ms) (sym (items_turn (own_marks box spot) (out-Boxed box).items k node within is)) ∙ so_far.marks;
      small = so_far.small ∙ small_split box spot k node within is ∙ ap (λ b. b && list_all is_small_mark rest) small;
    }

pub going_stop : (box : Boxed) (spot : Spot) (before made : List Mark) (k : ℕ) (node : Node) → k < length (out-Boxed box).items → node ≡ get_or (out-Boxed box).items k node → list_all is_small_mark (own_marks box spot k node) ≡ false → Going box spot before made k → list_all is_small_mark (marks_at box spot) ≡ false
going_stop box spot before made k node within is large so_far =
    so_far.small ∙ small_split box spot k node within is ∙ ap (λ b. b && list_all is_small_mark (items_marks (own_marks box spot) (k + 1) (drop (k + 1) (out-Boxed box).items))) large

pub going_end : (box : Boxed) (spot : Spot) (before made : List Mark) (k : ℕ) → length (out-Boxed box).items ≤ k → Going box spot before made k → made ≡ before ++ marks_at box spot
going_end box spot before made k past so_far =
    sym (append-nil made) ∙ ap (λ ms. made ++ ms) (sym (items_end (own_marks box spot) (out-Boxed box).items k past)) ∙ so_far.marks

pub going_end_small : (box : Boxed) (spot : Spot) (before made : List Mark) (k : ℕ) → length (out-Boxed box).items ≤ k → Going box spot before made k → list_all is_small_mark (marks_at box spot) ≡ true
going_end_small box spot before made k past so_far = so_far.small ∙ ap (list_all is_small_mark) (items_end (own_marks box spot) (out-Boxed box).items k past)

-- where an item begins, by the room and the shift before it
pub item_spot-is : (box : Boxed) (spot begin : Spot) (along room shift : ℤ) (k : ℕ) → begin ≡ spot_along (out-Boxed box).axis (out-Boxed box).height spot along → along ≡ room +ℤ shift → room ≡ total (along_of (out-Boxed box).axis) (take k (out-Boxed box).items) → shift ≡ shift_after (out-Boxed box).glue_set (out-Boxed box).items k → begin ≡ item_spot box spot k
item_spot-is box spot begin along room shift k begins is room_is shift_is =
    let A : ℤ → Spot = λ z. spot_along (out-Boxed box).axis (out-Boxed box).height spot z in
    begins ∙ ap A (is ∙ ap (λ z. z +ℤ shift) room_is ∙ ap (λ z. total (along_of (out-Boxed box).axis) (take k (out-Boxed box).items) +ℤ z) shift_is)

-- the room of one item more
pub room_turn : (axis : Axis) (nodes : List Node) (k : ℕ) (node : Node) (room by more : ℤ) → k < length nodes → node ≡ get_or nodes k node → room ≡ total (along_of axis) (take k nodes) → by ≡ along_of axis node → more ≡ room +ℤ by → more ≡ total (along_of axis) (take (k + 1) nodes)
room_turn axis nodes k node room by more within is room_is by_is more_is =
    more_is ∙ ap (λ z. z +ℤ by) room_is ∙ ap (λ z. total (along_of axis) (take k nodes) +ℤ z) by_is
    ∙ sym (ap (total (along_of axis)) (take_more nodes k node within ∙ ap (λ (n : Node). take k nodes ++ n ∷ []) (sym is)) ∙ total_push (along_of axis) (take k nodes) node)

pub no_shift : (box : Boxed) → pos 0 ≡ shift_after (out-Boxed box).glue_set (out-Boxed box).items 0
no_shift box = sym (shift_behind-no_part (out-Boxed box).glue_set (total (give_of (out-Boxed box).glue_set) (out-Boxed box).items))

pub no_part : (box : Boxed) (given : Given) → given ≡ given_behind box 0 → unsigned_abs given.part ≤ 0
no_part box given is = let none : given.part ≡ pos 0 = ap (λ (g : Given). g.part) is in omega (arith, ints)

-- what is given behind one item more
pub given_turn : (box : Boxed) (k : ℕ) (given next : Given) (node : Node) → k < length (out-Boxed box).items → length (out-Boxed box).items ≤ 18446744073709551616 → node ≡ get_or (out-Boxed box).items k node → given ≡ given_behind box k → unsigned_abs given.part ≤ 2147483648 * k → IsLength (give_of given.set node) → (IsLongSum (given_past given node).part → next ≡ given_past given node) → next ≡ given_behind box (k + 1)
given_turn box k given next node within long is so_far near length past =
    let most : k + 1 ≤ 18446744073709551616 = omega arith in
    past (IsLongSum-past given node k near length most) ∙ given_past-behind box k given node within is so_far

pub near_turn : (k : ℕ) (given next : Given) (node : Node) → k + 1 ≤ 18446744073709551616 → unsigned_abs given.part ≤ 2147483648 * k → IsLength (give_of given.set node) → (IsLongSum (given_past given node).part → next ≡ given_past given node) → unsigned_abs next.part ≤ 2147483648 * (k + 1)
near_turn k given next node most near length past =
    let P : Given → Type 0 = λ g. unsigned_abs g.part ≤ 2147483648 * (k + 1) in
    subst P (sym (past (IsLongSum-past given node k near length most))) (IsNear-past given node k near length)

-- an item whose marks are not small stops its box
pub stop_turn : (box : Boxed) (spot begin : Spot) (before made : List Mark) (k : ℕ) (node : Node) (stop : Stop) → k < length (out-Boxed box).items → node ≡ get_or (out-Boxed box).items k node → begin ≡ item_spot box spot k → IsMarkStop (node_marks marks_at box begin node) stop → Going box spot before made k → IsMarkStop (marks_at box spot) stop
stop_turn box spot begin before made k node Memory within is at stops so_far = tt
stop_turn box spot begin before made k node (Fault kind) within is at stops so_far =
    let large : list_all is_small_mark (own_marks box spot k node) ≡ false = ap (λ (s : Spot). list_all is_small_mark (node_marks marks_at box s node)) (sym at) ∙ stops.1 in
    (stops.0, going_stop box spot before made k node within is large so_far)
stop_turn box spot begin before made k node (AtPlace fault) within is at stops so_far = stops
