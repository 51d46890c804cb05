-- A character as an item of a box.
use Rattle.std.proofs.Common.{◌≡◌, ℕ, List, [], ◌∷◌, ℤ, pos, ◌+ℤ◌, ap, ◌∙◌, arith}
use Rattle.std.proofs.lemmas.Int.{ints}
use Rattle.lb_base.specs.declared.font.Metrics.{Metrics}
use Rattle.lb_base.specs.declared.node.Axis.{Axis}
use Rattle.lb_base.specs.declared.node.Axis.TheVariants.{Horizontal, Vertical}
use Rattle.lb_base.specs.declared.node.Boxed.{Boxed, out-Boxed}
use Rattle.lb_base.specs.declared.node.HeadMark.TheOpen.{Char as CharLayer}
use Rattle.lb_base.specs.declared.node.Node.{Char as CharNode, Node, out-Node}
use Rattle.lb_base.specs.declared.page.FontId.{FontId}
use Rattle.lb_base.specs.declared.page.Mark.{Mark}
use Rattle.lb_base.specs.declared.page.Mark.TheVariants.{Char}
use Rattle.lb_model_paper.specs.Marks.{baseline_of, layer_marks, marks_at, node_marks, Spot}
use Rattle.lb_model_paper.specs.Nodes.{along, given, shift_in, shift_of, Size, size_in, size_of, space_in, space_of}
use Rattle.lb_marks.specs.Spots.{baseline_of_char, mark_of_char, room_of_char}

pub char_layer : (node : Node) (code : ℕ) (metrics : Metrics) (font : FontId) → node ≡ CharNode code metrics font → out-Node node ≡ CharLayer code metrics font
unfolding out-Node denote.Hole.Carrier.out
char_layer node code metrics font is = ap out-Node is

no_more : (z : ℤ) → z +ℤ pos 0 ≡ z
no_more z = omega (arith, ints)

no_less : (z : ℤ) → pos 0 +ℤ z ≡ z
no_less z = omega (arith, ints)

unmoved : (node : Node) (code : ℕ) (metrics : Metrics) (font : FontId) → out-Node node ≡ CharLayer code metrics font → shift_of node ≡ pos 0
unfolding shift_of
unmoved node code metrics font is = ap shift_in is

sized : (node : Node) (code : ℕ) (metrics : Metrics) (font : FontId) → out-Node node ≡ CharLayer code metrics font → size_of node ≡ record { width = metrics.width; height = metrics.height; depth = metrics.depth }
unfolding size_of
sized node code metrics font is = ap size_in is

unspaced : (node : Node) (code : ℕ) (metrics : Metrics) (font : FontId) → out-Node node ≡ CharLayer code metrics font → given (space_of node) ≡ pos 0
unfolding space_of
unspaced node code metrics font is = ap (λ layer. given (space_in layer)) is

pub room_of_char-is : (axis : Axis) (node : Node) (code : ℕ) (metrics : Metrics) (font : FontId) → out-Node node ≡ CharLayer code metrics font → room_of_char axis metrics ≡ along axis node
unfolding along
room_of_char-is Horizontal node code metrics font is = rw (unspaced node code metrics font is, sized node code metrics font is) (omega (arith, ints))
room_of_char-is Vertical node code metrics font is = rw (unspaced node code metrics font is, sized node code metrics font is) (omega (arith, ints))

pub baseline_of_char-is : (axis : Axis) (spot : Spot) (node : Node) (code : ℕ) (metrics : Metrics) (font : FontId) → out-Node node ≡ CharLayer code metrics font → baseline_of axis spot node ≡ baseline_of_char axis spot metrics.height
baseline_of_char-is Horizontal spot node code metrics font is =
    let V : ℤ → Spot = λ v. record { h = spot.h; v = v } in
    ap (λ z. V (spot.v +ℤ z)) (unmoved node code metrics font is) ∙ ap V (no_more spot.v)
baseline_of_char-is Vertical spot node code metrics font is =
    let H : ℤ → Size → Spot = λ z size. record { h = spot.h +ℤ z; v = spot.v +ℤ size.height } in
    ap (λ z. H z (size_of node)) (unmoved node code metrics font is)
    ∙ ap (H (pos 0)) (sized node code metrics font is)
    ∙ ap (λ h. record { h = h; v = spot.v +ℤ metrics.height }) (no_more spot.h)

-- its one mark
pub char_marks : (box : Boxed) (begin : Spot) (node : Node) (code : ℕ) (metrics : Metrics) (font : FontId) → out-Node node ≡ CharLayer code metrics font → node_marks marks_at box begin node ≡ mark_of_char (baseline_of_char (out-Boxed box).axis begin metrics.height) font code metrics.width ∷ []
unfolding node_marks
char_marks box begin node code metrics font is =
    let axis = (out-Boxed box).axis in
    let M : Spot → List Mark = λ s. Char s.h s.v font code metrics.width ∷ [] in
    ap (λ layer. layer_marks marks_at box (baseline_of axis begin node) layer) is
    ∙ ap M (baseline_of_char-is axis begin node code metrics font is)
