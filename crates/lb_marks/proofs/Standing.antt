-- Characters that stand one behind another in a horizontal box.
use Rattle.std.proofs.Common.{◌≡◌, ℕ, ◌+◌, ◌*◌, ◌<◌, ◌≤◌, Bool, true, false, cond, ◌&&◌, List, [], ◌∷◌, length, get_or, take, ℤ, pos, ◌+ℤ◌, refl, sym, ap, ◌∙◌, arith}
use Rattle.std.specs.List.{list_all}
use Rattle.std.specs.Int.{is_negative}
use Rattle.std.specs.Prelude.{unsigned_abs}
use Rattle.std.proofs.lemmas.Int.{ints}
use Rattle.lb_base.specs.declared.font.Metrics.{Metrics}
use Rattle.lb_base.specs.declared.glue.Order.{Order}
use Rattle.lb_base.specs.declared.node.Axis.{Axis}
use Rattle.lb_base.specs.declared.node.Boxed.{Boxed, out-Boxed}
use Rattle.lb_base.specs.declared.node.HeadMark.TheOpen.{Char as CharLayer}
use Rattle.lb_base.specs.declared.node.Node.{Node, out-Node}
use Rattle.lb_base.specs.declared.page.FontId.{FontId}
use Rattle.lb_base.specs.declared.page.Mark.{Mark}
use Rattle.lb_base.specs.declared.page.Mark.TheVariants.{Char}
use Rattle.lb_marks.specs.declared.drawing.Stand.{Stand}
use Rattle.lb_marks.specs.Spots.{baseline_of_char, IsStand, mark_of_char, room_of_char}
use Rattle.lb_model_paper.specs.Boxes.{give_of, shift_after}
use Rattle.lb_model_paper.specs.Dvi.{is_small}
use Rattle.lb_model_paper.specs.Marks.{is_small_mark, item_spot, Spot, spot_along}
use Rattle.lb_model_paper.specs.Nodes.{along as along_of, shrink_in, shrink_of, stretch_in, stretch_of, total}
use Rattle.lb_nodes.specs.Setting.{Given, given_behind, given_past, shift_given}
use Rattle.lb_nodes.proofs.Walks.{given_past-behind}
use Rattle.lb_marks.proofs.Boxes.{item_spot-is, own_marks}
use Rattle.lb_marks.proofs.Characters.{char_marks, room_of_char-is}

place : (box : Boxed) (spot : Spot) (at : Stand) (room shift : ℤ) (k : ℕ) → IsStand (out-Boxed box).axis (out-Boxed box).height spot (room +ℤ shift) at → room ≡ total (along_of (out-Boxed box).axis) (take k (out-Boxed box).items) → shift ≡ shift_after (out-Boxed box).glue_set (out-Boxed box).items k → ◌≡◌ {A = Spot} (record { h = at.h; v = at.v }) (item_spot box spot k)
place box spot at room shift k s room_is shift_is =
    let P : ℤ → ℤ → Spot = λ h v. record { h = h; v = v } in
    let A : Axis → Spot = λ axis. spot_along axis (out-Boxed box).height spot (room +ℤ shift) in
    let begins : P at.h at.v ≡ A (out-Boxed box).axis = ap (λ h. P h at.v) s.h ∙ ap (P (spot.h +ℤ (room +ℤ shift))) s.v ∙ ap A (sym s.horizontal) in
    item_spot-is box spot (P at.h at.v) (room +ℤ shift) room shift k begins refl room_is shift_is

-- the mark of a character that stands there
pub stand_marks : (box : Boxed) (spot : Spot) (at : Stand) (room shift : ℤ) (k : ℕ) (node : Node) (code : ℕ) (metrics : Metrics) (font : FontId) → IsStand (out-Boxed box).axis (out-Boxed box).height spot (room +ℤ shift) at → room ≡ total (along_of (out-Boxed box).axis) (take k (out-Boxed box).items) → shift ≡ shift_after (out-Boxed box).glue_set (out-Boxed box).items k → out-Node node ≡ CharLayer code metrics font → own_marks box spot k node ≡ Char at.h at.v font code metrics.width ∷ []
stand_marks box spot at room shift k node code metrics font s room_is shift_is is =
    let M : Spot → List Mark = λ p. mark_of_char p font code metrics.width ∷ [] in
    char_marks box (item_spot box spot k) node code metrics font is
    ∙ ap (λ (axis : Axis). M (baseline_of_char axis (item_spot box spot k) metrics.height)) s.horizontal
    ∙ ap M (sym (place box spot at room shift k s room_is shift_is))

pub one_small : (mark : Mark) → is_small_mark mark ≡ true → list_all is_small_mark (mark ∷ []) ≡ true
one_small mark small = ap (λ b. b && true) small

pub stand_room : (axis : Axis) (height along : ℤ) (spot : Spot) (at : Stand) (node : Node) (code : ℕ) (metrics : Metrics) (font : FontId) → IsStand axis height spot along at → out-Node node ≡ CharLayer code metrics font → metrics.width ≡ along_of axis node
stand_room axis height along spot at node code metrics font s is = ap (λ (a : Axis). room_of_char a metrics) (sym s.horizontal) ∙ room_of_char-is axis node code metrics font is

-- where the next one stands
pub stand_turn : (axis : Axis) (height : ℤ) (spot : Spot) (at : Stand) (end down room more shift width : ℤ) → IsStand axis height spot (room +ℤ shift) at → end ≡ at.h +ℤ width → down ≡ at.v → more ≡ room +ℤ width → is_small (at.h +ℤ width) ≡ true → IsStand axis height spot (more +ℤ shift) (record { h = end; v = down })
stand_turn axis height spot at end down room more shift width s ends same takes small =
    let before = s.h in
    record {
      horizontal = s.horizontal;
      h = omega (arith, ints);
      v = same ∙ s.v;
      left = ap is_small ends ∙ small;
      baseline = ap is_small same ∙ s.baseline;
    }

-- ---- a character gives nothing

no_stretch : (order : Order) (node : Node) (code : ℕ) (metrics : Metrics) (font : FontId) → out-Node node ≡ CharLayer code metrics font → stretch_of order node ≡ pos 0
unfolding stretch_of
no_stretch order node code metrics font is = ap (stretch_in order) is

no_shrink : (order : Order) (node : Node) (code : ℕ) (metrics : Metrics) (font : FontId) → out-Node node ≡ CharLayer code metrics font → shrink_of order node ≡ pos 0
unfolding shrink_of
no_shrink order node code metrics font is = ap (shrink_in order) is

no_give-by : (b : Bool) (shrink stretch : ℤ) → shrink ≡ pos 0 → stretch ≡ pos 0 → cond b shrink stretch ≡ pos 0
no_give-by true shrink stretch a c = a
no_give-by false shrink stretch a c = c

no_more : (z : ℤ) → z +ℤ pos 0 ≡ z
no_more z = omega (arith, ints)

pub stand_given : (box : Boxed) (k : ℕ) (given : Given) (node : Node) (code : ℕ) (metrics : Metrics) (font : FontId) → k < length (out-Boxed box).items → node ≡ get_or (out-Boxed box).items k node → given ≡ given_behind box k → out-Node node ≡ CharLayer code metrics font → given ≡ given_behind box (k + 1)
stand_given box k given node code metrics font within is so_far layer =
    let G : ℤ → Given = λ z. record { set = given.set; part = z; whole = given.whole } in
    let none : give_of given.set node ≡ pos 0 = no_give-by (is_negative given.set.excess) (shrink_of given.set.order node) (stretch_of given.set.order node) (no_shrink given.set.order node code metrics font layer) (no_stretch given.set.order node code metrics font layer) in
    let kept : given_past given node ≡ given = ap (λ z. G (given.part +ℤ z)) none ∙ ap G (no_more given.part) in
    sym kept ∙ given_past-behind box k given node within is so_far

pub stand_shift : (box : Boxed) (k : ℕ) (given : Given) (shift : ℤ) → shift ≡ shift_after (out-Boxed box).glue_set (out-Boxed box).items k → given ≡ given_behind box k → given ≡ given_behind box (k + 1) → shift ≡ shift_after (out-Boxed box).glue_set (out-Boxed box).items (k + 1)
stand_shift box k given shift is now next = is ∙ ap shift_given (sym now ∙ next)

pub stand_near : (k : ℕ) (given : Given) → unsigned_abs given.part ≤ 2147483648 * k → unsigned_abs given.part ≤ 2147483648 * (k + 1)
stand_near k given near = omega arith
