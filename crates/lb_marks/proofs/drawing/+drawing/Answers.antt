use Rattle.std.proofs.Common.{◌≡◌, ◌≤◌, ◌<◌, ◌+◌, ◌++◌, ◌∙◌, List, ◌+ℤ◌, refl, rules, arith, length, get_or, sym, ap, subst, true, to_z, of_z}
use mir.Syntax.{w128}
use Rattle.std.specs.List.{list_all}
use Rattle.lb_base.specs.declared.node.Node.{Node}
use Rattle.lb_model_paper.specs.Marks.{is_small_mark, item_spot, marks_at, node_marks, Spot, spot_along}
use Rattle.lb_nodes.specs.Setting.{shift_given}
use Rattle.lb_marks.specs.Spots.{spot_of}
use Rattle.lb_marks.proofs.Boxes.{given_turn, going_end, going_end_small, going_start, going_turn, item_spot-is, near_turn, no_part, no_shift, own_marks, room_turn, stop_turn}
use Rattle.lb_base.specs.declared.page.Mark.{Mark}
use Rattle.lb_base.specs.declared.page.Mark.TheVariants.{Char}
use Rattle.lb_marks.specs.Spots.{IsMarkStop, IsStand}
use Rattle.lb_marks.proofs.Standing.{one_small, stand_given, stand_marks, stand_near, stand_room, stand_shift, stand_turn}
use Rattle.lb_marks.proofs.Characters.{char_layer, char_marks, room_of_char-is}
use Rattle.lb_marks.proofs.drawing.+drawing.Goals as goal

pub push_box-loop-node-init : goal.push_box-loop-node-init
push_box-loop-node-init t c = record {
  going = going_start c.args.boxed.now (spot_of c.args.spot) c.args.marks.now;
  room = refl;
  shift = no_shift c.args.boxed.now;
  given = c.over-shifts.ensures;
  known = tt;
  near = no_part c.args.boxed.now c.over-shifts.result c.over-shifts.ensures;
}

pub push_box-returns-in-Err-push_node-clause-stop : goal.push_box-returns-in-Err-push_node-clause-stop
push_box-returns-in-Err-push_node-clause-stop t c =
    let box = c.args.boxed.now in
    let spot : Spot = spot_of c.args.spot in
    let node = c.node-item.result in
    let k = c.loop-node.node-index in
    let same : c.as_slice-node-items.result.now ≡ box.items = search rules in
    let within : k < length box.items = subst (λ (ns : List Node). k < length ns) same c.loop-node-test.true in
    let is : node ≡ get_or box.items k node = subst (λ (ns : List Node). node ≡ get_or ns k node) same c.node-item.is in
    let sum : to_z w128 (of_z w128 c.in_ok-along.along) ≡ to_z w128 c.loop-node.room-bits +ℤ to_z w128 c.loop-node.shift-bits = search rules in
    let begin : spot_of c.in_ok-begin.begin ≡ spot_along box.axis box.height spot (to_z w128 (of_z w128 c.in_ok-along.along)) = search rules in
    let at = item_spot-is box spot (spot_of c.in_ok-begin.begin) (to_z w128 (of_z w128 c.in_ok-along.along)) (to_z w128 c.loop-node.room-bits) (to_z w128 c.loop-node.shift-bits) k begin sum c.loop-node.invariant.room c.loop-node.invariant.shift in
    stop_turn box spot (spot_of c.in_ok-begin.begin) c.args.marks.now c.loop-node.marks k node c.in-Err-push_node.stop within is at c.in-Err-push_node.ensures.stop c.loop-node.invariant.going

pub push_box-returns-in-Err-clause-stop : goal.push_box-returns-in-Err-clause-stop
push_box-returns-in-Err-clause-stop t c =
    let box = c.args.boxed.now in
    let spot : Spot = spot_of c.args.spot in
    let node = c.node-item.result in
    let k = c.loop-node.node-index in
    let same : c.as_slice-node-items.result.now ≡ box.items = search rules in
    let within : k < length box.items = subst (λ (ns : List Node). k < length ns) same c.loop-node-test.true in
    let is : node ≡ get_or box.items k node = subst (λ (ns : List Node). node ≡ get_or ns k node) same c.node-item.is in
    let room = to_z w128 c.loop-node.room-bits in
    let shift = to_z w128 c.loop-node.shift-bits in
    let layer = char_layer node _ _ _ c.in-Char.is in
    let stands : IsStand box.axis box.height spot (room +ℤ shift) c.in-Some.at = search rules in
    let own = stand_marks box spot c.in-Some.at room shift k node _ _ _ stands c.loop-node.invariant.room c.loop-node.invariant.shift layer in
    let stops : IsMarkStop (own_marks box spot k node) c.in-Err.stop = subst (λ (ms : List Mark). IsMarkStop ms c.in-Err.stop) (sym own) (search rules) in
    stop_turn box spot (item_spot box spot k) c.args.marks.now c.loop-node.marks k node c.in-Err.stop within is refl stops c.loop-node.invariant.going

pub push_box-loop-node-preserved-in-Some : goal.push_box-loop-node-preserved-in-Some
push_box-loop-node-preserved-in-Some t c =
    let box = c.args.boxed.now in
    let spot : Spot = spot_of c.args.spot in
    let node = c.node-item.result in
    let k = c.loop-node.node-index in
    let same : c.as_slice-node-items.result.now ≡ box.items = search rules in
    let within : k < length box.items = subst (λ (ns : List Node). k < length ns) same c.loop-node-test.true in
    let is : node ≡ get_or box.items k node = subst (λ (ns : List Node). node ≡ get_or ns k node) same c.node-item.is in
    let room = to_z w128 c.loop-node.room-bits in
    let shift = to_z w128 c.loop-node.shift-bits in
    let layer = char_layer node _ _ _ c.in-Char.is in
    let stands : IsStand box.axis box.height spot (room +ℤ shift) c.in-Some.at = search rules in
    let own = stand_marks box spot c.in-Some.at room shift k node _ _ _ stands c.loop-node.invariant.room c.loop-node.invariant.shift layer in
    let put : c.push_standing.new.marks ≡ c.loop-node.marks ++ own_marks box spot k node = search rules ∙ ap (λ ms. c.loop-node.marks ++ ms) (sym own) in
    let small : list_all is_small_mark (own_marks box spot k node) ≡ true = ap (list_all is_small_mark) own ∙ one_small (Char c.in-Some.at.h c.in-Some.at.v c.in-Char.font c.in-Char.code c.in-Char.metrics.width) (search rules) in
    let given = stand_given box k c.loop-node.shifts node _ _ _ within is c.loop-node.invariant.given layer in
    let more = to_z w128 (of_z w128 c.in_ok-room.room) in
    let takes : more ≡ room +ℤ c.in-Char.metrics.width = search rules in
    record {
      going = going_turn box spot c.args.marks.now c.loop-node.marks c.push_standing.new.marks k node within is put small c.loop-node.invariant.going;
      room = room_turn box.axis box.items k node room c.in-Char.metrics.width more within is c.loop-node.invariant.room (stand_room box.axis box.height (room +ℤ shift) spot c.in-Some.at node _ _ _ stands layer) takes;
      shift = stand_shift box k c.loop-node.shifts shift c.loop-node.invariant.shift c.loop-node.invariant.given given;
      given = given;
      known = stand_turn box.axis box.height spot c.in-Some.at _ _ room more shift c.in-Char.metrics.width stands (search rules) (search rules) takes (search rules);
      near = stand_near k c.loop-node.shifts c.loop-node.invariant.near;
    }

pub push_box-loop-node-preserved : goal.push_box-loop-node-preserved
push_box-loop-node-preserved t c =
    let box = c.args.boxed.now in
    let spot : Spot = spot_of c.args.spot in
    let node = c.node-item.result in
    let k = c.loop-node.node-index in
    let same : c.as_slice-node-items.result.now ≡ box.items = search rules in
    let within : k < length box.items = subst (λ (ns : List Node). k < length ns) same c.loop-node-test.true in
    let slice : length c.as_slice-node-items.result.now ≤ 18446744073709551616 = omega arith in
    let long : length box.items ≤ 18446744073709551616 = subst (λ (ns : List Node). length ns ≤ 18446744073709551616) same slice in
    let most : k + 1 ≤ 18446744073709551616 = omega arith in
    let is : node ≡ get_or box.items k node = subst (λ (ns : List Node). node ≡ get_or ns k node) same c.node-item.is in
    let sum : to_z w128 (of_z w128 c.in_ok-along.along) ≡ to_z w128 c.loop-node.room-bits +ℤ to_z w128 c.loop-node.shift-bits = search rules in
    let begin : spot_of c.in_ok-begin.begin ≡ spot_along box.axis box.height spot (to_z w128 (of_z w128 c.in_ok-along.along)) = search rules in
    let at = item_spot-is box spot (spot_of c.in_ok-begin.begin) (to_z w128 (of_z w128 c.in_ok-along.along)) (to_z w128 c.loop-node.room-bits) (to_z w128 c.loop-node.shift-bits) k begin sum c.loop-node.invariant.room c.loop-node.invariant.shift in
    let put : c.push_node.new.marks ≡ c.loop-node.marks ++ own_marks box spot k node = c.in-Ok-push_node.ensures.ok ∙ ap (λ (s : Spot). c.loop-node.marks ++ node_marks marks_at box s node) at in
    let small : list_all is_small_mark (own_marks box spot k node) ≡ true = ap (λ (s : Spot). list_all is_small_mark (node_marks marks_at box s node)) (sym at) ∙ c.in-Ok-push_node.ensures.small in
    let given = given_turn box k c.loop-node.shifts c.through-shift.new.self node within long is c.loop-node.invariant.given c.loop-node.invariant.near c.through-shift.ensures.give c.through-shift.ensures.given in
    let shift : to_z w128 (of_z w128 c.through-shift.result) ≡ shift_given c.through-shift.new.self = search rules in
    record {
      going = going_turn box spot c.args.marks.now c.loop-node.marks c.push_node.new.marks k node within is put small c.loop-node.invariant.going;
      room = room_turn box.axis box.items k node (to_z w128 c.loop-node.room-bits) (to_z w128 (of_z w128 c.from-in-loop-node.result)) (to_z w128 (of_z w128 c.in_ok-room-2.room)) within is c.loop-node.invariant.room (search rules) (search rules);
      shift = shift ∙ ap shift_given given;
      given = given;
      known = tt;
      near = near_turn k c.loop-node.shifts c.through-shift.new.self node most c.loop-node.invariant.near c.through-shift.ensures.give c.through-shift.ensures.given;
    }

pub push_box-returns-clause-ok : goal.push_box-returns-clause-ok
push_box-returns-clause-ok t c =
    let same : c.as_slice-node-items.result.now ≡ c.args.boxed.now.items = search rules in
    let past : length c.args.boxed.now.items ≤ c.loop-node.node-index = subst (λ (ns : List Node). length ns ≤ c.loop-node.node-index) same c.loop-node-test.false in
    going_end c.args.boxed.now (spot_of c.args.spot) c.args.marks.now c.loop-node.marks c.loop-node.node-index past c.loop-node.invariant.going

pub push_box-returns-clause-small : goal.push_box-returns-clause-small
push_box-returns-clause-small t c =
    let same : c.as_slice-node-items.result.now ≡ c.args.boxed.now.items = search rules in
    let past : length c.args.boxed.now.items ≤ c.loop-node.node-index = subst (λ (ns : List Node). length ns ≤ c.loop-node.node-index) same c.loop-node-test.false in
    going_end_small c.args.boxed.now (spot_of c.args.spot) c.args.marks.now c.loop-node.marks c.loop-node.node-index past c.loop-node.invariant.going

pub push_node-returns-in-Char-clause-ok : goal.push_node-returns-in-Char-clause-ok
push_node-returns-in-Char-clause-ok t c = rw (char_marks c.args.boxed.now (spot_of c.args.begin) c.args.node.now _ _ _ (char_layer c.args.node.now _ _ _ c.in-Char.is)) (search rules)

pub push_node-returns-in-Char-clause-small : goal.push_node-returns-in-Char-clause-small
push_node-returns-in-Char-clause-small t c = rw (char_marks c.args.boxed.now (spot_of c.args.begin) c.args.node.now _ _ _ (char_layer c.args.node.now _ _ _ c.in-Char.is)) (search rules)

pub push_node-returns-in-Char-clause-room : goal.push_node-returns-in-Char-clause-room
push_node-returns-in-Char-clause-room t c = let same = room_of_char-is c.args.boxed.now.axis c.args.node.now _ _ _ (char_layer c.args.node.now _ _ _ c.in-Char.is) in search (rules, same)

pub push_node-returns-in-Char-clause-stop : goal.push_node-returns-in-Char-clause-stop
push_node-returns-in-Char-clause-stop t c = rw (char_marks c.args.boxed.now (spot_of c.args.begin) c.args.node.now _ _ _ (char_layer c.args.node.now _ _ _ c.in-Char.is)) (search rules)
