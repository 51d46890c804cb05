use Rattle.std.proofs.Common.{◌≡◌, ◌+◌, ◌≤◌, ℤ, pos, refl, sym, ◌∙◌, subst, length, to_z, of_z, w32, FitsSigned, arith, rules}
use mir.Syntax.{w128}
use Rattle.std.proofs.lemmas.Bool.{false≢true, iff_false}
use Rattle.std.proofs.lemmas.Int.{ints}
use Rattle.lb_model_paper.specs.Boxes.{give_of}
use Rattle.lb_model_paper.specs.Dvi.{IsSmall}
use Rattle.lb_model_paper.specs.Nodes.{total}
use Rattle.lb_nodes.proofs.Products.{plus_bounded}
use Rattle.lb_nodes.proofs.Shifting.{AreSmallShifts-more, AreSmallShifts-no_excess, AreSmallShifts-none, AreSmallShifts-nothing, shift_after-is, sum_turn}
use Rattle.lb_nodes.proofs.setting.are_small_shifts.Goals as goal

pub returns-then-set-eq0 : goal.returns-then-set-eq0
returns-then-set-eq0 c =
    let fits : FitsSigned w32 c.args.set.excess = search rules in
    let none : c.args.set.excess ≡ pos 0 = omega (arith, ints) in
    (λ _. AreSmallShifts-no_excess c.args.set c.args.nodes.now none, λ _. refl)

pub returns-then-whole-eq0 : goal.returns-then-whole-eq0
returns-then-whole-eq0 c =
    let none : c.args.whole ≡ pos 0 = omega (arith, ints) in
    (λ _. AreSmallShifts-nothing c.args.set c.args.nodes.now (sym c.requires ∙ none), λ _. refl)

pub loop-node-init : goal.loop-node-init
loop-node-init c = record { part = refl; bounded = omega arith; shifts = AreSmallShifts-none c.args.set c.args.nodes.now }

pub returns-then-not-is_small_shift : goal.returns-then-not-is_small_shift
returns-then-not-is_small_shift c =
    let nodes = c.args.nodes.now in
    let k = c.loop-node.node-index in
    let reached : k + 1 ≤ length nodes = omega arith in
    let part = sum_turn c.args.set nodes k c.node-item.result (to_z w128 c.loop-node.part-bits) (give_of c.args.set c.node-item.result) (to_z w128 (of_z w128 c.plus-part.result)) c.loop-node-test.true c.node-item.is c.loop-node.invariant.part refl (search rules) in
    let whole : to_z w128 (of_z w128 c.from-whole.result) ≡ total (give_of c.args.set) nodes = search rules in
    let shift = shift_after-is c.args.set nodes (k + 1) (to_z w128 (of_z w128 c.plus-part.result)) (to_z w128 (of_z w128 c.from-whole.result)) part whole in
    let S : ℤ → Type 0 = λ z. IsSmall z in
    (λ no. absurd (false≢true no), λ small. absurd (iff_false c.is_small_shift.ensures c.if-not-is_small_shift.true (subst S (sym shift) (small (k + 1) reached))))

pub loop-node-preserved : goal.loop-node-preserved
loop-node-preserved c =
    let nodes = c.args.nodes.now in
    let k = c.loop-node.node-index in
    let part = sum_turn c.args.set nodes k c.node-item.result (to_z w128 c.loop-node.part-bits) (give_of c.args.set c.node-item.result) (to_z w128 (of_z w128 c.plus-part.result)) c.loop-node-test.true c.node-item.is c.loop-node.invariant.part refl (search rules) in
    let whole : to_z w128 (of_z w128 c.from-whole.result) ≡ total (give_of c.args.set) nodes = search rules in
    let shift = shift_after-is c.args.set nodes (k + 1) (to_z w128 (of_z w128 c.plus-part.result)) (to_z w128 (of_z w128 c.from-whole.result)) part whole in
    let S : ℤ → Type 0 = λ z. IsSmall z in
    record {
      part = part;
      bounded = plus_bounded (to_z w128 c.loop-node.part-bits) (to_z w32 (of_z w32 c.give_of.result)) (to_z w128 (of_z w128 c.plus-part.result)) k c.loop-node.invariant.bounded (search rules) (search rules);
      shifts = AreSmallShifts-more c.args.set nodes k c.loop-node.invariant.shifts (subst S shift (c.is_small_shift.ensures.0 c.if-not-is_small_shift.false));
    }
