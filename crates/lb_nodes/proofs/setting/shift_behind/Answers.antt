use Rattle.std.proofs.Common.{◌≡◌, ℤ, pos, ◌*ℤ◌, true, false, to_z, of_z, arith, rules, sym, ap, ◌∙◌}
use mir.Syntax.{w128}
use Rattle.std.proofs.lemmas.Int.{ints, to_z-of_z}
use Rattle.lb_model_paper.specs.Boxes.{is_overfull, nearest}
use Rattle.lb_model_paper.specs.Dvi.{is_zero}
use Rattle.lb_nodes.proofs.Shifting.{is_zero-not, shift_behind-overfull, shift_behind-nearest}
use Rattle.lb_nodes.proofs.setting.shift_behind.Goals as goal

pub returns-then-is_overfull : goal.returns-then-is_overfull
returns-then-is_overfull c =
    let some : is_zero c.args.whole ≡ false = is_zero-not c.args.whole (λ (e : c.args.whole ≡ pos 0). c.if-whole-eq0.false (ap (of_z w128) e)) in
    let over : is_overfull c.args.set c.args.whole ≡ true = ap (λ (z : ℤ). is_overfull c.args.set z) (sym (to_z-of_z w128 c.args.whole c.ranges.whole)) ∙ sym c.is_overfull.ensures ∙ c.if-is_overfull.true in
    rw (shift_behind-overfull c.args.set c.args.part c.args.whole some over) (omega (arith, ints))

pub returns : goal.returns
returns c =
    let some : is_zero c.args.whole ≡ false = is_zero-not c.args.whole (λ (e : c.args.whole ≡ pos 0). c.if-whole-eq0.false (ap (of_z w128) e)) in
    let fits : is_overfull c.args.set c.args.whole ≡ false = ap (λ (z : ℤ). is_overfull c.args.set z) (sym (to_z-of_z w128 c.args.whole c.ranges.whole)) ∙ sym c.is_overfull.ensures ∙ c.if-is_overfull.false in
    let share : to_z w128 (of_z w128 c.share.result) ≡ nearest (c.args.part *ℤ c.args.set.excess) c.args.whole = search rules in
    share ∙ sym (shift_behind-nearest c.args.set c.args.part c.args.whole some fits)
