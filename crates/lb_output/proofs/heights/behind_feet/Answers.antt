use Rattle.std.proofs.Common.{◌≡◌, ◌∙◌, ap, sym, refl, ℤ, ◌+ℤ◌, ◌+◌, map, drop, to_z, of_z, w64, arith}
use Rattle.std.proofs.lemmas.Int.{ints}
use Rattle.std.specs.Option.{is_some}
use Rattle.lb_model_paper.specs.Pages.{foot_size}
use Rattle.lb_model_paper.specs.PageBoxes.{are_small_behind}
use Rattle.lb_output.proofs.Behind.{behind-more, small-at, total-more}
use Rattle.lb_output.proofs.heights.behind_feet.Goals as goal

pub loop-node-preserved : goal.loop-node-preserved
loop-node-preserved c =
    let held : ℤ → ℤ = λ z. to_z w64 (of_z w64 z) in
    let feet = c.args.feet.now in
    let k = c.loop-node.node-index in
    let node = c.node-item.result in
    let sum = to_z w64 c.loop-node.sum-bits in
    let more = total-more feet k node c.loop-node-test.true c.node-item.is in
    let foot : held c.foot_size.result ≡ foot_size node = omega (arith, ints, c.foot_size.ensures.value) in
    let next : held c.in-Some.next ≡ sum +ℤ foot_size node = omega (arith, ints, c.in-Some.ensures.sum.is) in
    let small = sym (small-at c.add.result sum (held c.foot_size.result) sum (foot_size node) c.add.ensures.small refl foot) ∙ ap is_some c.in-Some.is in
    record {
      sum = record { is = omega (arith, ints, more, next, c.loop-node.invariant.sum.is); small = record { low = omega (arith, ints, c.in-Some.ensures.sum.small); high = omega (arith, ints, c.in-Some.ensures.sum.small) } };
      small = c.loop-node.invariant.small ∙ behind-more sum feet k node c.loop-node-test.true c.node-item.is small ∙ ap (λ (z : ℤ). are_small_behind z (map foot_size (drop (k + 1) feet))) (sym next);
    }
