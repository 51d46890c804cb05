use Rattle.std.proofs.Common.{ℤ, ◌-ℤ◌, to_z, of_z, w64, arith}
use Rattle.std.proofs.lemmas.Bool.{OnTrue_at, OnTrue_from}
use Rattle.std.proofs.lemmas.Int.{ints}
use Rattle.lb_model_paper.specs.Pages.{hangs}
use Rattle.lb_page.proofs.Totalling.{are_all_small-at}
use Rattle.lb_page.proofs.sums.Sums.are_small_lengths.Goals as goal

pub returns-clause-value : goal.returns-clause-value
returns-clause-value c =
    let s = c.args.self.now in
    let hanging = hangs c.args.rules.now s.hanging in
    let held : ℤ → ℤ = λ z. to_z w64 (of_z w64 z) in
    are_all_small-at (held (held s.room -ℤ held c.from-hangs.result)) (held c.from-hangs.result) (held s.right) (held s.feet_size) (s.room -ℤ hanging) hanging s.right s.feet_size _ c.are_all_small.ensures.value (omega (arith, ints)) (omega (arith, ints)) (omega (arith, ints)) (omega (arith, ints))

pub returns-clause-ready : goal.returns-clause-ready
returns-clause-ready c = OnTrue_from c.are_all_small.result _ (λ yes.
    let first = OnTrue_at yes c.are_all_small.ensures.first in
    let second = OnTrue_at yes c.are_all_small.ensures.second in
    let fourth = OnTrue_at yes c.are_all_small.ensures.fourth in
    record {
      low = omega (arith, ints);
      high = omega (arith, ints);
      feet_size = record { low = omega (arith, ints); high = omega (arith, ints) };
    })

pub returns-clause-total : goal.returns-clause-total
returns-clause-total c = OnTrue_from c.are_all_small.result _ (λ yes.
    let first = OnTrue_at yes c.are_all_small.ensures.first in
    record { low = omega (arith, ints); high = omega (arith, ints) })

pub returns-clause-hanging : goal.returns-clause-hanging
returns-clause-hanging c = OnTrue_from c.are_all_small.result _ (λ yes.
    let second = OnTrue_at yes c.are_all_small.ensures.second in
    record { low = omega (arith, ints); high = omega (arith, ints) })
