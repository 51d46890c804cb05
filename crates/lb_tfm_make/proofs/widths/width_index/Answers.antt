use Rattle.std.proofs.Common.{◌≡◌, get_or, pos, w32, arith, rules}
use Rattle.std.proofs.lemmas.Int.{to_z-of_z}
use Rattle.lb_tfm_make.proofs.DistinctWidths.{place-here}
use Rattle.lb_tfm_make.proofs.widths.width_index.Goals as goal

pub returns-then-other-width : goal.returns-then-other-width
returns-then-other-width c =
    let is : c.args.width ≡ get_or c.args.widths.now c.loop-other.other-index (pos 0) = search rules in
    let place = rw (to_z-of_z w32 c.args.width c.ranges.width) at c.loop-other.invariant.place in
    let here = place-here c.args.widths.now c.args.width c.loop-other.other-index (pos 0) c.loop-other-test.true is place in
    omega arith
