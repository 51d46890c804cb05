use Rattle.std.proofs.Common.{◌≡◌, sym, true, false, arith}
use Rattle.std.specs.Int.{is_negative}
use Rattle.std.proofs.lemmas.Int.{ints}
use Rattle.lb_nodes.proofs.Amounts.{IsSmall-amount_in}
use Rattle.lb_nodes.proofs.Shifting.{total-give_shrink, total-give_stretch}
use Rattle.lb_nodes.proofs.plan.whole.Goals as goal

pub returns-then-set-lt0 : goal.returns-then-set-lt0
returns-then-set-lt0 c = λ axis nodes are.
    let negative : is_negative c.args.set.excess ≡ true = grind (arith, ints) in
    let give = total-give_shrink c.args.set nodes negative in
    let amount = are.shrink c.args.set.order in
    let small = IsSmall-amount_in c.args.totals.now.shrink c.requires.shrink c.args.set.order in
    rw (give, sym amount) (omega (arith, ints))

pub returns-else-set-lt0 : goal.returns-else-set-lt0
returns-else-set-lt0 c = λ axis nodes are.
    let negative : is_negative c.args.set.excess ≡ false = grind (arith, ints) in
    let give = total-give_stretch c.args.set nodes negative in
    let amount = are.stretch c.args.set.order in
    let small = IsSmall-amount_in c.args.totals.now.stretch c.requires.stretch c.args.set.order in
    rw (give, sym amount) (omega (arith, ints))
