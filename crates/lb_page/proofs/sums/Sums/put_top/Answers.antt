use Rattle.std.proofs.Common.{refl, arith, w32, FitsSigned}
use Rattle.std.proofs.lemmas.Int.{ints}
use Rattle.lb_page.proofs.Totalling.{amount_in-held, AreSums-top}
use Rattle.lb_page.proofs.sums.Sums.put_top.Goals as goal

pub invariant_of-self : goal.invariant_of-self
invariant_of-self c = record { near = record { low = omega (arith, ints); high = omega (arith, ints) } }

pub returns-clause-sums : goal.returns-clause-sums
returns-clause-sums c = λ page rules node are is wide.
    let stretch : FitsSigned w32 c.args.topskip.stretch = search rules in
    let shrink : FitsSigned w32 c.args.topskip.shrink = search rules in
    AreSums-top page rules node c.args.width c.args.topskip c.args.self.now _ is wide are (record {
      room = omega (arith, ints);
      hanging = refl;
      right = refl;
      stretch = λ order. amount_in-held _ _ order _ _ stretch (c.add.ensures order);
      shrink = λ order. amount_in-held _ _ order _ _ shrink (c.add-2.ensures order);
      has_foot = refl;
      feet_size = refl;
    })
