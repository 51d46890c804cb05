use Rattle.std.proofs.Common.{◌+◌, sym, subst}
use Rattle.lb_measure.specs.Amounts.{added, AreNear}
use Rattle.lb_measure.proofs.Sums.{AreNear-added, held_sum, sums-same}
use Rattle.lb_measure.proofs.amounts.added.Goals as goal

pub returns : goal.returns
returns c =
    let value = sums-same _ (added c.args.a.now c.args.b.now) (held_sum _ c.args.a.now.width c.args.b.now.width c.requires.a.width c.requires.b.width c.sum.ensures) (held_sum _ c.args.a.now.finite c.args.b.now.finite c.requires.a.finite c.requires.b.finite c.sum-2.ensures) (held_sum _ c.args.a.now.fil c.args.b.now.fil c.requires.a.fil c.requires.b.fil c.sum-3.ensures) (held_sum _ c.args.a.now.fill c.args.b.now.fill c.requires.a.fill c.requires.b.fill c.sum-4.ensures) (held_sum _ c.args.a.now.filll c.args.b.now.filll c.requires.a.filll c.requires.b.filll c.sum-5.ensures) (held_sum _ c.args.a.now.shrink c.args.b.now.shrink c.requires.a.shrink c.requires.b.shrink c.sum-6.ensures) in record {
      value = value;
      near = λ m n a b. subst (AreNear (m + n)) (sym value) (AreNear-added m n c.args.a.now c.args.b.now a b);
    }
