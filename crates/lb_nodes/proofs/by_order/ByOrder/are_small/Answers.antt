use Rattle.std.proofs.Common.{w64, FitsSigned, rules}
use Rattle.lb_nodes.proofs.Amounts.{IsSmall-held, IsSmall-to_hold}
use Rattle.lb_nodes.proofs.by_order.ByOrder.are_small.Goals as goal

pub returns-then-are_both_small : goal.returns-then-are_both_small
returns-then-are_both_small c =
    let amounts = c.args.self.now in
    let finite : FitsSigned w64 amounts.finite = search rules in
    let fil : FitsSigned w64 amounts.fil = search rules in
    let fill : FitsSigned w64 amounts.fill = search rules in
    let filll : FitsSigned w64 amounts.filll = search rules in
    let low = c.are_both_small.ensures.0 c.if-are_both_small.true in
    let high = c.are_both_small-then-are_both_small.ensures in (
      λ small. record {
        finite = IsSmall-held amounts.finite finite low.0;
        fil = IsSmall-held amounts.fil fil low.1;
        fill = IsSmall-held amounts.fill fill (high.0 small).0;
        filll = IsSmall-held amounts.filll filll (high.0 small).1;
      },
      λ small. high.1 (IsSmall-to_hold amounts.fill fill small.fill, IsSmall-to_hold amounts.filll filll small.filll),
    )
