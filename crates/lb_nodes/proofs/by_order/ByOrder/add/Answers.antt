use Rattle.std.proofs.Common.{arith}
use Rattle.std.proofs.lemmas.Int.{ints}
use Rattle.lb_nodes.proofs.Amounts.{amount_in-more_finite}
use Rattle.lb_nodes.proofs.by_order.ByOrder.add.Goals as goal

pub returns-in-Finite : goal.returns-in-Finite
returns-in-Finite c = rw c.in-Finite.is (amount_in-more_finite c.args.self.now c.args.amount _ (omega (arith, ints)))
