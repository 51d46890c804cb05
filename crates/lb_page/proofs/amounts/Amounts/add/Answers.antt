use Rattle.std.proofs.Common.{arith}
use Rattle.std.proofs.lemmas.Int.{ints}
use Rattle.lb_page.proofs.OrderAmounts.{amount_in-more_fil, amount_in-more_filll, amount_in-more_fill, amount_in-more_finite}
use Rattle.lb_page.proofs.amounts.Amounts.add.Goals as goal

pub returns-in-Finite : goal.returns-in-Finite
returns-in-Finite c = rw c.in-Finite.is (amount_in-more_finite c.args.self.now c.args.amount _ (omega (arith, ints)))

pub returns-in-Fil : goal.returns-in-Fil
returns-in-Fil c = rw c.in-Fil.is (amount_in-more_fil c.args.self.now c.args.amount _ (omega (arith, ints)))

pub returns-in-Fill : goal.returns-in-Fill
returns-in-Fill c = rw c.in-Fill.is (amount_in-more_fill c.args.self.now c.args.amount _ (omega (arith, ints)))

pub returns-in-Filll : goal.returns-in-Filll
returns-in-Filll c = rw c.in-Filll.is (amount_in-more_filll c.args.self.now c.args.amount _ (omega (arith, ints)))
