use Rattle.std.proofs.Common.{arith}
use Rattle.std.proofs.lemmas.Bool.Decides.{nat_tests}
use Rattle.lb_model_paper.specs.FontRules.{wrong_count}
use Rattle.lb_tfm.proofs.rules.wrong_count.Goals as goal

pub returns-then-c-lt2 : goal.returns-then-c-lt2
unfolding wrong_count
returns-then-c-lt2 c = grind (arith, nat_tests)

pub returns-then-c-gt255 : goal.returns-then-c-gt255
unfolding wrong_count
returns-then-c-gt255 c = grind (arith, nat_tests)

pub returns-then-c-eq0-2 : goal.returns-then-c-eq0-2
unfolding wrong_count
returns-then-c-eq0-2 c = grind (arith, nat_tests)

pub returns-then-c-eq0-4 : goal.returns-then-c-eq0-4
unfolding wrong_count
returns-then-c-eq0-4 c = grind (arith, nat_tests)

pub returns-then-from-end : goal.returns-then-from-end
unfolding wrong_count
returns-then-from-end c = grind (arith, nat_tests)

pub returns-else-from-end : goal.returns-else-from-end
unfolding wrong_count
returns-else-from-end c = grind (arith, nat_tests)
