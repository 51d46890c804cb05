use Rattle.std.proofs.Common.{arith}
use Rattle.std.proofs.lemmas.List.Sums.{sum_by-take-le, sum_by_more_le}
use Rattle.lb_files.proofs.memory.pool.start_of.Goals as goal

pub total-requires : goal.total-requires
total-requires c = omega (arith, sum_by-take-le (λ x. x) c.args.lengths.now c.args.at, c.requires.small)

pub returns-clause-end : goal.returns-clause-end
returns-clause-end c = λ d. omega (arith, sum_by_more_le (λ x. x) c.args.lengths.now c.args.at d c.requires.within, c.total.ensures)
