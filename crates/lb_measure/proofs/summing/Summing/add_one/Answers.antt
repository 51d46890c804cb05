use Rattle.std.proofs.Common.{arith}
use Rattle.lb_measure.proofs.Sums.{AreNear-more}
use Rattle.lb_measure.proofs.summing.Summing.add_one.Goals as goal

pub added-self-requires-clause-a : goal.added-self-requires-clause-a
added-self-requires-clause-a c = AreNear-more c.args.self.now.count 1048576 c.args.self.now.sums (omega (arith, c.requires.few)) c.requires.near
