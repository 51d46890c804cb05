use Rattle.std.proofs.Common.{◌*◌, arith}
use Rattle.lb_model_paper.specs.FontFiles.{half_at}
use Rattle.lb_tfm.proofs.Numbers.{rest-at, rest-first}
use Rattle.lb_tfm.proofs.bytes.half.Goals as goal

pub returns : goal.returns
unfolding half_at
returns c = omega (arith, c.read_u16.ensures, rest-first c.args.bytes.now (2 * c.args.k), rest-at c.args.bytes.now (2 * c.args.k) 1)
