use Rattle.std.proofs.Common.{◌*◌, arith}
use Rattle.lb_model_paper.specs.FontFiles.{byte_at, word_at}
use Rattle.lb_tfm.proofs.Numbers.{rest-at}
use Rattle.lb_tfm.proofs.bytes.word.Goals as goal

pub returns : goal.returns
unfolding byte_at word_at
returns c =
    omega (arith, c.read_u32.ensures, rest-at c.args.bytes.now (4 * c.args.word) 0, rest-at c.args.bytes.now (4 * c.args.word) 1, rest-at c.args.bytes.now (4 * c.args.word) 2, rest-at c.args.bytes.now (4 * c.args.word) 3)
