use Rattle.std.proofs.Common.{rules}
use Rattle.lb_model_paper.specs.FontFiles.{byte_at}
use Rattle.lb_tfm.proofs.bytes.byte.Goals as goal

pub returns : goal.returns
unfolding byte_at
returns c = search rules
