use Rattle.std.proofs.Common.{refl, pos}
use Rattle.lb_nodes.proofs.Shifting.{is_zero-not, shift_behind-none, shift_behind-overfull}
use Rattle.lb_nodes.proofs.laws.glue_that_does_not_reach.Goals as goal

pub returns-clause-nothing : goal.returns-clause-nothing
returns-clause-nothing c = λ set part. shift_behind-none set part (pos 0) refl

pub returns-clause-overfull : goal.returns-clause-overfull
returns-clause-overfull c = λ set part whole some over. shift_behind-overfull set part whole (is_zero-not whole some) over
