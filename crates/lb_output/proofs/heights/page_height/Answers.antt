use Rattle.std.proofs.Common.{arith}
use Rattle.std.proofs.lemmas.Int.{ints}
use Rattle.lb_output.proofs.heights.page_height.Goals as goal

pub returns : goal.returns
returns c = omega (arith, ints, c.below_body.ensures.sum)
