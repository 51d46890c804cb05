use Rattle.lb_break.proofs.Rising.{breaks-rise}
use Rattle.lb_break.proofs.laws.breaks_that_rise.Goals as goal

pub returns : goal.returns
returns c = breaks-rise
