use Rattle.lb_tfm_make.proofs.EachWidth.{width-any, widths-apart}
use Rattle.lb_tfm_make.proofs.laws.distinct_widths.Goals as goal

pub returns-clause-among : goal.returns-clause-among
returns-clause-among c = width-any

pub returns-clause-apart : goal.returns-clause-apart
returns-clause-apart c = widths-apart
