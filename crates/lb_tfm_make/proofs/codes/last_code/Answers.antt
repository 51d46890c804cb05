use Rattle.lb_tfm_make.proofs.LastCodes.{last-at}
use Rattle.lb_tfm_make.proofs.codes.last_code.Goals as goal

pub returns : goal.returns
returns c = last-at c.args.rows.now _ c.requires
