use Rattle.lb_tfm_make.proofs.MadeFiles.{is-made}
use Rattle.lb_tfm_make.proofs.laws.made_files.Goals as goal

pub returns : goal.returns
returns c = is-made
