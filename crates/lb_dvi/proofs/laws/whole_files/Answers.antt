use Rattle.lb_dvi.proofs.Files.{file-is}
use Rattle.lb_dvi.proofs.laws.whole_files.Goals as goal

pub returns : goal.returns
returns c = file-is
