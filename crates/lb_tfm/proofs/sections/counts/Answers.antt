use Rattle.lb_model_paper.specs.FontFiles.{counts_of}
use Rattle.lb_tfm.proofs.sections.counts.Goals as goal

pub returns : goal.returns
unfolding counts_of
returns c = cc
