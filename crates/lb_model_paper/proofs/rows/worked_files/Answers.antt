use Rattle.std.proofs.Common.{refl}
use Rattle.lb_model_paper.specs.Dvi.{progress, pages_bytes}
use Rattle.lb_model_paper.proofs.rows.worked_files.Goals as goal

pub returns-clause-no_page : goal.returns-clause-no_page
unfolding progress pages_bytes
returns-clause-no_page c = refl

pub returns-clause-hi : goal.returns-clause-hi
unfolding progress pages_bytes
returns-clause-hi c = refl
