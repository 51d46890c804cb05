use Rattle.std.proofs.Common.{refl}
use Rattle.std.specs.Prelude.{unsigned_abs}
use Rattle.lb_model_paper.specs.FontFiles.{counts_of, font_of, metrics_for, start_for}
use Rattle.lb_tfm.proofs.Drawn.{code-at}
use Rattle.lb_tfm.proofs.laws.fonts_of_files.Goals as goal

pub returns-clause-metrics : goal.returns-clause-metrics
unfolding font_of
returns-clause-metrics c = λ bytes size code low. code-at (metrics_for bytes (counts_of bytes) (unsigned_abs size)) code low

pub returns-clause-start : goal.returns-clause-start
unfolding font_of
returns-clause-start c = λ bytes size code low. code-at (start_for bytes (counts_of bytes)) code low

pub returns-clause-edge_start : goal.returns-clause-edge_start
unfolding font_of
returns-clause-edge_start c = λ bytes size. refl

pub returns-clause-edge_code : goal.returns-clause-edge_code
unfolding font_of
returns-clause-edge_code c = λ bytes size. refl
