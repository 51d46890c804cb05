use Rattle.lb_text.proofs.Glues.{is_small_glue-true, IsSmallGlue-tested}
use Rattle.lb_text.proofs.laws.small_glue.Goals as goal

pub returns : goal.returns
returns c = λ glue. (IsSmallGlue-tested glue, is_small_glue-true glue)
