use Rattle.std.proofs.Common.{refl}
use Rattle.lb_model.specs.Lines.{cut_at_feeds, without_returns}
use Rattle.lb_model_engine.specs.Kernel.{kernel_lines}
use Rattle.lb_engine.proofs.SegmentLemmas.{cut-ok}
use Rattle.lb_engine.proofs.kernel.kernel_bytes.Goals as goal

pub returns : goal.returns
unfolding kernel_lines cut_at_feeds without_returns
returns c = cut-ok c.from_slice.result _ refl c.from_slice.ensures
