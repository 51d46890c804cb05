use Rattle.std.proofs.Common.{◌<◌, length, IsErrOf, rules}
use Rattle.lb_model_paper.specs.Dvi.{fonts_after}
use Rattle.lb_dvi.specs.declared.writer.DviStop.TheVariants.{PageLimit}
use Rattle.lb_dvi.proofs.Drawings.{drawing-over}
use Rattle.lb_dvi.proofs.mark.push_marks.Goals as goal

pub returns-in_err-push_mark-clause-limit : goal.returns-in_err-push_mark-clause-limit
returns-in_err-push_mark-clause-limit c =
    let over : IsErrOf c.from_residual.result PageLimit → 60 < length (fonts_after c.loop-mark.fonts.items c.mark-item.result) = search rules in
    λ h. drawing-over _ _ _ _ c.loop-mark.mark-index _ _ _ c.mark-item.result c.mark-item.result c.loop-mark.invariant c.loop-mark-test.true c.mark-item.is (over h)
