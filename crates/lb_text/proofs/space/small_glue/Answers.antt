use Rattle.std.proofs.Common.{refl, rules}
use Rattle.lb_model_paper.specs.Dvi.{IsSmall}
use Rattle.lb_text.proofs.Casts.{kept_number}
use Rattle.lb_text.proofs.space.small_glue.Goals as goal

pub returns-then-is_small-3 : goal.returns-then-is_small-3
returns-then-is_small-3 c =
    let w : IsSmall c.args.width = search rules in
    let t : IsSmall c.args.stretch = search rules in
    let s : IsSmall c.args.shrink = search rules in
    rw (kept_number c.args.width c.ranges.width.sfits w, kept_number c.args.stretch c.ranges.stretch.sfits t, kept_number c.args.shrink c.ranges.shrink.sfits s)
    (refl, record { width = w; stretch = t; shrink = s })
