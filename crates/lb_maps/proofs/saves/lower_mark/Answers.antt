use Rattle.std.proofs.Common.{◌≡◌, min, sym, arith}
use Rattle.lb_maps.specs.Marked.{mark_at}
use Rattle.lb_maps.proofs.Marks.{put-same}
use Rattle.lb_maps.proofs.saves.lower_mark.Goals as goal

pub returns-else-saves-mark_of : goal.returns-else-saves-mark_of
returns-else-saves-mark_of c =
    let mark = mark_at c.args.marks.now in
    let low : min (mark c.args.cell.now) c.args.saves ≡ mark c.args.cell.now = omega (arith, c.if-saves-mark_of.false, c.mark_of.ensures) in
    sym (put-same c.args.cell.now (min (mark c.args.cell.now) c.args.saves) mark low)
