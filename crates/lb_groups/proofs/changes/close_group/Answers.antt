use Rattle.lb_groups.proofs.StackedLemmas.{standing-closed}
use Rattle.lb_groups.proofs.changes.close_group.Goals as goal

pub returns-in-Some-clause-standing : goal.returns-in-Some-clause-standing
returns-in-Some-clause-standing g c =
    λ p h.
    let before = c.put_all_back.ensures.narrows p h in
    standing-closed c.in-Some.group c.close.new.self c.args.groups.now (g.C.Cells.meaning c.args.cells.now p) (g.C.Cells.meaning c.put_all_back.new.cells p)
    c.in-Some.ensures (c.put_all_back.ensures.undone p h) (c.requires.standing p before)
