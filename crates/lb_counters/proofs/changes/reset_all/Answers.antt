use Rattle.std.proofs.Common.{◌∙◌}
use Rattle.lb_counters.proofs.Composed.{changed-from, notes-from}
use Rattle.lb_counters.proofs.changes.reset_all.Goals as goal

pub loop-name-preserved : goal.loop-name-preserved
loop-name-preserved g c =
    let C = g.C.Cells in
    let s = c.in_ok-set_number.ensures.sets in
    let before = c.loop-name.invariant in
    let names = c.args.names.now in
    let i = c.loop-name.name-index in
    let name = c.name-item.result in
    record {
      narrows = λ p h. before.narrows p (s.narrows p h);
      changed =
          λ p h.
          changed-from names i name (C.meaning c.set_number.new.cells p) (C.meaning c.loop-name.cells p) c.loop-name-test.true c.name-item.is (s.changed p h)
          ∙ before.changed p (s.narrows p h);
      notes = notes-from names i name (C.notes c.set_number.new.cells) (C.notes c.loop-name.cells) c.loop-name-test.true c.name-item.is s.notes ∙ before.notes;
      saves = λ p h. s.saves p h ∙ before.saves p (s.narrows p h);
      made = s.made ∙ before.made;
      loan = s.loan ∙ before.loan;
    }
