use Rattle.std.proofs.Common.{◌≡◌, ◌∙◌, ◌+◌, ◌<◌, length, ap, sym, subst, arith}
use Rattle.lb_values.specs.Kept.{saved}
use Rattle.lb_tests_text.proofs.Undoing.{one-stands}
use Rattle.lb_tests_text.proofs.changes.show_twice.Goals as goal

pub put_back-requires-2 : goal.put_back-requires-2
put_back-requires-2 g c = record {
  standing = λ p h.
      let undoing = c.in_ok-tell_both-2.ensures.narrows p h in
      let told = c.put_back.ensures.narrows p undoing in
      let changed = c.in_ok-tell_both.ensures.narrows p told in
      let second = c.in_ok-make_changes.ensures.narrows p changed in
      let first = c.save-2.ensures.narrows p second in
      let two : length (g.C.Cells.meaning c.tell_both.new.cells p).saves ≡ length (g.C.Cells.meaning c.args.cells.now p).saves + 2 =
      ap (λ k. length k.saves) (c.in_ok-tell_both.ensures.stays p told)
      ∙ c.in_ok-make_changes.ensures.saves p changed
      ∙ ap (λ k. length k.saves) (c.in_ok-save-2.ensures.saved p second)
      ∙ ap (λ k. length (saved c.in_ok-second.second k).saves) (c.in_ok-save.ensures.saved p first)
      ∙ omega arith in
      subst (λ k. 0 < length k.saves) (sym (c.in_ok-tell_both-2.ensures.stays p h ∙ c.put_back.ensures.undone p undoing)) (one-stands (g.C.Cells.meaning c.tell_both.new.cells p).saves (length (g.C.Cells.meaning c.args.cells.now p).saves) two);
}
