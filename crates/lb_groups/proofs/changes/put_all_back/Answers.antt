use Rattle.std.proofs.Common.{◌<◌, length, sym, subst, arith}
use Rattle.lb_groups.proofs.StackedLemmas.{more_saves}
use Rattle.lb_groups.proofs.changes.put_all_back.Goals as goal

pub put_back-requires : goal.put_back-requires
put_back-requires g c =
    let C = g.C.Cells in
    record {
      standing = λ p h.
          subst (λ k. 0 < length k.saves) (sym (c.loop-i.invariant.undone p h))
          (more_saves c.loop-i._i c.args.count (C.meaning c.args.cells.now p) (omega arith) (c.requires.standing p (c.loop-i.invariant.narrows p h)));
    }
