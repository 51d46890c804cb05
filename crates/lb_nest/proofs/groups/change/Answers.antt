use Rattle.lb_nest.proofs.GroupLemmas.{changed-passes}
use Rattle.lb_nest.proofs.LeadsLemmas.{same-left}
use Rattle.lb_nest.proofs.groups.change.Goals as goal

pub returns : goal.returns
returns g c =
    record {
      goes =
          λ left.
          let e = c.in_ok-assign.ensures in
          record {
            narrows = e.narrows;
            passes = changed-passes g.C.Cells c.args.reach c.args.cell.now c.args.value left c.args.nest.now e.ok e.kinds e.notes;
            keeps = λ p h. let k = c.requires.keeps p (e.narrows p h) in record { standing = e.standing p h k.standing; fonts = k.fonts };
            left = same-left left;
            made = e.made;
            loan = e.loan;
          };
    }
