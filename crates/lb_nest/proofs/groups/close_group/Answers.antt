use Rattle.std.proofs.Common.{◌∙◌, ap, refl, subst, sym}
use Rattle.lb_nest.specs.Groups.{behind_group}
use Rattle.lb_nest.specs.Leads.{Passes}
use Rattle.lb_nest.specs.Views.{anywhere}
use Rattle.lb_nest.specs.declared.groups.Closed.TheVariants.{Later}
use Rattle.lb_nest.specs.declared.nest.Nest.{Nest}
use Rattle.lb_model_nest.specs.Groups.{group_closed}
use Rattle.lb_nest.proofs.GroupLemmas.{closed-passes, extra-passes}
use Rattle.lb_nest.proofs.LeadsLemmas.{passes-to, same-left}
use Rattle.lb_nest.proofs.WorksLemmas.{keeps-shelf}
use Rattle.lb_nest.proofs.groups.close_group.Goals as goal

pub returns-then-not-is_innermost : goal.returns-then-not-is_innermost
returns-then-not-is_innermost g c =
    record {
      leads =
          λ left.
          let a = c.args in
          record {
            narrows = λ p h. h;
            passes = extra-passes g.C.Cells a.kind a.cells.now a.groups.now left a.nest.now (sym c.is_innermost.ensures ∙ c.if-not-is_innermost.true);
            keeps = c.requires.keeps;
            left = same-left left;
            made = refl;
            loan = refl;
          };
    }

pub returns : goal.returns
returns g c =
    record {
      leads =
          λ left.
          let C = g.C.Cells in
          let a = c.args in
          let e = c.close_group-kind.ensures in
          let t = c.take_later-later.ensures in
          record {
            narrows = e.narrows;
            passes =
                subst (λ (n : Nest). Passes C anywhere (group_closed a.kind) (behind_group (Later c.take_later-later.result)) c.close_group-kind.new.cells c.close_group-kind.new.groups left n a.cells.now a.groups.now left a.nest.now) (sym t.nest)
                (passes-to behind_group (ap Later (sym t.toks))
                (closed-passes C a.kind left a.nest.now (sym c.is_innermost.ensures ∙ c.if-not-is_innermost.false) e.closed e.kinds e.notes));
            keeps = λ p h. let k = c.requires.keeps p (e.narrows p h) in keeps-shelf {old = a.nest.now} (ap (λ (n : Nest). n.shelf) t.nest) (record { standing = e.standing p h; fonts = k.fonts });
            left = same-left left;
            made = e.made;
            loan = e.loan;
          };
    }
