use Rattle.std.proofs.Common.{◌∙◌, refl, subst, sym}
use Rattle.lb_base.specs.declared.node.Boxed.{out-Boxed}
use Rattle.lb_model_nest.specs.Pages.{all_added}
use Rattle.lb_model_nest.specs.Paragraphs.{behind_glue}
use Rattle.lb_model_paper.specs.Lines.{interline}
use Rattle.lb_nest.specs.Leads.{Goes}
use Rattle.lb_nest.specs.Pages.{box_with}
use Rattle.lb_nest.specs.Views.{whole}
use Rattle.lb_nest.proofs.AddLemmas.{glue-refused, line-added}
use Rattle.lb_nest.proofs.LeadsLemmas.{leads-behind}
use Rattle.lb_nest.proofs.LoopLemmas.{refused}
use Rattle.lb_nest.proofs.adding.add_by.Goals as goal

pub returns-in-Ok : goal.returns-in-Ok
returns-in-Ok g c =
    let a = c.args in
    let n = a.nest.now in
    record {
      goes =
          leads-behind c.add_all.result
          (λ w p k o.
          line-added a.rules.now a.boxed c.in-Ok.nodes (whole w p k a.groups.now a.left.now n) c.in-Ok.ensures.nodes
          ∙ (λ i. all_added c.in-Ok.nodes (whole w p k a.groups.now a.left.now (record n { level = sym c.in-Ok.ensures.depth i }))))
          c.add_all.ensures.goes;
    }

pub returns-in-Err : goal.returns-in-Err
returns-in-Err g c =
    let a = c.args in
    let n = a.nest.now in
    let glue = interline a.rules.now n.level.prev_depth (out-Boxed a.boxed).height in
    record {
      goes =
          subst (λ level. Goes g.C.Cells (box_with a.rules.now a.boxed) c.stopped.result a.cells.now a.groups.now a.left.now (record n { level = level }) a.cells.now a.groups.now a.left.now n) (sym c.in-Err.ensures.same)
          (leads-behind c.stopped.result (λ w p k o. refl)
          (refused (λ r w. behind_glue r a.boxed w) glue c.in-Err.stop c.stopped.result (λ kind w. refl) (glue-refused a.rules.now a.boxed n.level.prev_depth c.in-Err.stop c.in-Err.ensures.stop) c.stopped.ensures c.requires.keeps));
    }
