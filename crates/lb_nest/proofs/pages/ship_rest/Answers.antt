use Rattle.std.proofs.Common.{rules, ◌≡◌, ◌∙◌, [], ap, refl, subst, sym}
use Rattle.std.specs.Prelude.{Ok}
use Rattle.lb_model_nest.specs.Pages.{all_shipped, parts_shipped}
use Rattle.lb_model_paper.specs.Pages.{all_parts}
use Rattle.lb_nest.specs.Leads.{Goes}
use Rattle.lb_nest.specs.Pages.{rest_shipped}
use Rattle.lb_nest.specs.Views.{whole}
use Rattle.lb_nest.proofs.LeadsLemmas.{leads-behind}
use Rattle.lb_nest.proofs.LoopLemmas.{leads-from, refused}
use Rattle.lb_nest.proofs.pages.ship_rest.Goals as goal

pub returns-in-Ok : goal.returns-in-Ok
returns-in-Ok g c =
    let a = c.args in
    let n = a.nest.now in
    let result = c.ship_parts.result in
    let made : all_parts a.rules.now n.page ≡ Ok c.in-Ok.parts = c.in-Ok.ensures.parts in
    let none : c.flush.new.page ≡ [] = search rules in
    record {
      goes =
          leads-behind {mid = parts_shipped c.in-Ok.parts} result
          (λ w p k o.
          ap (λ r. all_shipped r (whole w p k a.groups.now a.left.now n)) made
          ∙ (λ i. parts_shipped c.in-Ok.parts (whole w p k a.groups.now a.left.now (record n { page = sym none i }))))
          (leads-from parts_shipped result c.ship_parts.ensures.goes (search rules));
    }

pub returns-in-Err : goal.returns-in-Err
returns-in-Err g c =
    let a = c.args in
    let n = a.nest.now in
    let same : c.flush.new.page ≡ n.page = search rules in
    record {
      goes =
          subst (λ page. Goes g.C.Cells (rest_shipped a.rules.now) c.stopped.result a.cells.now a.groups.now a.left.now (record n { page = page }) a.cells.now a.groups.now a.left.now n) (sym same)
          (leads-behind c.stopped.result (λ w p k o. refl) (refused (λ r w. all_shipped r w) (all_parts a.rules.now n.page) c.in-Err.stop c.stopped.result (λ kind w. refl) c.in-Err.ensures.parts c.stopped.ensures c.requires.keeps));
    }
