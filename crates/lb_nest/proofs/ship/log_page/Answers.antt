use Rattle.std.proofs.Common.{rules, ◌≡◌, ◌∙◌, ◌++◌, ◌∷◌, [], ap, sym}
use Rattle.lb_model.specs.declared.append.Append.TheVariants as append
use Rattle.lb_model_journal.specs.LogLines.{log_line}
use Rattle.lb_model_journal.specs.declared.event.Event.TheVariants as event
use Rattle.lb_nest.specs.Pages.{page_behind}
use Rattle.lb_nest.specs.Views.{whole}
use Rattle.lb_nest.proofs.AppendLemmas.{entries-added}
use Rattle.lb_nest.proofs.LeadsLemmas.{leads-behind}
use Rattle.lb_nest.proofs.ship.log_page.Goals as goal

pub returns-clause-goes : goal.returns-clause-goes
returns-clause-goes g c =
    let a = c.args in
    let n = a.nest.now in
    let line = append.Log (log_line (event.Page a.numbering.number)) in
    let is : c.push.new.self ≡ n.entries ++ line ∷ [] = search rules in
    λ left.
    leads-behind c.leave_page.result
    (λ w p k o.
    ap (page_behind a.numbering.number a.marks) (entries-added (line ∷ []) n w p k a.groups.now left)
    ∙ ap (λ l. page_behind a.numbering.number a.marks (whole w p k a.groups.now left (record n { entries = l }))) (sym is))
    (c.leave_page.ensures.goes left)
