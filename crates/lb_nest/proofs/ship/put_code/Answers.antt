use Rattle.std.proofs.Common.{rules, ◌≡◌, ◌∙◌, ◌++◌, ◌∷◌, [], ap, refl, sym}
use Rattle.std.specs.Prelude.{Ok}
use Rattle.lb_model.specs.declared.append.Append.TheVariants as append
use Rattle.lb_model_paper.specs.Marks.{page_code_or_fault}
use Rattle.lb_nest.specs.Pages.{code_put, notes_put}
use Rattle.lb_nest.specs.Views.{whole}
use Rattle.lb_nest.proofs.AppendLemmas.{entries-added}
use Rattle.lb_nest.proofs.LeadsLemmas.{leads-behind}
use Rattle.lb_nest.proofs.LoopLemmas.{refused}
use Rattle.lb_nest.proofs.ship.put_code.Goals as goal

pub returns-in_ok-push-in-Ok-clause-goes : goal.returns-in_ok-push-in-Ok-clause-goes
returns-in_ok-push-in-Ok-clause-goes g c =
    let a = c.args in
    let n = a.nest.now in
    let code = append.Page c.in-Ok.code in
    let items = a.boxed.now.items in
    let made : page_code_or_fault a.numbering.number a.boxed.now ≡ Ok c.in-Ok.code = search rules in
    let is : c.push.new.self ≡ n.entries ++ code ∷ [] = search rules in
    λ left.
    leads-behind c.put_notes.result
    (λ w p k o.
    ap (λ r. code_put a.numbering a.marks items r (whole w p k a.groups.now left n)) made
    ∙ ap (notes_put a.numbering a.marks items) (entries-added (code ∷ []) n w p k a.groups.now left)
    ∙ ap (λ l. notes_put a.numbering a.marks items (whole w p k a.groups.now left (record n { entries = l }))) (sym is)
    ∙ ap (λ s. notes_put a.numbering a.marks s (whole w p k a.groups.now left (record n { entries = c.push.new.self }))) (sym c.as_slice.ensures))
    (c.put_notes.ensures.goes left)

pub returns-in-Err-clause-goes : goal.returns-in-Err-clause-goes
returns-in-Err-clause-goes g c =
    let a = c.args in
    let items = a.boxed.now.items in
    λ left. refused (code_put a.numbering a.marks items) (page_code_or_fault a.numbering.number a.boxed.now) c.in-Err.stop c.stopped.result (λ kind w. refl) (search rules) c.stopped.ensures c.requires.keeps
