use Rattle.std.proofs.Common.{◌≡◌, ◌∙◌, ap, refl, sym}
use Rattle.std.specs.Prelude.{Ok}
use Rattle.lb_model_nest.specs.Wholes.{Executed, Whole}
use Rattle.lb_model_paper.specs.PageBoxes.{page_box_of}
use Rattle.lb_nest.specs.Pages.{box_put, last_marks}
use Rattle.lb_nest.proofs.LeadsLemmas.{leads-as}
use Rattle.lb_nest.proofs.LoopLemmas.{refused}
use Rattle.lb_nest.proofs.ship.put_page.Goals as goal

pub returns-in-Ok-clause-goes : goal.returns-in-Ok-clause-goes
returns-in-Ok-clause-goes g c =
    let a = c.args in
    let made : page_box_of a.part a.look ≡ Ok c.in-Ok.boxed = c.in-Ok.ensures in
    let marks : last_marks a.part.items ≡ c.in_ok-marks.marks = ap last_marks (sym c.as_slice.ensures) ∙ sym c.in_ok-marks.ensures in
    λ left. leads-as (λ (r : Whole → Executed). r) c.put_code.result (λ i w. box_put a.numbering (marks i) (made i) w) (c.put_code.ensures.goes left)

pub returns-in-Err-clause-goes : goal.returns-in-Err-clause-goes
returns-in-Err-clause-goes g c =
    let a = c.args in
    λ left. refused (box_put a.numbering (last_marks a.part.items)) (page_box_of a.part a.look) c.in-Err.stop c.stopped.result (λ kind w. refl) c.in-Err.ensures c.stopped.ensures c.requires.keeps
