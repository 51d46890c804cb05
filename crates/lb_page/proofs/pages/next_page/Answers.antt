use Rattle.std.proofs.Common.{◌∙◌, ap, sym, subst, take, drop, None, Some, Ok, Err}
use Rattle.lb_model_paper.specs.Pages.{page_of}
use Rattle.lb_page.specs.Ends.{IsEnd, IsEndAt}
use Rattle.lb_page.proofs.Given.{answers-err, left-none, left-some, part-none, part-some}
use Rattle.lb_page.proofs.pages.next_page.Goals as goal

pub returns-in-Err-clause-part : goal.returns-in-Err-clause-part
returns-in-Err-clause-part c =
    let rules = c.advance.ensures.rules ∙ c.resumed-search.ensures.rules in
    let end = subst (λ ns. IsEnd c.advance.new.search.rules ns (Err c.in-Err.stop)) c.page.view_is c.in-Err.ensures in
    answers-err c.args.rules.now c.args.page.now c.in-Err.stop (subst (λ r. IsEnd r c.args.page.now (Err c.in-Err.stop)) rules end)

pub returns-in-Ok-None-clause-part : goal.returns-in-Ok-None-clause-part
returns-in-Ok-None-clause-part c =
    let rules = c.advance.ensures.rules ∙ c.resumed-search.ensures.rules in
    let none = subst (λ o. IsEnd c.advance.new.search.rules c.page.inside.nodes.items (Ok o)) c.in-Ok-None.field-0-is c.in-Ok-None.ensures in
    let end = subst (λ ns. IsEnd c.advance.new.search.rules ns (Ok None)) c.page.view_is none in
    part-none c.args.rules.now c.args.page.now (subst (λ r. IsEnd r c.args.page.now (Ok None)) rules end)

pub returns-in-Ok-None-clause-left : goal.returns-in-Ok-None-clause-left
returns-in-Ok-None-clause-left c =
    let rules = c.advance.ensures.rules ∙ c.resumed-search.ensures.rules in
    let none = subst (λ o. IsEnd c.advance.new.search.rules c.page.inside.nodes.items (Ok o)) c.in-Ok-None.field-0-is c.in-Ok-None.ensures in
    let end = subst (λ ns. IsEnd c.advance.new.search.rules ns (Ok None)) c.page.view_is none in
    c.page.view_is ∙ left-none c.args.rules.now c.args.page.now (subst (λ r. IsEnd r c.args.page.now (Ok None)) rules end)

pub returns-clause-part : goal.returns-clause-part
returns-clause-part c =
    let rules = c.advance.ensures.rules ∙ c.resumed-search.ensures.rules in
    let some = subst (λ o. IsEnd c.advance.new.search.rules c.page.inside.nodes.items (Ok o)) c.in-Ok-Some.field-0-is c.in-Ok-Some.ensures in
    let end = subst (λ ns. IsEndAt c.advance.new.search.rules ns c.in-Ok-Some.cut) c.page.view_is some in
    let at = subst (λ r. IsEndAt r c.args.page.now c.in-Ok-Some.cut) rules end in
    part-some c.args.rules.now c.args.page.now c.in-Ok-Some.cut.at at.end
    ∙ ap (λ ns. Ok (Some (page_of c.args.rules.now (take c.in-Ok-Some.cut.at ns)))) (sym c.page.view_is) ∙ ap (λ p. Ok (Some p)) (sym c.in_ok-part.ensures.part)

pub returns-clause-left : goal.returns-clause-left
returns-clause-left c =
    let rules = c.advance.ensures.rules ∙ c.resumed-search.ensures.rules in
    let some = subst (λ o. IsEnd c.advance.new.search.rules c.page.inside.nodes.items (Ok o)) c.in-Ok-Some.field-0-is c.in-Ok-Some.ensures in
    let end = subst (λ ns. IsEndAt c.advance.new.search.rules ns c.in-Ok-Some.cut) c.page.view_is some in
    let at = subst (λ r. IsEndAt r c.args.page.now c.in-Ok-Some.cut) rules end in
    c.in_ok-part.ensures.nodes ∙ ap (drop c.in-Ok-Some.cut.at) c.page.view_is ∙ left-some c.args.rules.now c.args.page.now c.in-Ok-Some.cut.at at.end
