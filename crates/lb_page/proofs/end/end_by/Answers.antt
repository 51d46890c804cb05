use Rattle.std.proofs.Common.{◌∙◌, sym, subst, refl, drop}
use Rattle.lb_page.specs.Searches.{IsJudgedAs}
use Rattle.lb_page.proofs.Ending.{going-none, IsEnd-ended, large-end, page_end-none, right-at}
use Rattle.lb_page.proofs.end.end_by.Goals as goal

pub returns-in-TooLarge : goal.returns-in-TooLarge
returns-in-TooLarge c =
    let nodes = drop c.args.start c.args.nodes.now.items in
    let s = c.args.search.now in
    large-end nodes s (subst (λ st. IsJudgedAs st nodes s) c.in-TooLarge.is (right-at nodes s c.requires.right))

pub returns-in-Ended : goal.returns-in-Ended
returns-in-Ended c =
    let nodes = drop c.args.start c.args.nodes.now.items in
    let s = c.args.search.now in
    IsEnd-ended nodes s s.best refl (subst (λ st. IsJudgedAs st nodes s) c.in-Ended.is (right-at nodes s c.requires.right))

pub returns-then-not-is_small_in_all : goal.returns-then-not-is_small_in_all
returns-then-not-is_small_in_all c =
    let nodes = drop c.args.start c.args.nodes.now.items in
    let s = c.args.search.now in
    let going = subst (λ st. IsJudgedAs st nodes s) c.in-Going.is (right-at nodes s c.requires.right) in
    page_end-none s.rules nodes _ (going-none nodes s going (c.requires.done c.in-Going.is)) (sym c.is_small_in_all.ensures ∙ c.if-not-is_small_in_all.true)

pub returns-else-not-is_small_in_all : goal.returns-else-not-is_small_in_all
returns-else-not-is_small_in_all c =
    let nodes = drop c.args.start c.args.nodes.now.items in
    let s = c.args.search.now in
    let going = subst (λ st. IsJudgedAs st nodes s) c.in-Going.is (right-at nodes s c.requires.right) in
    page_end-none s.rules nodes _ (going-none nodes s going (c.requires.done c.in-Going.is)) (sym c.is_small_in_all.ensures ∙ c.if-not-is_small_in_all.false)
