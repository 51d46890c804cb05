use Rattle.std.proofs.Common.{◌∙◌, ◌-◌, ◌∷◌, [], ap, sym, subst, drop, length, length-append, length-drop, Ok, Err, arith}
use Rattle.std.proofs.lemmas.List.{drop_all}
use Rattle.lb_model_paper.specs.Pages.{page_end}
use Rattle.lb_page.specs.declared.plan.Planned.{Planned}
use Rattle.lb_page.specs.Ends.{IsEnd, IsEndAt}
use Rattle.lb_page.specs.Plans.{ArePlanned, IsPlanned, IsRoom, left_after}
use Rattle.lb_page.proofs.Planning.{ArePlanned-push, drop-more, ends-at, ends-fault, left_after-push}
use Rattle.lb_page.proofs.plan.pages_of.Goals as goal

pub returns-in-Err-clause-err : goal.returns-in-Err-clause-err
returns-in-Err-clause-err c =
    let inv = c.pages.invariant in
    let items = c.args.nodes.now.items in
    ends-fault c.args.rules.now items (length items - length c.pages.plan.items) c.pages.plan.items _ c.in-Err.stop
    (λ spent. sym inv.left ∙ drop_all c.pages.start items (omega (arith, inv.count, spent)))
    (subst (λ ns. IsEnd c.args.rules.now ns (Err c.in-Err.stop)) inv.left c.in-Err.ensures) inv.ends

pub pages-preserved : goal.pages-preserved
pages-preserved c =
    let inv = c.pages.invariant in
    let items = c.args.nodes.now.items in
    let rules = c.args.rules.now in
    let plan = c.pages.plan.items in
    let made : Planned = record { cut = c.in-Ok-Some.cut; filling = c.in_ok-filling.filling } in
    let some = subst (λ o. IsEnd rules (drop c.pages.start items) (Ok o)) c.in-Ok-Some.field-0-is c.in-Ok-Some.ensures in
    let end = subst (λ ns. IsEndAt rules ns c.in-Ok-Some.cut) inv.left some in
    let long = ap length inv.left in
    let room : IsRoom rules c.in-Ok-Some.cut.at c.in_ok-filling.filling = record {
      empty = c.in_ok-filling.ensures.empty rules;
      items = c.in_ok-filling.ensures.items;
      feet = c.in_ok-filling.ensures.feet;
      topped = c.in_ok-filling.ensures.topped;
      item_room = c.in_ok-filling.ensures.item_room;
      foot_room = c.in_ok-filling.ensures.foot_room;
    } in
    let is : IsPlanned rules (left_after plan items) made = record { within = end.within; page = end.page; room = room } in
    let less = end.within in
    let more = c.in_ok-add.ensures in
    record {
      within = omega (arith, less, long, length-drop c.pages.start items);
      left = drop-more items (left_after plan items) c.pages.start c.in-Ok-Some.cut.at inv.left ∙ sym (left_after-push items plan made) ∙ ap (λ ps. left_after ps items) (sym more);
      planned = subst (λ ps. ArePlanned rules items ps) (sym more) (ArePlanned-push rules items plan made inv.planned is);
      count = omega (arith, ap length more, length-append plan (made ∷ []), end.some, inv.count);
      ends = ends-at (page_end rules) items plan made _ _ more (omega (arith, less, long, length-drop c.pages.start items, inv.count)) end.end inv.ends;
    }
