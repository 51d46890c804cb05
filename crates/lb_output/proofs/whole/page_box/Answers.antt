use Rattle.std.proofs.Common.{◌≡◌, ◌∙◌, ap, sym, subst, Bool, Option, Result, ℤ, to_z, of_z, w32, w64, FitsSigned, arith, rules, if◌then◌else◌}
use Rattle.std.proofs.lemmas.Int.{ints, to_z-of_z}
use Rattle.lb_base.specs.Answers.{Answers}
use Rattle.lb_base.specs.declared.fault.Kind.{Kind}
use Rattle.lb_base.specs.declared.glue.Target.TheVariants.{To}
use Rattle.lb_base.specs.declared.node.Axis.TheVariants.{Vertical}
use Rattle.lb_base.specs.declared.node.Boxed.{Boxed}
use Rattle.lb_model_paper.specs.Boxes.{packs}
use Rattle.lb_model_paper.specs.Nodes.{shown}
use Rattle.lb_model_paper.specs.PageBoxes.{is_odd, margin_of, page_items, running_box}
use Rattle.lb_output.specs.Layouts.{items_by}
use Rattle.lb_output.proofs.Wholes.{fails, items-same, large, layout-of, passes, running-is, same-heights, same-small}
use Rattle.lb_output.proofs.whole.page_box.Goals as goal

pub returns-in_default : goal.returns-in_default
returns-in_default c =
    let fits : FitsSigned w64 c.args.part.goal = search rules in
    let g : to_z w64 (of_z w64 c.args.part.goal) ≡ c.args.part.goal = to_z-of_z w64 c.args.part.goal fits in
    let slice : c.as_slice.result.now ≡ c.args.part.feet = search rules in
    large c.args.part c.args.look (same-small c.args.part c.args.look _ _ _ c.in_default.ensures.small g slice)

pub page_items-requires-clause-running : goal.page_items-requires-clause-running
page_items-requires-clause-running c = c.in-Ok.ensures.small c.running_box-running.ensures.small

pub returns-in_ok-items-in-Ok : goal.returns-in_ok-items-in-Ok
returns-in_ok-items-in-Ok c =
    let look = c.args.look in
    let part = c.args.part in
    let odd = c.is_odd-odd.result in
    let fits : FitsSigned w64 c.args.part.goal = search rules in
    let g : to_z w64 (of_z w64 c.args.part.goal) ≡ c.args.part.goal = to_z-of_z w64 c.args.part.goal fits in
    let slice : c.as_slice.result.now ≡ c.args.part.feet = search rules in
    let is_small = same-small part look _ _ _ c.in-Some.ensures.small g slice in
    let heights = same-heights part look c.in-Some.heights _ _ c.in-Some.ensures.heights g slice in
    let number : to_z w32 (of_z w32 look.number) ≡ look.number = omega (arith, ints) in
    let odd_is : odd ≡ is_odd look.number = c.is_odd-odd.ensures ∙ ap (λ (z : ℤ). is_odd z) number in
    let goal_held : to_z w32 (of_z w32 c.in-Some.heights.goal) ≡ c.in-Some.heights.goal = omega (arith, ints) in
    let width : to_z w32 (of_z w32 look.lengths.textwidth) ≡ look.lengths.textwidth = omega (arith, ints) in
    let run_is = running-is look odd c.mark_of-mark.result (to_z w32 (of_z w32 look.lengths.textwidth)) odd_is c.mark_of-mark.ensures width in
    let run : Result (Option Boxed) Kind → Type 0 = λ m. Answers m c.running_box-running.result in
    let running : Answers (running_box look) c.running_box-running.result = subst run run_is c.running_box-running.ensures.answer in
    let pack : ℤ → Type 0 = λ z. Answers (packs Vertical (shown part.items) (To z)) c.vpack-body.result in
    let body : Answers (packs Vertical (shown part.items) (To part.goal)) c.vpack-body.result = subst pack (goal_held ∙ heights.body) c.vpack-body.ensures in
    let boxes = c.in-Ok.ensures.boxes (packs Vertical (shown part.items) (To part.goal)) (running_box look) body running in
    let m = c.margin_of.result in
    let margin : m ≡ margin_of look.number look.lengths = c.margin_of.ensures ∙ ap (λ (b : Bool). if b then look.lengths.oddsidemargin else look.lengths.evensidemargin) odd_is in
    let margin_fits : FitsSigned w32 m = search rules in
    let margin_held : to_z w32 (of_z w32 m) ≡ m = to_z-of_z w32 m margin_fits in
    let made : c.in_ok-items-in-Ok.items ≡ items_by (layout-of look (to_z w32 (of_z w32 m))) c.in-Some.heights.used part.feet c.in-Ok.body c.in-Ok.running = c.in_ok-items-in-Ok.ensures in
    let items : c.in_ok-items-in-Ok.items ≡ page_items look part.goal part.feet c.in-Ok.body c.in-Ok.running = made ∙ items-same look part.goal part.feet c.in-Ok.body c.in-Ok.running (to_z w32 (of_z w32 m)) c.in-Some.heights.used (margin_held ∙ margin) heights.used in
    let meant : Result Boxed Kind → Type 0 = λ r. Answers r c.nested.result in
    subst meant (sym (passes part look m c.in-Some.heights c.in_ok-items-in-Ok.items c.in-Ok.body c.in-Ok.running is_small boxes items heights.page)) c.nested.ensures

pub returns-in-Err : goal.returns-in-Err
returns-in-Err c =
    let look = c.args.look in
    let part = c.args.part in
    let odd = c.is_odd-odd.result in
    let fits : FitsSigned w64 c.args.part.goal = search rules in
    let g : to_z w64 (of_z w64 c.args.part.goal) ≡ c.args.part.goal = to_z-of_z w64 c.args.part.goal fits in
    let slice : c.as_slice.result.now ≡ c.args.part.feet = search rules in
    let is_small = same-small part look _ _ _ c.in-Some.ensures.small g slice in
    let heights = same-heights part look c.in-Some.heights _ _ c.in-Some.ensures.heights g slice in
    let number : to_z w32 (of_z w32 look.number) ≡ look.number = omega (arith, ints) in
    let odd_is : odd ≡ is_odd look.number = c.is_odd-odd.ensures ∙ ap (λ (z : ℤ). is_odd z) number in
    let goal_held : to_z w32 (of_z w32 c.in-Some.heights.goal) ≡ c.in-Some.heights.goal = omega (arith, ints) in
    let width : to_z w32 (of_z w32 look.lengths.textwidth) ≡ look.lengths.textwidth = omega (arith, ints) in
    let run_is = running-is look odd c.mark_of-mark.result (to_z w32 (of_z w32 look.lengths.textwidth)) odd_is c.mark_of-mark.ensures width in
    let run : Result (Option Boxed) Kind → Type 0 = λ m. Answers m c.running_box-running.result in
    let running : Answers (running_box look) c.running_box-running.result = subst run run_is c.running_box-running.ensures.answer in
    let pack : ℤ → Type 0 = λ z. Answers (packs Vertical (shown part.items) (To z)) c.vpack-body.result in
    let body : Answers (packs Vertical (shown part.items) (To part.goal)) c.vpack-body.result = subst pack (goal_held ∙ heights.body) c.vpack-body.ensures in
    fails part look c.in-Err.stop is_small (c.in-Err.ensures.boxes (packs Vertical (shown part.items) (To part.goal)) (running_box look) body running)
