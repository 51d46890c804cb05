use Rattle.std.proofs.Common.{◌≤◌, ◌↔◌, IsTrue, sym, subst, ◌∙◌}
use Rattle.lb_model_paper.specs.Breaks.{items_in}
use Rattle.lb_measure.specs.Measures.{pass_of}
use Rattle.lb_break.proofs.Found.{breaks-limit, breaks-ok}
use Rattle.lb_break.proofs.breaking.break_paragraph.Goals as goal

pub returns-then-not-has_few_items : goal.returns-then-not-has_few_items
returns-then-not-has_few_items c = breaks-limit c.args.shape.now c.args.list.now c.as_slice-list.result.now c.has_few_items.result c.as_slice-list.ensures c.has_few_items.ensures c.if-not-has_few_items.true

pub returns : goal.returns
returns c =
    let m = c.in_ok-measured.measured in
    breaks-ok c.args.shape.now m.shape (pass_of m) c.args.list.now m.list.now c.has_few_items.result c.in_ok-found.found c.breaks_or_none.result
    (subst (λ ns. IsTrue c.has_few_items.result ↔ (items_in ns ≤ 65536)) (sym c.in_ok-measured.ensures.list) c.has_few_items.ensures) c.if-not-has_few_items.false c.in_ok-measured.ensures.shape c.in_ok-measured.ensures.first (c.in_ok-measured.ensures.list ∙ c.as_slice-list.ensures) c.in_ok-found.ensures c.breaks_or_none.ensures
