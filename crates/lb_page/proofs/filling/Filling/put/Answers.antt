use Rattle.std.proofs.Common.{◌∙◌, ap, sym}
use Rattle.lb_model_paper.specs.Pages.{without_top}
use Rattle.lb_page.proofs.Filled.{filling_at, IsFilling-more, IsFilling-top}
use Rattle.lb_page.proofs.filling.Filling.put.Goals as goal

pub returns-then-goes_at_top-clause-filling : goal.returns-then-goes_at_top-clause-filling
returns-then-goes_at_top-clause-filling c = λ front is top. IsFilling-top c.args.rules.now front c.args.node c.args.self.now c.is_discardable.result (sym c.goes_at_top.ensures ∙ c.if-goes_at_top.true) c.is_discardable.ensures is

pub returns-clause-filling : goal.returns-clause-filling
returns-clause-filling c = λ front is top.
    let rules = c.args.rules.now in
    let at = filling_at rules front c.args.self.now is in
    let opens = c.open.ensures.items (without_top front) is.topped at.0 top in
    IsFilling-more rules front c.args.node c.args.self.now c.open.new.self _ c.is_discardable.result (sym c.goes_at_top.ensures ∙ c.if-goes_at_top.false) c.is_discardable.ensures is opens (ap (λ v. v.items) c.open.ensures.feet) c.push.ensures.items c.push.ensures.feet (c.push.ensures.begun ∙ c.open.ensures.begun) c.push.ensures.topped
