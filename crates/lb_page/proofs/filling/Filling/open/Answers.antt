use Rattle.std.proofs.Common.{◌≡◌, ◌∙◌, ◌++◌, ◌∷◌, [], ap, sym, refl, None}
use Rattle.lb_page.specs.SoFar.{first_width}
use Rattle.lb_page.proofs.Filled.{items-first, items-other, items-there}
use Rattle.lb_page.proofs.Opening.{none_from}
use Rattle.lb_page.proofs.filling.Filling.open.Goals as goal

pub returns-then-self-clause-items : goal.returns-then-self-clause-items
returns-then-self-clause-items c = λ nodes is same top. items-there c.args.rules.now nodes c.args.node.now c.args.self.now.topped c.args.self.now.items.items c.if-self.true is same

pub returns-then-not-is_box_or_rule-clause-items : goal.returns-then-not-is_box_or_rule-clause-items
returns-then-not-is_box_or_rule-clause-items c = λ nodes is same top. items-other c.args.rules.now nodes c.args.node.now c.args.self.now.topped c.args.self.now.items.items (sym c.is_box_or_rule.ensures ∙ c.if-not-is_box_or_rule.true) is same

pub returns-clause-items : goal.returns-clause-items
returns-clause-items c = λ nodes is same top.
    let rules = c.args.rules.now in
    let block = sym c.is_box_or_rule.ensures ∙ c.if-not-is_box_or_rule.false in
    let none : first_width rules nodes ≡ None = none_from (first_width rules nodes) (sym is ∙ c.if-self.false) in
    items-first rules nodes c.args.node.now c.args.self.now.topped c.args.self.now.items.items _ c.if-self.false block is same (c.push_reserved.ensures.items ∙ ap (λ n. c.args.self.now.items.items ++ n ∷ []) (c.top_glue.ensures rules c.args.node.now refl (top none block)))
