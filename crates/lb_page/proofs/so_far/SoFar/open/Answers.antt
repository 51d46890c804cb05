use Rattle.std.proofs.Common.{◌≡◌, ◌∙◌, ap, sym, refl, Some, to_z, of_z, w32, w64, FitsSigned, arith, rules}
use Rattle.std.proofs.lemmas.Bool.{OnTrue_at}
use Rattle.std.proofs.lemmas.Int.{ints, to_z-of_z}
use Rattle.lb_model_paper.specs.Pages.{hangs, top_width, with_top_glue}
use Rattle.lb_page.proofs.Opening.{IsOpened-first, IsOpened-other, IsOpened-there, small-first, small-other, small-there}
use Rattle.lb_page.proofs.so_far.SoFar.open.Goals as goal

pub returns-then-is_some-clause-opened : goal.returns-then-is_some-clause-opened
returns-then-is_some-clause-opened c = λ nodes is are. IsOpened-there c.args.rules.now nodes c.args.node.now c.args.self.now (sym c.is_some.ensures ∙ c.if-is_some.true) is are

pub returns-then-is_some-clause-small : goal.returns-then-is_some-clause-small
returns-then-is_some-clause-small c = λ nodes is are before. small-there c.args.rules.now nodes c.args.node.now c.args.self.now (sym c.is_some.ensures ∙ c.if-is_some.true) is before

pub returns-then-not-is_box_or_rule-clause-opened : goal.returns-then-not-is_box_or_rule-clause-opened
returns-then-not-is_box_or_rule-clause-opened c = λ nodes is are. IsOpened-other c.args.rules.now nodes c.args.node.now c.args.self.now (sym c.is_box_or_rule.ensures ∙ c.if-not-is_box_or_rule.true) is are

pub returns-then-not-is_box_or_rule-clause-small : goal.returns-then-not-is_box_or_rule-clause-small
returns-then-not-is_box_or_rule-clause-small c = λ nodes is are before. small-other c.args.rules.now nodes c.args.node.now (sym c.is_box_or_rule.ensures ∙ c.if-not-is_box_or_rule.true) before

pub returns-then-not-are_small-clause-small : goal.returns-then-not-are_small-clause-small
returns-then-not-are_small-clause-small c = λ nodes is are before.
    let fits : FitsSigned w64 c.top_width-width.result = search rules in
    let sums = c.put_top.ensures.sums (with_top_glue c.args.rules.now nodes) c.args.rules.now c.args.node.now are refl (to_z-of_z w64 c.top_width-width.result fits ∙ c.top_width-width.ensures.width) in
    small-first c.args.rules.now nodes c.args.node.now c.args.self.now.top _ _ (sym c.is_some.ensures ∙ c.if-is_some.false) (sym c.is_box_or_rule.ensures ∙ c.if-not-is_box_or_rule.false) is sums (sym c.if-not-are_small.true ∙ c.are_small.ensures.value) before

pub overflow_cast-self : goal.overflow_cast-self
overflow_cast-self c =
    let new = OnTrue_at c.if-not-are_small.false c.are_small.ensures.ready in
    let total = new.total in
    let same = ap (hangs c.args.rules.now) c.put_top.ensures.hanging in
    omega (arith, ints, c.put_top.ensures.room)

pub returns-clause-opened : goal.returns-clause-opened
returns-clause-opened c = λ nodes is are.
    let fits : FitsSigned w64 c.top_width-width.result = search rules in
    let wide = to_z-of_z w64 c.top_width-width.result fits ∙ c.top_width-width.ensures.width in
    let sums = c.put_top.ensures.sums (with_top_glue c.args.rules.now nodes) c.args.rules.now c.args.node.now are refl wide in
    let new = OnTrue_at c.if-not-are_small.false c.are_small.ensures.ready in
    let total = new.total in
    let same = ap (hangs c.args.rules.now) c.put_top.ensures.hanging in
    let held : to_z w32 (of_z w32 (to_z w64 (of_z w64 c.top_width-width.result))) ≡ top_width c.args.rules.now c.args.node.now = omega (arith, ints, c.put_top.ensures.room, c.top_width-width.ensures.width) in
    IsOpened-first c.args.rules.now nodes c.args.node.now c.args.self.now.top _ (sym c.is_some.ensures ∙ c.if-is_some.false) (sym c.is_box_or_rule.ensures ∙ c.if-not-is_box_or_rule.false) is (ap Some held) sums

pub returns-clause-small : goal.returns-clause-small
returns-clause-small c = λ nodes is are before.
    let fits : FitsSigned w64 c.top_width-width.result = search rules in
    let sums = c.put_top.ensures.sums (with_top_glue c.args.rules.now nodes) c.args.rules.now c.args.node.now are refl (to_z-of_z w64 c.top_width-width.result fits ∙ c.top_width-width.ensures.width) in
    small-first c.args.rules.now nodes c.args.node.now c.args.self.now.top _ _ (sym c.is_some.ensures ∙ c.if-is_some.false) (sym c.is_box_or_rule.ensures ∙ c.if-not-is_box_or_rule.false) is sums (sym c.if-not-are_small.false ∙ c.are_small.ensures.value) before
