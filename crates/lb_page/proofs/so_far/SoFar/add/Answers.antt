use Rattle.std.proofs.Common.{◌∙◌, sym, refl}
use Rattle.std.proofs.lemmas.Bool.{OnTrue_at, OnTrue_from}
use Rattle.lb_model_paper.specs.Pages.{without_top}
use Rattle.lb_page.specs.SoFar.{opened}
use Rattle.lb_page.proofs.Adding.{IsSoFar-more, IsSoFar-top, small-more, small-not_opened, small-top, small_at_front, sums_at_front}
use Rattle.lb_page.proofs.so_far.SoFar.add.Goals as goal

pub returns-then-goes_at_top-clause-so_far : goal.returns-then-goes_at_top-clause-so_far
returns-then-goes_at_top-clause-so_far c = λ front is. IsSoFar-top c.args.rules.now front c.args.node.now c.args.self.now _ c.is_discardable-discardable.result (sym c.goes_at_top.ensures ∙ c.if-goes_at_top.true) c.is_discardable-discardable.ensures is refl refl refl refl

pub returns-then-goes_at_top-clause-small : goal.returns-then-goes_at_top-clause-small
returns-then-goes_at_top-clause-small c = λ front is small. small-top c.args.rules.now front c.args.node.now c.args.self.now c.is_discardable-discardable.result (sym c.goes_at_top.ensures ∙ c.if-goes_at_top.true) c.is_discardable-discardable.ensures is small

pub returns-then-not-open-clause-small : goal.returns-then-not-open-clause-small
returns-then-not-open-clause-small c = λ front is small.
    let rules = c.args.rules.now in
    let opens = c.open.ensures.small (without_top front) is.top (sums_at_front rules front c.args.self.now is) (small_at_front rules front small) in
    small-not_opened rules front c.args.node.now c.args.self.now c.is_discardable-discardable.result (sym c.goes_at_top.ensures ∙ c.if-goes_at_top.false) c.is_discardable-discardable.ensures is (sym c.if-not-open.true ∙ opens)

pub returns-clause-so_far : goal.returns-clause-so_far
returns-clause-so_far c = OnTrue_from c.are_small.result _ (λ yes front is.
    let rules = c.args.rules.now in
    let opens = OnTrue_at c.if-not-open.false c.open.ensures.opened (without_top front) is.top (sums_at_front rules front c.args.self.now is) in
    IsSoFar-more rules front c.args.node.now c.args.self.now c.open.new.self _ c.is_discardable-discardable.result (sym c.goes_at_top.ensures ∙ c.if-goes_at_top.false) c.is_discardable-discardable.ensures is opens c.open.ensures.begun c.open.ensures.firm refl (c.put.ensures (opened rules (without_top front) c.args.node.now) opens.sums))

pub returns-clause-small : goal.returns-clause-small
returns-clause-small c = λ front is small.
    let rules = c.args.rules.now in
    let opens = OnTrue_at c.if-not-open.false c.open.ensures.opened (without_top front) is.top (sums_at_front rules front c.args.self.now is) in
    let before = c.open.ensures.small (without_top front) is.top (sums_at_front rules front c.args.self.now is) (small_at_front rules front small) in
    small-more rules front c.args.node.now c.args.self.now c.is_discardable-discardable.result c.are_small.result _ (sym c.goes_at_top.ensures ∙ c.if-goes_at_top.false) c.is_discardable-discardable.ensures is (sym c.if-not-open.false ∙ before) (c.put.ensures (opened rules (without_top front) c.args.node.now) opens.sums) c.are_small.ensures.value
