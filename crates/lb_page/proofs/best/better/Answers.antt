use Rattle.std.proofs.Common.{◌∙◌, sym, subst}
use Rattle.lb_page.specs.Places.{IsBest, IsPlace}
use Rattle.lb_page.proofs.BestPlaces.{IsBest-first, IsBest-left, IsBest-none, IsBest-taken}
use Rattle.lb_page.proofs.best.better.Goals as goal

pub returns-in_default : goal.returns-in_default
returns-in_default c = λ rules nodes n is place. IsBest-none rules nodes n c.args.best is (subst (λ p. IsPlace rules nodes n p) c.in_default.is place)

pub returns-in_default-best : goal.returns-in_default-best
returns-in_default-best c = λ rules nodes n is place.
    let here = subst (λ p. IsPlace rules nodes n p) c.in-Some.is place in
    IsBest-first rules nodes n c.in-Some.here (subst (λ b. IsBest rules nodes n b) c.in_default-best.is is) here.0 here.1

pub returns-then-costs_at_most : goal.returns-then-costs_at_most
returns-then-costs_at_most c = λ rules nodes n is place.
    let here = subst (λ p. IsPlace rules nodes n p) c.in-Some.is place in
    let there = subst (λ b. IsBest rules nodes n b) c.in-Some-best.is is in
    IsBest-taken rules nodes n c.in-Some-best.there c.in-Some.here there here.0 here.1 (sym c.costs_at_most.ensures ∙ c.if-costs_at_most.true)

pub returns : goal.returns
returns c = λ rules nodes n is place.
    let here = subst (λ p. IsPlace rules nodes n p) c.in-Some.is place in
    let there = subst (λ b. IsBest rules nodes n b) c.in-Some-best.is is in
    IsBest-left rules nodes n c.in-Some-best.there c.in-Some.here there here.0 here.1 (sym c.costs_at_most.ensures ∙ c.if-costs_at_most.false)
