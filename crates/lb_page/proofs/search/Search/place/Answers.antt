use Rattle.std.proofs.Common.{◌∙◌, ap, refl, ℤ, w32, w64, FitsSigned, rules}
use Rattle.std.proofs.lemmas.Int.{to_z-of_z}
use Rattle.lb_page.specs.Sums.{cost_in}
use Rattle.lb_page.proofs.Stepping.{cost_at-none, IsCut-here, penalty-next}
use Rattle.lb_page.proofs.search.Search.place.Goals as goal

pub returns-in_default : goal.returns-in_default
returns-in_default c = λ nodes going next.
    let s = c.args.self.now in
    cost_at-none s.rules nodes s.at (penalty-next nodes s.at c.args.node.now c.args.before_glue s.so_far s.rules c.penalty_of.result next going.so_far c.penalty_of.ensures.place ∙ c.in_default.is)

pub returns : goal.returns
returns c = λ nodes going next.
    let s = c.args.self.now in
    let fits : FitsSigned w64 c.goal.result = search rules in
    let fits_penalty : FitsSigned w32 c.in-Some.penalty = search rules in
    let penalty = penalty-next nodes s.at c.args.node.now c.args.before_glue s.so_far s.rules c.penalty_of.result next going.so_far c.penalty_of.ensures.place ∙ c.in-Some.is in
    let cost = c.cost.ensures ∙ ap (λ (z : ℤ). cost_in s.rules s.so_far.sums z) (to_z-of_z w32 c.in-Some.penalty fits_penalty) in
    (IsCut-here s.rules nodes s.at c.args.node.now s.so_far c.in-Some.penalty c.cost.result c.closing_of.result _ next.item going.so_far penalty cost c.closing_of.ensures (to_z-of_z w64 c.goal.result fits ∙ c.goal.ensures.goal), refl)
