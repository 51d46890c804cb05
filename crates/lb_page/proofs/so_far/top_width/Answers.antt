use Rattle.std.proofs.Common.{◌≡◌, ◌∙◌, ap, ℤ, pos, ◌-ℤ◌, ◌≤ℤ◌, to_z, of_z, w64, FitsSigned, arith, rules}
use Rattle.std.proofs.lemmas.Int.{ints, to_z-of_z}
use Rattle.std.specs.Int.{int_max}
use Rattle.lb_model_paper.specs.Nodes.{size_of}
use Rattle.lb_page.proofs.Totalling.{int_max-most}
use Rattle.lb_page.proofs.so_far.top_width.Goals as goal

pub returns-clause-width : goal.returns-clause-width
returns-clause-width c =
    let held : ℤ → ℤ = λ z. to_z w64 (of_z w64 z) in
    let fits : FitsSigned w64 c.max.result = search rules in
    let difference : held (held c.from.result -ℤ held c.from-2.result) ≡ c.args.rules.now.topskip.width -ℤ (size_of c.args.node.now).height = omega (arith, ints) in
    to_z-of_z w64 c.max.result fits ∙ c.max.ensures.value ∙ ap (λ (z : ℤ). int_max z (pos 0)) difference

pub returns-clause-bounded : goal.returns-clause-bounded
returns-clause-bounded c =
    let held : ℤ → ℤ = λ z. to_z w64 (of_z w64 z) in
    let difference : held (held c.from.result -ℤ held c.from-2.result) ≤ℤ pos 8589934592 = omega (arith, ints) in
    let most : int_max (held (held c.from.result -ℤ held c.from-2.result)) (pos 0) ≤ℤ pos 8589934592 = int_max-most _ (pos 0) _ difference (omega (arith, ints)) in
    record { low = omega (arith, ints, c.max.ensures.value); high = omega (arith, ints, c.max.ensures.value) }
