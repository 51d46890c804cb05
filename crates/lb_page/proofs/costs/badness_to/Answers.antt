use Rattle.std.proofs.Common.{◌≡◌, ◌∙◌, ap, sym, Bool, true, false, ℤ, pos, ◌-ℤ◌, Some, if◌then◌else◌, to_z, of_z, w32, w64, FitsSigned, arith, rules}
use Rattle.std.specs.Int.{is_negative}
use Rattle.std.proofs.lemmas.Int.{ints, to_z-of_z}
use Rattle.lb_base.specs.Badness.{badness_of}
use Rattle.lb_page.proofs.Fits.{badness_to-shrinking, badness_to-stretching}
use Rattle.lb_page.proofs.costs.badness_to.Goals as goal

pub returns-then-excess-lt0-clause-badness : goal.returns-then-excess-lt0-clause-badness
returns-then-excess-lt0-clause-badness c =
    let negative : is_negative c.args.excess ≡ true = grind (arith, ints) in
    let held : ℤ → ℤ = λ z. to_z w64 (of_z w64 z) in
    badness_to-shrinking c.args.excess (held (pos 0 -ℤ held c.args.excess)) (held c.in_all.result) _ _ _ negative (omega (arith, ints)) (omega (arith, ints)) c.badness_of_shrinking.ensures.badness

pub returns-then-is_infinite-clause-badness : goal.returns-then-is_infinite-clause-badness
returns-then-is_infinite-clause-badness c =
    let positive : is_negative c.args.excess ≡ false = grind (arith, ints) in
    badness_to-stretching c.args.excess _ _ _ positive (ap (λ (b : Bool). if b then Some (pos 0) else Some (pos (badness_of c.args.excess c.args.stretch.now.finite))) (sym c.if-is_infinite.true ∙ c.is_infinite.ensures))

pub returns-clause-badness : goal.returns-clause-badness
returns-clause-badness c =
    let positive : is_negative c.args.excess ≡ false = grind (arith, ints) in
    let finite = c.args.stretch.now.finite in
    let held : ℤ → ℤ = λ z. to_z w64 (of_z w64 z) in
    let fits : FitsSigned w32 c.badness.result = search rules in
    let fits_excess : FitsSigned w64 c.args.excess = search rules in
    let fits_finite : FitsSigned w64 finite = search rules in
    let value = c.badness.ensures.value ∙ ap (λ (z : ℤ). pos (badness_of z (held finite))) (to_z-of_z w64 c.args.excess fits_excess) ∙ ap (λ (z : ℤ). pos (badness_of c.args.excess z)) (to_z-of_z w64 finite fits_finite) in
    badness_to-stretching c.args.excess _ _ _ positive
    (ap Some (to_z-of_z w32 c.badness.result fits ∙ value) ∙ ap (λ (b : Bool). if b then Some (pos 0) else Some (pos (badness_of c.args.excess finite))) (sym c.if-is_infinite.false ∙ c.is_infinite.ensures))
