use Rattle.std.proofs.Common.{◌≡◌, ℤ, ap, ◌∙◌, w64, FitsSigned, arith, rules}
use Rattle.std.proofs.lemmas.Int.{ints, to_z-of_z}
use Rattle.lb_model_paper.specs.Boxes.{asked}
use Rattle.lb_nodes.specs.Totals.{natural_in}
use Rattle.lb_nodes.proofs.plan.lengths_of.Goals as goal

pub returns-clause-excess : goal.returns-clause-excess
returns-clause-excess c =
    let fits : FitsSigned w64 c.natural-natural.result = search rules in
    let along : c.asked-along.result ≡ asked c.args.target (natural_in c.args.axis c.args.totals.now) = c.asked-along.ensures.asked ∙ ap (λ (z : ℤ). asked c.args.target z) (to_z-of_z w64 c.natural-natural.result fits ∙ c.natural-natural.ensures) in
    let natural : c.natural-natural.result ≡ natural_in c.args.axis c.args.totals.now = c.natural-natural.ensures in
    let small = c.are_both_small.ensures.0 c.if-not-are_both_small.false in
    omega (arith, ints)

pub returns-clause-small : goal.returns-clause-small
returns-clause-small c =
    let fits : FitsSigned w64 c.natural-natural.result = search rules in
    let along : c.asked-along.result ≡ asked c.args.target (natural_in c.args.axis c.args.totals.now) = c.asked-along.ensures.asked ∙ ap (λ (z : ℤ). asked c.args.target z) (to_z-of_z w64 c.natural-natural.result fits ∙ c.natural-natural.ensures) in
    let natural : c.natural-natural.result ≡ natural_in c.args.axis c.args.totals.now = c.natural-natural.ensures in
    let small = c.are_both_small.ensures.0 c.if-not-are_both_small.false in
    record {
      along = record { low = omega (arith, ints); high = omega (arith, ints) };
      excess = record { low = omega (arith, ints); high = omega (arith, ints) };
      reaches = c.is_small_across.ensures.0 c.if-not-is_small_across.false;
    }
