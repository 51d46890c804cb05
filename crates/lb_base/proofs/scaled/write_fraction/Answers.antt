use Rattle.std.proofs.Common.{◌≡◌, ℕ, ◌+◌, ◌-◌, ◌/◌, ◌<◌, ◌≤◌, ◌++◌, List, length, take, arith, ap, refl, sym, ◌∙◌}
use Rattle.std.proofs.lemmas.List.{append-nil}
use Rattle.lb_base.specs.Decimals.{fraction_digits, ascii_digits}
use Rattle.lb_base.proofs.FractionWriting.{numerator, padded, Turned, turned, turning-start, pushed, padded-none, behind_next, length-fraction_digits}
use Rattle.lb_base.proofs.scaled.write_fraction.Goals as goal

pub places-init : goal.places-init
places-init c =
    let none : c.args.at - c.args.at ≡ 0 = omega arith in
    rw none record {
      within = omega arith;
      turning = turning-start c.args.fraction c.requires.small;
      text = sym (ap (λ (xs : List ℕ). take c.args.at c.args.out.now ++ xs) (padded-none (numerator 0 c.args.fraction / 655360)) ∙ append-nil (take c.args.at c.args.out.now));
      behind = refl;
    }

step_of : (c : goal.Then-rest-delta) → Turned c.args.fraction (c.places.next - c.args.at) c.places.delta c.next_digit-digit.result.0 c.next_digit-digit.result.1
step_of c = rw c.next_digit-digit.ensures (turned c.args.fraction (c.places.next - c.args.at) c.places.rest c.places.delta c.places.invariant.turning)

step_on : (c : goal.Else-rest-delta) → Turned c.args.fraction (c.places.next - c.args.at) c.places.delta c.next_digit-digit.result.0 c.next_digit-digit.result.1
step_on c = rw c.next_digit-digit.ensures (turned c.args.fraction (c.places.next - c.args.at) c.places.rest c.places.delta c.places.invariant.turning)

pub returns-then-rest-delta-clause-end : goal.returns-then-rest-delta-clause-end
returns-then-rest-delta-clause-end c = omega (arith, (step_of c).ends c.if-rest-delta.true, length-fraction_digits c.args.fraction)

pub returns-then-rest-delta-clause-text : goal.returns-then-rest-delta-clause-text
returns-then-rest-delta-clause-text c =
    let f : ℕ = c.args.fraction in
    let k : ℕ = c.places.next - c.args.at in
    let few : k ≤ 4 = c.places.invariant.turning.few in
    let inside : c.places.next < length c.places.out = omega arith in
    pushed c.places.out c.places.next c.next_digit-digit.result.0 (take c.args.at c.args.out.now)
    (padded k (numerator k f / 655360)) (ascii_digits (fraction_digits f)) inside c.places.invariant.text
    ((step_of c).ends_text c.if-rest-delta.true)

pub places-preserved : goal.places-preserved
places-preserved c =
    let f : ℕ = c.args.fraction in
    let k : ℕ = c.places.next - c.args.at in
    let few : k ≤ 4 = c.places.invariant.turning.few in
    let inside : c.places.next < length c.places.out = omega arith in
    let next : c.places.next + 1 - c.args.at ≡ k + 1 = omega arith in
    rw next record {
      within = omega arith;
      turning = (step_on c).goes c.if-rest-delta.false;
      text =
          pushed c.places.out c.places.next c.next_digit-digit.result.0 (take c.args.at c.args.out.now)
          (padded k (numerator k f / 655360)) (padded (k + 1) (numerator (k + 1) f / 655360)) inside c.places.invariant.text
          ((step_on c).goes_text c.if-rest-delta.false);
      behind = behind_next c.places.out c.args.out.now c.places.next c.next_digit-digit.result.0 c.places.invariant.behind;
    }
