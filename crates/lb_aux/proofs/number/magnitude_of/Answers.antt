use Rattle.std.proofs.Common.{◌∙◌, ◌+◌, ◌*◌, arith, sym, ap}
use Rattle.std.specs.Option.{option_map}
use Rattle.std.specs.Prelude.{pos}
use Rattle.lb_aux.proofs.Digits.{digits-more, too-large, value-more}
use Rattle.lb_aux.proofs.number.magnitude_of.Goals as goal

pub returns-then-value-ge-LIMIT : goal.returns-then-value-ge-LIMIT
returns-then-value-ge-LIMIT c =
    let ds = c.args.digits.now in
    let i = c.loop-digit.digit-index in
    let value = (λ j. 10 * c.loop-digit.invariant.value j + c.from.ensures j) ∙ sym (value-more ds i c.loop-digit-test.true) in
    sym (ap (option_map pos) (too-large ds (i + 1) (10 * c.loop-digit.value + c.from.result) value (omega (arith, c.if-value-ge-LIMIT.true))))

pub loop-digit-preserved : goal.loop-digit-preserved
loop-digit-preserved c =
    let ds = c.args.digits.now in
    let i = c.loop-digit.digit-index in
    record {
      all = digits-more ds i c.loop-digit-test.true c.loop-digit.invariant.all (sym c.is_ascii_digit.ensures.value ∙ c.if-not-is_ascii_digit.false);
      value = (λ j. 10 * c.loop-digit.invariant.value j + c.from.ensures j) ∙ sym (value-more ds i c.loop-digit-test.true);
      small = omega (arith, c.if-value-ge-LIMIT.false);
    }
