use Rattle.std.proofs.Common.{◌≡◌, ◌∙◌, ◌++◌, ◌/◌, ap, arith, refl}
use Rattle.lb_model_grammar.specs.Printed.{copies}
use Rattle.lb_print.proofs.Numerals.{copies-more, written-row}
use Rattle.lb_print.proofs.roman.write_numeral.Goals as goal

pub loop-time-preserved : goal.loop-time-preserved
loop-time-preserved c =
    c.in_ok-extend_from_slice.ensures.ok
    ∙ ap (λ t. t ++ c.args.letters.now) c.loop-time.invariant
    ∙ copies-more c.loop-time.time c.args.letters.now c.args.text.now

pub returns : goal.returns
returns c =
    λ rows.
    let over : c.loop-time.time ≡ c.args.left.now / c.args.value = omega (arith, c.loop-time-test.false, c.loop-time.auto.time-end) in
    written-row c.args.text.now c.loop-time.text c.args.letters.now c.args.value c.args.left.now _ rows
    (c.loop-time.invariant ∙ ap (λ n. c.args.text.now ++ copies n c.args.letters.now) over) refl
