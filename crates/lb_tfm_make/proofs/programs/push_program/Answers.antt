use Rattle.std.proofs.Common.{◌≡◌, ◌+◌, ◌-◌, length, get_or, drop, arith}
use Rattle.std.proofs.lemmas.List.{drop_all}
use Rattle.lb_tfm_make.specs.declared.spec.PairStep.{PairStep}
use Rattle.lb_tfm_make.specs.FontBytes.{steps_behind}
use Rattle.lb_tfm_make.proofs.ProgramTurns.{behind-own, words-end, words-own}
use Rattle.lb_tfm_make.proofs.programs.push_program.Goals as goal

pub loop-step-preserved : goal.loop-step-preserved
loop-step-preserved c =
    let d : PairStep = record { left = 0; right = 0; op = 0; rem = 0 } in
    let rest = steps_behind (drop (c.loop-step.step-index + 1) c.args.steps.now) c.args.code in
    let e = behind-own c.args.steps.now c.loop-step.step-index c.args.code d c.loop-step-test.true c.if-step-code.false in
    let count = rw e at c.loop-step.invariant.left in
    let words = rw e at c.loop-step.invariant.words in
    let left : c.loop-step.left - 1 ≡ length rest = omega arith in
    record {
      left = left;
      words = rw c.in_ok-push_step.ensures (words-own c.loop-step.words.items _ (get_or c.args.steps.now c.loop-step.step-index d) (c.loop-step.left - 1) rest left words);
    }

pub returns : goal.returns
returns c =
    let e = drop_all c.loop-step.step-index c.args.steps.now c.loop-step-test.false in
    words-end c.loop-step.words.items _ (rw e at c.loop-step.invariant.words)
