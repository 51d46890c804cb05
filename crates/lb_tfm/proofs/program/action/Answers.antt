use Rattle.std.proofs.Common.{◌≤◌, sym, ◌∙◌, arith, length}
use Rattle.lb_base.specs.declared.font.Step.{Step}
use Rattle.lb_base.specs.declared.font.LigStep.TheVariants.{Nothing}
use Rattle.lb_tfm.proofs.Programs.{halts, acts, ends, goes_on, past}
use Rattle.lb_tfm.proofs.program.action.Goals as goal

blank : Step
blank = record { skip = 0; next = 0; action = Nothing }

pub returns-then-step-gt-STOP : goal.returns-then-step-gt-STOP
unfolding blank
returns-then-step-gt-STOP c =
    sym (halts c.args.steps.now c.loop-place.place c.args.code blank c.loop-place-test.true c.if-step-gt-STOP.true) ∙ c.loop-place.invariant

pub returns-then-step-code : goal.returns-then-step-code
unfolding blank
returns-then-step-code c =
    sym (acts c.args.steps.now c.loop-place.place c.args.code blank c.loop-place-test.true c.if-step-gt-STOP.false c.if-step-code.true) ∙ c.loop-place.invariant

pub returns-then-step : goal.returns-then-step
unfolding blank
returns-then-step c =
    sym (ends c.args.steps.now c.loop-place.place c.args.code blank c.loop-place-test.true c.if-step.true c.if-step-code.false) ∙ c.loop-place.invariant

pub loop-place-preserved : goal.loop-place-preserved
unfolding blank
loop-place-preserved c =
    let on = goes_on c.args.steps.now c.loop-place.place c.args.code blank c.loop-place-test.true c.if-step-gt-STOP.false c.if-step.false c.if-step-code.false in
    rw c.from.ensures (sym on ∙ c.loop-place.invariant)

pub returns : goal.returns
returns c =
    let all : length c.args.steps.now ≤ c.loop-place.place = omega arith in
    sym (past c.args.steps.now c.loop-place.place c.args.code all) ∙ c.loop-place.invariant
