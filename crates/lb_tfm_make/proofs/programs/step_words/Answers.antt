use Rattle.std.proofs.Common.{◌+◌, get_or, drop}
use Rattle.std.proofs.lemmas.List.{drop_all, drop_more}
use Rattle.lb_tfm_make.proofs.ProgramTurns.{programs-end, programs-turn}
use Rattle.lb_tfm_make.proofs.programs.step_words.Goals as goal

pub loop-code-preserved : goal.loop-code-preserved
loop-code-preserved c =
    let e = drop_more c.args.codes.now c.loop-code.code-index 0 c.loop-code-test.true in
    rw c.in_ok-push_program.ensures
    (programs-turn c.args.steps.now c.loop-code.words.items _ (get_or c.args.codes.now c.loop-code.code-index 0) (drop (c.loop-code.code-index + 1) c.args.codes.now) (rw e at c.loop-code.invariant))

pub returns : goal.returns
returns c =
    let e = drop_all c.loop-code.code-index c.args.codes.now c.loop-code-test.false in
    programs-end c.args.steps.now c.loop-code.words.items _ (rw e at c.loop-code.invariant)
