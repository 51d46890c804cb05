use Rattle.std.proofs.Common.{◌+◌, get_or, drop, arith}
use Rattle.std.proofs.lemmas.List.{drop_more, drop_all}
use Rattle.lb_tfm_make.proofs.ProgramTurns.{length-programs, restarts-end, restarts-turn}
use Rattle.lb_tfm_make.proofs.programs.push_restarts.Goals as goal

pub overflow_add-place : goal.overflow_add-place
overflow_add-place c =
    let e = drop_more c.args.codes.now c.loop-code.code-index 0 c.loop-code-test.true in
    let bound = rw e at c.loop-code.invariant.small in
    omega (arith, length-programs c.args.steps.now (get_or c.args.codes.now c.loop-code.code-index 0) (drop (c.loop-code.code-index + 1) c.args.codes.now))

pub loop-code-preserved : goal.loop-code-preserved
loop-code-preserved c =
    let code = get_or c.args.codes.now c.loop-code.code-index 0 in
    let rest = drop (c.loop-code.code-index + 1) c.args.codes.now in
    let e = drop_more c.args.codes.now c.loop-code.code-index 0 c.loop-code-test.true in
    let bound = rw e at c.loop-code.invariant.small in
    let words = rw e at c.loop-code.invariant.words in
    record {
      small = omega (arith, length-programs c.args.steps.now code rest);
      words = rw (c.in_ok-push.ensures.items, c.count_behind-place.ensures) (restarts-turn c.args.steps.now c.loop-code.words.items _ c.loop-code.place code rest words);
    }

pub returns : goal.returns
returns c =
    let e = drop_all c.loop-code.code-index c.args.codes.now c.loop-code-test.false in
    restarts-end c.args.steps.now c.loop-code.words.items _ c.loop-code.place (rw e at c.loop-code.invariant.words)
