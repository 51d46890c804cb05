use Rattle.std.proofs.Common.{◌<◌, ◌≤◌, ◌+◌, arith}
use Rattle.std.specs.List.{list_any}
use Rattle.lb_tfm_make.specs.FontBytes.{is_left, last_code, lefts}
use Rattle.lb_tfm_make.proofs.Turns.{filter-end, filter-turn}
use Rattle.lb_tfm_make.proofs.programs.lefts.Goals as goal

pub loop-code-preserved : goal.loop-code-preserved
unfolding lefts
loop-code-preserved c =
    let low : c.loop-code.code < last_code 0 c.args.rows.now + 1 = omega arith in
    rw c.in_ok-push_left.ensures
    (filter-turn (λ code. list_any (is_left code) c.args.steps.now) c.loop-code.codes.items c.loop-code.code (last_code 0 c.args.rows.now + 1) _ low c.loop-code.invariant)

pub returns-clause-codes : goal.returns-clause-codes
unfolding lefts
returns-clause-codes c =
    let all : last_code 0 c.args.rows.now + 1 ≤ c.loop-code.code = omega arith in
    filter-end (λ code. list_any (is_left code) c.args.steps.now) c.loop-code.codes.items c.loop-code.code (last_code 0 c.args.rows.now + 1) _ all c.loop-code.invariant
