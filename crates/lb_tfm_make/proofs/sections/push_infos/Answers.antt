use Rattle.std.proofs.Common.{◌<◌, ◌≤◌, ◌+◌, arith}
use Rattle.lb_tfm_make.specs.FontBytes.{info_word, last_code}
use Rattle.lb_tfm_make.proofs.Turns.{map-end, map-turn}
use Rattle.lb_tfm_make.proofs.sections.push_infos.Goals as goal

pub loop-code-preserved : goal.loop-code-preserved
loop-code-preserved c =
    let low : c.loop-code.code < last_code 0 c.args.rows.now + 1 = omega arith in
    rw c.in_ok-push.ensures.items
    (map-turn (info_word c.args.rows.now c.args.widths.now c.args.starts.now) c.loop-code.words.items c.info_word.result c.loop-code.code (last_code 0 c.args.rows.now + 1) _ low c.info_word.ensures c.loop-code.invariant)

pub returns : goal.returns
returns c =
    let all : last_code 0 c.args.rows.now + 1 ≤ c.loop-code.code = omega arith in
    map-end (info_word c.args.rows.now c.args.widths.now c.args.starts.now) c.loop-code.words.items c.loop-code.code (last_code 0 c.args.rows.now + 1) _ all c.loop-code.invariant
