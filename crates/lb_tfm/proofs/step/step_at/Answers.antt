use Rattle.std.proofs.Common.{◌≤◌, arith}
use Rattle.lb_model_paper.specs.FontFiles.{byte_at}
use Rattle.lb_tfm.proofs.SoundFiles.{action-right}
use Rattle.lb_tfm.proofs.Tests.{not-above}
use Rattle.lb_tfm.proofs.step.step_at.Goals as goal

pub action_at-action-requires-clause-right : goal.action_at-action-requires-clause-right
action_at-action-requires-clause-right c =
    let low : byte_at c.args.bytes.now c.args.word 0 ≤ 128 = omega (arith, c.byte-skip.ensures) in
    rw (c.byte.ensures, c.byte-else-skip-gt-STOP.ensures)
    (action-right c.args.bytes.now c.args.counts c.args.word c.requires.sound c.requires.low c.requires.high (not-above 128 (byte_at c.args.bytes.now c.args.word 0) low))
