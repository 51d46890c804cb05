use Rattle.std.proofs.Common.{refl}
use Rattle.lb_tfm_make.specs.TestFont.{test_width}
use Rattle.lb_tfm_make.proofs.Turns.{map-end, map-turn}
use Rattle.lb_tfm_make.proofs.test_spec.test_widths.Goals as goal

pub loop-code-preserved : goal.loop-code-preserved
loop-code-preserved c = rw c.in_ok-push.ensures.items (map-turn test_width c.loop-code.widths.items (test_width c.loop-code.code) c.loop-code.code 127 _ c.loop-code-test.true refl c.loop-code.invariant)

pub returns : goal.returns
returns c = map-end test_width c.loop-code.widths.items c.loop-code.code 127 _ c.loop-code-test.false c.loop-code.invariant
