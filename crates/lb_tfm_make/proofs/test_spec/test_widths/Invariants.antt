use Rattle.std.proofs.Common.{◌≡◌, ◌++◌, map}
use Rattle.lb_model_paper.specs.FontFiles.{words}
use Rattle.lb_tfm_make.specs.TestFont.{test_width, test_widths}
use Rattle.lb_tfm_make.proofs.test_spec.test_widths.Given as goal

abbrev pub invariant-loop-code : goal.invariant-loop-code
invariant-loop-code l = l.widths.items ++ map test_width (words l.code 127) ≡ test_widths
