-- The description of the test font.
use Rattle.std.specs.Prelude.{ℕ, List, [], map, pos}
use Rattle.lb_model_paper.specs.FontFiles.{words}
use Rattle.lb_tfm_make.specs.declared.spec.CharWidth.{CharWidth}
use Rattle.lb_tfm_make.specs.declared.spec.FixParameters.{FixParameters}
use Rattle.lb_tfm_make.specs.declared.spec.FontSpec.{FontSpec}

-- each character is half a design size wide
abbrev pub test_width : ℕ → CharWidth
test_width code = record { code = code; width = pos 524288 }

abbrev pub test_widths : List CharWidth
test_widths = map test_width (words 33 127)

abbrev pub test_params : FixParameters
test_params = record { slant = pos 0; space = pos 314573; stretch = pos 104858; shrink = pos 104858; x_height = pos 524288; quad = pos 1048576; extra_space = pos 104858 }

abbrev pub test_font : FontSpec
test_font = record { check = 0; design = 10485760; height = pos 786432; depth = pos 262144; params = test_params; widths = test_widths; steps = [] }
