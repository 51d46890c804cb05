-- The test font is one that can be made.
use Rattle.std.proofs.Common.{refl, lit<, lit≤}
use Rattle.lb_tfm_make.specs.FontSpecs.{HasRightSizes, IsValid, are_fix_widths, are_right_steps, rise_from}
use Rattle.lb_tfm_make.specs.TestFont.{test_font}

sizes : HasRightSizes test_font
sizes = record { design_low = lit≤ tt; design_high = lit< tt; height = refl; depth = refl; params = refl }

pub is-valid : IsValid test_font
unfolding are_fix_widths are_right_steps rise_from
is-valid = record { sizes = sizes; some = lit< tt; rising = refl; widths = refl; few = lit≤ tt; steps = refl }
