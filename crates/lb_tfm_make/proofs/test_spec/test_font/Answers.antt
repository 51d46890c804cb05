use Rattle.std.proofs.Common.{◌≡◌, rules}
use Rattle.lb_tfm_make.specs.TestFont.{test_widths}
use Rattle.lb_tfm_make.proofs.TestFonts.{is-valid}
use Rattle.lb_tfm_make.proofs.test_spec.test_font.Goals as goal

pub returns-clause-valid : goal.returns-clause-valid
returns-clause-valid c =
    let widths : c.from_vec.result ≡ test_widths = search rules in
    rw (widths, c.new.ensures) is-valid
