use Rattle.std.proofs.Common.{◌≡◌, arith, sym, ap, ◌∙◌, length}
use Rattle.lb_model_paper.specs.Dvi.{same_font}
use Rattle.lb_dvi.proofs.Fonts.{number_is, number_none}
use Rattle.lb_dvi.proofs.font.number_of.Goals as goal

pub returns-then-is_same : goal.returns-then-is_same
returns-then-is_same c =
    number_is c.args.fonts.now c.args.font.now c.loop-number.number c.index-fonts-number.result c.loop-number.invariant c.loop-number-test.true
    (ap (same_font c.args.font.now) (sym c.index-fonts-number.is) ∙ sym c.is_same.ensures ∙ c.if-is_same.true)

pub returns : goal.returns
returns c =
    let all : c.loop-number.number ≡ length c.args.fonts.now = omega arith in
    number_none c.args.fonts.now c.args.font.now c.loop-number.number all c.loop-number.invariant
