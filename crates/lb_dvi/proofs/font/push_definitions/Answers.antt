use Rattle.lb_dvi.proofs.Fonts.{definitions-step}
use Rattle.lb_dvi.proofs.font.push_definitions.Goals as goal

pub loop-number-preserved : goal.loop-number-preserved
loop-number-preserved c =
    definitions-step _ c.loop-number.out.items c.push_font_definition.new.out.items c.args.fonts.now c.loop-number.number c.index-fonts-number.result c.index-fonts-number.result c.loop-number-test.true
    c.index-fonts-number.is c.loop-number.invariant c.in_ok-push_font_definition.ensures
