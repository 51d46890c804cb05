use Rattle.std.proofs.Common.{◌≡◌, ◌<◌, ◌≤◌, length, arith, ◌∙◌}
use Rattle.lb_model_paper.specs.Dvi.{font_number}
use Rattle.std.proofs.Common.{rules}
use Rattle.lb_dvi.proofs.Fonts.{defined-true, defined-false, defined-none, defined-one, with-there, with-new, with-long, number_within, is_number}
use Rattle.lb_dvi.proofs.font.define_font.Goals as goal

pub returns-then-number-len-clause-bytes : goal.returns-then-number-len-clause-bytes
returns-then-number-len-clause-bytes c =
    let e = is_number _ _ c.args.font.now _ c.deref.ensures.value c.number_of-number.ensures in
    let h : font_number c.args.fonts.now.items c.args.font.now < length c.args.fonts.now.items = omega arith in
    defined-none _ _ _ (defined-true c.args.fonts.now.items c.args.font.now h)

pub returns-then-number-len-clause-fonts : goal.returns-then-number-len-clause-fonts
returns-then-number-len-clause-fonts c =
    let e = is_number _ _ c.args.font.now _ c.deref.ensures.value c.number_of-number.ensures in
    let h : font_number c.args.fonts.now.items c.args.font.now < length c.args.fonts.now.items = omega arith in
    with-there c.args.fonts.now.items c.args.font.now (defined-true c.args.fonts.now.items c.args.font.now h)

pub returns-then-number-ge-MOST_FONTS-clause-limit : goal.returns-then-number-ge-MOST_FONTS-clause-limit
returns-then-number-ge-MOST_FONTS-clause-limit c = λ _.
    let e = is_number _ _ c.args.font.now _ c.deref.ensures.value c.number_of-number.ensures in
    let h : length c.args.fonts.now.items ≤ font_number c.args.fonts.now.items c.args.font.now = omega arith in
    let long : 60 ≤ length c.args.fonts.now.items = omega (arith, number_within c.args.fonts.now.items c.args.font.now) in
    with-long c.args.fonts.now.items c.args.font.now (defined-false c.args.fonts.now.items c.args.font.now h) long

pub returns-clause-bytes : goal.returns-clause-bytes
returns-clause-bytes c =
    let e = is_number _ _ c.args.font.now _ c.deref.ensures.value c.number_of-number.ensures in
    let h : length c.args.fonts.now.items ≤ font_number c.args.fonts.now.items c.args.font.now = omega arith in
    let n : c.number_of-number.result ≡ length c.args.fonts.now.items = omega (arith, number_within c.args.fonts.now.items c.args.font.now) in
    defined-one _ _ _ _ (defined-false c.args.fonts.now.items c.args.font.now h) (rw n at c.in_ok-push_font_definition.ensures)

pub returns-clause-fonts : goal.returns-clause-fonts
returns-clause-fonts c =
    let e = is_number _ _ c.args.font.now _ c.deref.ensures.value c.number_of-number.ensures in
    let h : length c.args.fonts.now.items ≤ font_number c.args.fonts.now.items c.args.font.now = omega arith in
    let same : c.in_ok-font.font ≡ c.args.font.now = search rules in
    c.in_ok-push.ensures.items ∙ (rw same (with-new c.args.fonts.now.items c.args.font.now (defined-false c.args.fonts.now.items c.args.font.now h)))
