use Rattle.std.proofs.Common.{◌≡◌, sym, ◌∙◌, rules}
use Rattle.lb_dvi.proofs.Fonts.{known-after, present-known, with-there}
use Rattle.lb_dvi.proofs.font.select_font.Goals as goal

pub returns-then-is_present-clause-fonts : goal.returns-then-is_present-clause-fonts
returns-then-is_present-clause-fonts c =
    with-there c.args.fonts.now.items c.args.font.now
    (present-known c.args.fonts.now.items c.args.present.now c.args.font.now c.requires.known (sym c.is_present.ensures ∙ c.if-is_present.true))

pub returns-clause-known : goal.returns-clause-known
returns-clause-known c =
    let same : c.in_ok-clone.field-0 ≡ c.args.font.now = search rules in
    rw (same, c.in_ok-number.ensures.fonts) (known-after c.args.fonts.now.items c.args.font.now)
