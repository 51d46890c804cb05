use Rattle.std.proofs.Common.{◌≡◌, append_assoc, w32, true, rules, sym, ◌∙◌}
use Rattle.std.proofs.lemmas.Int.{to_z-of_z}
use Rattle.lb_model_paper.specs.Dvi.{is_shown}
use Rattle.lb_dvi.proofs.Lengths.{small-read}
use Rattle.lb_dvi.proofs.pen.Pen.push_rule.Goals as goal

pub returns-clause-bytes : goal.returns-clause-bytes
returns-clause-bytes c =
    let told : c.is_shown.result ≡ true = search rules in
    let e : c.is_shown.result ≡ is_shown c.args.height c.args.width =
    rw (to_z-of_z w32 c.args.height c.ranges.height, to_z-of_z w32 c.args.width c.ranges.width) at c.is_shown.ensures in
    let shown : is_shown c.args.height c.args.width ≡ true = sym e ∙ told in
    rw (shown, c.in_ok-push_signed-2.ensures, c.in_ok-push_signed.ensures, c.in_ok-push.ensures.items, c.in_ok-push_both_moves.ensures, small-read c.args.h c.requires.left, small-read c.args.v c.requires.lower, to_z-of_z w32 c.args.height c.ranges.height, to_z-of_z w32 c.args.width c.ranges.width)
    (simp append_assoc)
