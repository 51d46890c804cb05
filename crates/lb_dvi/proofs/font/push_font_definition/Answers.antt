use Rattle.std.proofs.Common.{append_assoc, rules, w32}
use Rattle.std.proofs.lemmas.Int.{to_z-of_z}
use mir.Val.{SFits}
use Rattle.lb_dvi.proofs.font.push_font_definition.Goals as goal

pub returns : goal.returns
returns c =
    let fits : SFits w32 c.args.font.now.size = search rules in
    rw (c.in_ok-extend_from_slice.ensures.items, c.as_slice.ensures, c.in_ok-push-4.ensures.items, c.len.ensures, c.in_ok-push-3.ensures.items, c.in_ok-push_word-2.ensures, c.in_ok-push_signed.ensures, to_z-of_z w32 c.args.font.now.size fits, c.in_ok-push_word.ensures, c.in_ok-push-2.ensures.items, c.in_ok-push.ensures.items)
    (simp append_assoc)
