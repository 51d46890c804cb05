use Rattle.std.proofs.Common.{append_assoc, rules, w32}
use Rattle.std.proofs.lemmas.Int.{to_z-of_z}
use mir.Val.{SFits}
use Rattle.lb_dvi.proofs.writer.Writer.push_closing.Goals as goal

pub returns : goal.returns
returns c =
    let last : SFits w32 c.self.inside.last = search rules in
    let height : SFits w32 c.self.inside.height = search rules in
    let width : SFits w32 c.self.inside.width = search rules in
    rw (← c.self.view_is, c.in_ok-push_definitions.ensures, c.deref.ensures.value, c.in_ok-push_half-2.ensures, c.in_ok-push_half.ensures, c.in_ok-push_signed-3.ensures, c.in_ok-push_signed-2.ensures, c.in_ok-push_unit.ensures, c.in_ok-push_signed.ensures, c.in_ok-push.ensures.items, to_z-of_z w32 c.self.inside.last last, to_z-of_z w32 c.self.inside.height height, to_z-of_z w32 c.self.inside.width width)
    (simp append_assoc)
