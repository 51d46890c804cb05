use Rattle.std.proofs.Common.{◌∙◌, ap, sym}
use Rattle.lb_maps.specs.Marked.{mark_at, standing}
use Rattle.lb_maps.proofs.Marks.{empty-seen}
use Rattle.lb_maps.proofs.saves.Saves.is_empty.Goals as goal

pub returns : goal.returns
returns g c =
    let old = c.self.inside in
    let empty = empty-seen old.items.len c.is_empty.result old.items.items (mark_at old.marks) old.items.ok.0 c.is_empty.ensures in
    (λ t. sym (ap standing c.self.view_is) ∙ empty.0 t, λ e. empty.1 (ap standing c.self.view_is ∙ e))
