use Rattle.std.proofs.Common.{◌∙◌, ap, Some, ◌∷◌}
use Rattle.lb_maps.specs.Marked.{standing}
use Rattle.lb_maps.proofs.Saved.{on_err}
use Rattle.lb_maps.proofs.Marks.{pushed, not_pushed}
use Rattle.lb_maps.proofs.saves.Saves.push.Goals as goal

pub returns-in_err-push-clause-err : goal.returns-in_err-push-clause-err
returns-in_err-push-clause-err g c =
    let old = c.self.inside in
    let same = not_pushed c.args.cell c.len.result old.items.items c.push.new.self.items old.marks c.lower_mark.new.marks (c.len.ensures ∙ old.items.ok.0) c.in_err-push.ensures.items c.lower_mark.ensures in
    on_err c.from_residual.result (same ∙ ap standing c.self.view_is)

pub returns-clause-ok : goal.returns-clause-ok
returns-clause-ok g c =
    let old = c.self.inside in
    pushed c.args.cell c.args.value c.len.result old.items.items c.push.new.self.items old.marks c.lower_mark.new.marks (c.len.ensures ∙ old.items.ok.0) c.in_ok-push.ensures.items c.lower_mark.ensures
    ∙ ap (λ s. Some (c.args.cell, c.args.value) ∷ standing s) c.self.view_is
