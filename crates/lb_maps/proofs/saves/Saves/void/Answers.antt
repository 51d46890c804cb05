use Rattle.std.proofs.Common.{◌∙◌, ap, map}
use Rattle.lb_values.specs.Kept.{void_save}
use Rattle.lb_maps.specs.Marked.{standing}
use Rattle.lb_maps.proofs.Saved.{held_now-put}
use Rattle.lb_maps.proofs.Marks.{voided}
use Rattle.lb_maps.proofs.saves.Saves.void.Goals as goal

pub returns : goal.returns
returns g c =
    let old = c.self.inside in
    let set = held_now-put 0 old.marks c.replace.new.self c.args.cell.now c.len.result c.replace.ensures in
    voided c.args.cell.now c.len.result old.items.items old.marks c.replace.new.self (c.len.ensures ∙ old.items.ok.0) set ∙ ap (λ s. map (void_save c.args.cell.now) (standing s)) c.self.view_is
