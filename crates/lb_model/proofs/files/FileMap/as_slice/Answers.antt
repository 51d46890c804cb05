use Rattle.std.proofs.Common.{sym, ◌∙◌}
use Rattle.lb_model.proofs.Places.{entries_are}
use Rattle.lb_model.proofs.files.FileMap.as_slice.Goals as goal

pub returns : goal.returns
returns c = c.as_slice.ensures.value ∙ sym (entries_are _ _ c.self.invariant c.self.view_is)
