use Rattle.std.proofs.Common.{◌∙◌, ap, length, reverse, sym}
use Rattle.std.proofs.lemmas.List.{length-reverse}
use Rattle.lb_cond.proofs.Opened.{length_of}
use Rattle.lb_cond.proofs.state.CondState.count.Goals as goal

pub returns : goal.returns
returns c =
    let r = c.self.inside in
    c.len.ensures ∙ r.around.ok.0 ∙ sym (length-reverse r.around.items) ∙ sym (length_of r.inner (reverse r.around.items)) ∙ ap length c.self.view_is
