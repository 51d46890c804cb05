use Rattle.std.proofs.Common.{◌∙◌, ap, reverse, sym}
use Rattle.std.specs.Prelude.{nat_eq}
use Rattle.std.proofs.lemmas.List.{length-reverse}
use Rattle.lb_groups.specs.Open.{is_open}
use Rattle.lb_groups.proofs.StackedLemmas.{open-length}
use Rattle.lb_groups.proofs.groups.Groups.is_open.Goals as goal

pub returns : goal.returns
returns c =
    let r = c.self.inside in
    open-length r.inner (reverse r.around.items) c.is_empty.result (c.is_empty.ensures ∙ ap (λ n. nat_eq n 0) (r.around.ok.0 ∙ sym (length-reverse r.around.items))) ∙ ap is_open c.self.view_is
