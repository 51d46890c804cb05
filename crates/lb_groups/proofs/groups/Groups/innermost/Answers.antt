use Rattle.std.proofs.Common.{◌∙◌, ap, reverse, sym}
use Rattle.std.specs.Prelude.{nat_eq}
use Rattle.std.proofs.lemmas.List.{length-reverse}
use Rattle.lb_groups.specs.Open.{innermost}
use Rattle.lb_groups.proofs.StackedLemmas.{innermost-of}
use Rattle.lb_groups.proofs.groups.Groups.innermost.Goals as goal

pub returns : goal.returns
returns c =
    let r = c.self.inside in
    innermost-of r.inner (reverse r.around.items) c.is_empty.result (c.is_empty.ensures ∙ ap (λ n. nat_eq n 0) (r.around.ok.0 ∙ sym (length-reverse r.around.items))) c.if-is_empty.false
    ∙ ap innermost c.self.view_is
