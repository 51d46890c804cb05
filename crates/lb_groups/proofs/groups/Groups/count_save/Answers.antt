use Rattle.std.proofs.Common.{◌∙◌, ap, reverse, subst, sym}
use Rattle.lb_groups.specs.Open.{HasRoom, one_more}
use Rattle.lb_groups.proofs.StackedLemmas.{groups_of-one_more}
use Rattle.lb_groups.proofs.groups.Groups.count_save.Goals as goal

pub returns : goal.returns
returns c =
    let r = c.self.inside in
    groups_of-one_more r.inner c.saturating_add-self-inside.result (reverse r.around.items) c.saturating_add-self-inside.ensures (subst HasRoom (sym c.self.view_is) c.requires)
    ∙ ap one_more c.self.view_is
