use Rattle.lb_model.specs.declared.group.GroupKind.TheVariants.{Material}
use Rattle.lb_model_nest.specs.Groups.{group_closed}
use Rattle.lb_nest.proofs.LeadsLemmas.{leads-behind}
use Rattle.lb_nest.specs.Views.{whole}
use Rattle.lb_nest.specs.declared.nest.Nest.{Nest}
use Rattle.std.proofs.Common.{ap, sym}
use Rattle.lb_nest.proofs.list_end.leave_list.Goals as goal

pub returns : goal.returns
returns g c =
    record {
      leads =
          λ left.
          leads-behind {mid = group_closed Material} c.close_group.result (λ w p k o. ap (λ (n : Nest). group_closed Material (whole w p k c.args.groups.now left n)) (sym c.leave-level.ensures.nest))
          (c.close_group.ensures.leads left);
    }
