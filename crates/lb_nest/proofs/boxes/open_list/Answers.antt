use Rattle.lb_model.specs.declared.group.GroupKind.TheVariants.{Material}
use Rattle.lb_model_nest.specs.Boxes.{list_opened}
use Rattle.lb_model_nest.specs.Groups.{group_opened}
use Rattle.lb_model_nest.specs.Wholes.{entered, on}
use Rattle.lb_nest.proofs.LeadsLemmas.{leads-ended, leads-then}
use Rattle.lb_nest.proofs.WorksLemmas.{works-leads}
use Rattle.lb_nest.proofs.boxes.open_list.Goals as goal

pub returns-in-On : goal.returns-in-On
unfolding list_opened
returns-in-On g c =
    record {
      goes =
          λ left.
          let first = c.in_ok-went.ensures.goes left in
          leads-then (group_opened Material) (λ v. on (entered c.args.kind v)) c.enter.result c.in-On.is first (works-leads g.C.Cells c.enter.result first.keeps (c.enter.ensures.works left));
    }

pub returns-in_default : goal.returns-in_default
unfolding list_opened
returns-in_default g c =
    record { goes = λ left. leads-ended (group_opened Material) (λ v. on (entered c.args.kind v)) c.in_ok-went.went c.in_default.not-On (c.in_ok-went.ensures.goes left) }
