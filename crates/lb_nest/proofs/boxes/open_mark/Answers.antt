use Rattle.std.proofs.Common.{ap}
use Rattle.lb_model_nest.specs.Boxes.{mark_box_opened, mark_opened}
use Rattle.lb_model_nest.specs.Wholes.{Executed}
use Rattle.lb_nest.proofs.LeadsLemmas.{leads-behind}
use Rattle.lb_nest.proofs.WorksLemmas.{keeps-shelf}
use Rattle.lb_nest.proofs.boxes.open_mark.Goals as goal

pub open_mark_box-requires : goal.open_mark_box-requires
open_mark_box-requires g c = record { keeps = λ p h. keeps-shelf {old = c.args.nest.now} (c.in_ok-enter.ensures.works 0).shelf (c.requires.keeps p h) }

pub returns : goal.returns
unfolding mark_opened
returns g c =
    record {
      goes =
          λ left.
          leads-behind c.open_mark_box.result (λ w p k o. ap (λ (e : Executed). mark_box_opened c.args.is_last e.done.next) ((c.in_ok-enter.ensures.works left).works w p k c.args.groups.now))
          (c.open_mark_box.ensures.goes left);
    }
