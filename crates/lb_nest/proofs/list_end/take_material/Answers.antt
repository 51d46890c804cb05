use Rattle.lb_model_nest.specs.Boxes.{list_ended_as}
use Rattle.lb_nest.proofs.FailedLemmas.{works-behind}
use Rattle.lb_nest.specs.Views.{whole}
use Rattle.std.proofs.Common.{ap, sym}
use Rattle.lb_nest.proofs.list_end.take_material.Goals as goal

pub returns : goal.returns
returns c =
    record { works = λ left. works-behind c.take_as.result (λ w p k g. ap (λ kind. list_ended_as kind (whole w p k g left c.args.nest.now)) (sym c.kind-kind.ensures)) (c.take_as.ensures.works left) }
