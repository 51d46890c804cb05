use Rattle.lb_model_nest.specs.Boxes.{list_ended_as}
use Rattle.lb_nest.proofs.FailedLemmas.{works-behind}
use Rattle.lb_nest.specs.Views.{whole}
use Rattle.std.proofs.Common.{ap}
use Rattle.lb_nest.proofs.list_end.take_as.Goals as goal

pub returns-in-Box : goal.returns-in-Box
returns-in-Box c =
    record { works = λ left. works-behind c.take_packed.result (λ w p k g. ap (λ kind. list_ended_as kind (whole w p k g left c.args.nest.now)) c.in-Box.is) (c.take_packed.ensures.works left) }

pub returns-in-Footnote : goal.returns-in-Footnote
returns-in-Footnote c =
    record { works = λ left. works-behind c.take_packed-in-Footnote.result (λ w p k g. ap (λ kind. list_ended_as kind (whole w p k g left c.args.nest.now)) c.in-Footnote.is) (c.take_packed-in-Footnote.ensures.works left) }

pub returns-in-MarkBox : goal.returns-in-MarkBox
returns-in-MarkBox c =
    record { works = λ left. works-behind c.take_packed-in-MarkBox.result (λ w p k g. ap (λ kind. list_ended_as kind (whole w p k g left c.args.nest.now)) c.in-MarkBox.is) (c.take_packed-in-MarkBox.ensures.works left) }
