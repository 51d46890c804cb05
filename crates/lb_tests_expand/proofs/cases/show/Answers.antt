use Rattle.std.proofs.Common.{◌∙◌, [], ap}
use Rattle.lb_values.specs.Kept.{Kept}
use Rattle.lb_values.specs.declared.value.Value.{Value}
use Rattle.lb_model.specs.Stacked.{kinds_of}
use Rattle.lb_expand.specs.declared.desk.Desk.{Desk}
use Rattle.lb_tests_expand.proofs.Groups.{none-stand}
use Rattle.lb_tests_expand.proofs.cases.show.Goals as goal

pub run-ended-requires : goal.run-ended-requires
run-ended-requires c =
    λ p h.
    let kept : Kept Value = record { now = p.state; saves = [] } in
    none-stand c.over.result.desk.now.groups _ (ap (λ (d : Desk). kinds_of d.groups) c.over.ensures.desk ∙ c.in_ok-desk.ensures.groups p.world kept)
