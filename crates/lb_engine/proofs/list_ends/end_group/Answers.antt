use Rattle.std.proofs.Common.{◌≡◌, ◌∙◌, List, [], ◌∷◌, ap, refl, sym}
use Rattle.lb_groups.specs.Open.{innermost as innermost_of}
use Rattle.lb_model.specs.declared.group.Group.{Group}
use Rattle.lb_model.specs.Stacked.{kinds_of}
use Rattle.lb_model_nest.specs.Boxes.{end_group, list_ended}
use Rattle.lb_model_nest.specs.Groups.{end_group_character, group_ended_as, innermost}
use Rattle.lb_engine.specs.Views.{whole}
use Rattle.lb_engine.proofs.LeadsLemmas.{leads-after, passes-engine}
use Rattle.lb_engine.proofs.list_ends.end_group.Goals as goal

same-innermost : (groups : List Group) → innermost (kinds_of groups) ≡ innermost_of groups
same-innermost [] = refl
same-innermost (g ∷ groups) = refl

pub returns : goal.returns
unfolding end_group end_group_character
returns g c =
    let C = g.C.Cells in
    let a = c.args in
    record {
      goes = leads-after c.end_as.result (λ p h. h)
          (passes-engine C a.cells.now refl (λ p. ap (λ k. group_ended_as k list_ended (whole p (C.meaning a.cells.now p) a.engine.now)) (same-innermost a.engine.now.desk.groups ∙ sym c.innermost-kind.ensures)))
          refl refl c.end_as.ensures.goes;
    }
