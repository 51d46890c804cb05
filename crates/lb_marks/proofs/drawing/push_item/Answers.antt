use Rattle.std.proofs.Common.{◌≡◌, ◌∙◌, ap, refl, rules, to_z, of_z, w32}
use Rattle.lb_model_paper.specs.Marks.{Spot}
use Rattle.lb_marks.specs.Spots.{baseline_of_char, spot_of}
use Rattle.lb_marks.proofs.MarkLists.{char_same}
use Rattle.lb_marks.proofs.drawing.push_item.Goals as goal

pub returns-clause-ok : goal.returns-clause-ok
returns-clause-ok c =
    let height : to_z w32 (of_z w32 c.args.metrics.height) ≡ c.args.metrics.height = search rules in
    let at : spot_of c.in_ok-spot.spot ≡ baseline_of_char c.args.axis (spot_of c.args.begin) c.args.metrics.height = c.in_ok-spot.ensures.ok ∙ ap (baseline_of_char c.args.axis (spot_of c.args.begin)) height in
    c.in_ok-push_char.ensures.ok ∙ char_same c.args.marks.now _ _ _ _ c.args.font.now _ _ _ c.args.metrics.width (ap (λ (s : Spot). s.h) at) (ap (λ (s : Spot). s.v) at) refl (search rules)
