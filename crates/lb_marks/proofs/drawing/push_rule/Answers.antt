use Rattle.std.proofs.Common.{◌≡◌, ◌+ℤ◌, rules, to_z, of_z, w32, w64}
use mir.Syntax.{w128}
use Rattle.lb_marks.proofs.MarkLists.{rule_stop}
use Rattle.lb_marks.proofs.drawing.push_rule.Goals as goal

pub returns-clause-stop : goal.returns-clause-stop
returns-clause-stop c =
    let h : to_z w128 (of_z w128 c.args.spot.h) ≡ c.args.spot.h = search rules in
    let v : to_z w128 (of_z w128 c.in_ok-v.v) ≡ c.args.spot.v +ℤ c.args.size.depth = search rules in
    let height : to_z w64 (of_z w64 c.height_of.result) ≡ c.args.size.height +ℤ c.args.size.depth = search rules in
    let width : to_z w32 (of_z w32 c.args.size.width) ≡ c.args.size.width = search rules in
    rule_stop c.push_rule_at.result _ _ _ _ _ _ _ _ c.push_rule_at.ensures.stop h v height width
