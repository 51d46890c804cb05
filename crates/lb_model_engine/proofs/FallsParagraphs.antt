-- No paragraph leaves more steps than there were.
use Rattle.std.proofs.Common.{◌≡◌, ℕ, ◌+◌, Bool, List, [], ◌∷◌, arith, refl}
use Rattle.std.specs.Prelude.{Result}
use Rattle.lb_base.specs.declared.fault.Kind.{Kind}
use Rattle.lb_base.specs.declared.node.Node.{Node}
use Rattle.lb_base.specs.declared.node.Boxed.{Boxed}
use Rattle.lb_model_paper.specs.declared.paragraph.BreakEnd.{BreakEnd}
use Rattle.lb_model_paper.specs.declared.paragraph.BreakList.{BreakList}
use Rattle.lb_model_paper.specs.declared.paragraph.Shape.{Shape}
use Rattle.lb_model_nest.specs.declared.nest.ListKind.{ListKind}
use Rattle.lb_model_nest.specs.Paragraphs.{begun_in_vertical, box_added, broken, ended_in, line_added, line_logged, lines_added, lines_logged, lines_placed, paragraph_begun, paragraph_ended}
use Rattle.lb_model_nest.specs.Wholes.{Whole}
use Rattle.lb_model_engine.specs.StepsLeft.{NeverRise as Falls}
use Rattle.lb_model_engine.proofs.FallsPages.{added-falls, all_added-falls, and_then-falls}

pub box_added-falls : (box : Boxed) → Falls (box_added box)
unfolding box_added
box_added-falls box w = grind (arith, all_added-falls)

paragraph_begun-falls : (indent : Bool) → Falls (paragraph_begun indent)
unfolding paragraph_begun
paragraph_begun-falls indent w = grind (arith, added-falls)

pub begun-falls : (indent : Bool) → Falls (begun_in_vertical indent)
unfolding begun_in_vertical
begun-falls indent w = grind (arith, paragraph_begun-falls)

lines_logged-same : (shape : Shape) (nodes : List Node) (i : ℕ) (ends : List BreakEnd) (w : Whole) → (lines_logged shape nodes i ends w).feed.left ≡ w.feed.left
lines_logged-same shape nodes i [] w = refl
lines_logged-same shape nodes i (end ∷ ends) w =
    let h = lines_logged-same shape nodes (end.item + 1) ends (line_logged shape nodes i end w) in grind (arith, h)

line_added-falls : (line : Result (List Node) Kind) → Falls (line_added line)
line_added-falls line w = grind (arith, added-falls, all_added-falls, box_added-falls)

lines_added-falls : (shape : Shape) (nodes : List Node) (i : ℕ) (ends : List BreakEnd) → Falls (lines_added shape nodes i ends)
unfolding lines_added
lines_added-falls shape nodes i [] w = omega arith
lines_added-falls shape nodes i (end ∷ ends) w =
    and_then-falls w.feed.left _ (lines_added shape nodes (end.item + 1) ends) (lines_added-falls shape nodes (end.item + 1) ends) (line_added-falls _ w)

lines_placed-falls : (lines : Result (List Node) Kind) (shape : Shape) (nodes : List Node) (ends : List BreakEnd) → Falls (lines_placed lines shape nodes ends)
lines_placed-falls lines shape nodes ends w = grind (arith, lines_logged-same, lines_added-falls)

broken-falls : (breaks : Result BreakList Kind) (shape : Shape) (nodes : List Node) → Falls (broken breaks shape nodes)
broken-falls breaks shape nodes w = grind (arith, lines_placed-falls)

ended_in-falls : (kind : ListKind) → Falls (ended_in kind)
ended_in-falls kind w = grind (arith, broken-falls)

pub paragraph_ended-falls : Falls paragraph_ended
unfolding paragraph_ended
paragraph_ended-falls w = ended_in-falls w.level.kind w
