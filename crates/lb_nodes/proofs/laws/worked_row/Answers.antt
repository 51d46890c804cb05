use Rattle.std.proofs.Common.{◌≡◌, ℤ, pos, ◌+ℤ◌, ap}
use Rattle.lb_base.specs.declared.glue.Order.TheVariants.{Finite}
use Rattle.lb_base.specs.declared.node.HeadMark.TheOpen.{Glue}
use Rattle.lb_base.specs.declared.node.Node.{Node, out-Node}
use Rattle.lb_model_paper.specs.Boxes.{nearest, shift_behind}
use Rattle.lb_model_paper.specs.Nodes.{stretch_in, stretch_of}
use Rattle.lb_nodes.specs.Laws.{two_more, unit_stretch}
use Rattle.lb_nodes.proofs.laws.worked_row.Goals as goal

stretches : (node : Node) → out-Node node ≡ Glue unit_stretch → stretch_of Finite node ≡ pos 1
unfolding stretch_of
stretches node is = ap (stretch_in Finite) is

-- the shift where each node stretches by so much
abbrev whole : ℤ → ℤ
whole give = ((pos 0 +ℤ give) +ℤ give) +ℤ give

pub returns-clause-first : goal.returns-clause-first
unfolding shift_behind nearest
returns-clause-first c = λ node is. ap (λ (give : ℤ). shift_behind two_more (pos 0 +ℤ give) (whole give)) (stretches node is)

pub returns-clause-second : goal.returns-clause-second
unfolding shift_behind nearest
returns-clause-second c = λ node is. ap (λ (give : ℤ). shift_behind two_more ((pos 0 +ℤ give) +ℤ give) (whole give)) (stretches node is)

pub returns-clause-third : goal.returns-clause-third
unfolding shift_behind nearest
returns-clause-third c = λ node is. ap (λ (give : ℤ). shift_behind two_more (whole give) (whole give)) (stretches node is)
