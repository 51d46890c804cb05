-- How deep boxes nest in some nodes of a list.
use Rattle.std.proofs.Common.{ℕ, List, map, drop}
use Rattle.lb_base.specs.declared.node.Node.{Node}
use Rattle.lb_model_paper.specs.Nodes.{most, nesting_of}

-- the most boxes that stand inside one another in the nodes from the k-th on
abbrev pub nesting_from : List Node → ℕ → ℕ
nesting_from nodes k = most (map nesting_of (drop k nodes))
