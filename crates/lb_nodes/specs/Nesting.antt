-- How many boxes stand inside one another in the parts of a discretionary and in a mark.
use Rattle.std.specs.Prelude.{ℕ}
use Rattle.lb_base.specs.declared.node.Discretionary.{Discretionary, fold-Discretionary}
use Rattle.lb_base.specs.declared.node.HeadMark.{HeadMark, fold-HeadMark}
use Rattle.lb_model_paper.specs.Nodes.{box_nesting, mark_nesting, nesting_in, parts_nesting}

abbrev pub nesting_of_parts : Discretionary → ℕ
nesting_of_parts = fold-Discretionary ℕ ℕ ℕ ℕ mark_nesting nesting_in box_nesting parts_nesting

abbrev pub nesting_of_mark : HeadMark → ℕ
nesting_of_mark = fold-HeadMark ℕ ℕ ℕ ℕ mark_nesting nesting_in box_nesting parts_nesting
