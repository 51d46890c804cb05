-- How many items are in the parts of a discretionary.
use Rattle.std.specs.Prelude.{ℕ}
use Rattle.lb_base.specs.declared.node.Discretionary.{Discretionary, fold-Discretionary}
use Rattle.lb_model_paper.specs.Breaks.{count_in, count_of_parts}

abbrev pub count_of_disc : Discretionary → ℕ
count_of_disc = fold-Discretionary ℕ ℕ ℕ ℕ (λ _. 0) count_in (λ _. 0) count_of_parts
