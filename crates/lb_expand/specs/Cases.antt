-- Where `\ifcase` of a number goes on.
use Rattle.lb_model.specs.declared.open.Conditional.TheVariants.{Case}
use Rattle.lb_model.specs.Conditionals.{decided_as}
use Rattle.lb_model.specs.Configs.{Config}
use Rattle.lb_model_expansion.specs.Expansion.{skipped_case, with_conditionals}
use Rattle.lb_model_expansion.specs.Steps.{Performed, on}
use Rattle.lb_expand.specs.declared.conditionals.CaseTurn.{CaseTurn}
use Rattle.lb_expand.specs.declared.conditionals.CaseTurn.TheVariants.{First, Past}

-- the first part is read, or text is skipped past so many `\or`, or where that is 0 past all of them
abbrev pub case_turned : CaseTurn → Config → Performed
case_turned First = λ c. on (with_conditionals (decided_as Case c.conditionals) c)
case_turned (Past count) = skipped_case count
