-- The sizes of rules for which nothing is given.
use Rattle.std.specs.Prelude.{pos, Some, None}
use Rattle.lb_base.specs.declared.node.RuleSize.{RuleSize}
use Rattle.lb_model_nest.specs.Items.{rule_thickness}

-- as wide as its box
abbrev pub across : RuleSize
across = record { width = None; height = Some rule_thickness; depth = Some (pos 0) }

-- as high and as deep as its box
abbrev pub upright : RuleSize
upright = record { width = Some rule_thickness; height = None; depth = None }
