-- One size of a rule that is read, and what the size of the rule becomes by it.
use Rattle.std.specs.Prelude.{ℤ, codes, Option, Some, None}
use Rattle.lb_base.specs.declared.node.RuleSize.{RuleSize}
use Rattle.lb_model_engine.specs.Items.{size_if, with_rule_depth, with_rule_height, with_rule_width}
use Rattle.lb_model_engine.specs.Reads.{keyword}
use Rattle.lb_model_nest.specs.Wholes.{Executed, Whole}
use Rattle.lb_engine.specs.declared.rule_sizes.Given.{Given}
use Rattle.lb_engine.specs.declared.rule_sizes.Given.TheVariants as given
use Rattle.lb_engine.specs.declared.rule_sizes.Side.{Side}
use Rattle.lb_engine.specs.declared.rule_sizes.Side.TheVariants as side

abbrev pub with_side : Side → ℤ → RuleSize → RuleSize
with_side side.Width n size = with_rule_width n size
with_side side.Height n size = with_rule_height n size
with_side side.Depth n size = with_rule_depth n size

abbrev pub with_given : Given → RuleSize → Option RuleSize
with_given (given.Size side n) size = Some (with_side side n size)
with_given given.Nothing size = None

-- a size behind its keyword, if one comes
abbrev pub depth_read : (Given → Whole → Executed) → Whole → Executed
depth_read row w = keyword (codes "depth") (λ deep v. size_if deep (λ n x. row (given.Size side.Depth n) x) (row given.Nothing) v) w

abbrev pub height_read : (Given → Whole → Executed) → Whole → Executed
height_read row w = keyword (codes "height") (λ high v. size_if high (λ n x. row (given.Size side.Height n) x) (depth_read row) v) w

abbrev pub size_read : (Given → Whole → Executed) → Whole → Executed
size_read row w = keyword (codes "width") (λ wide v. size_if wide (λ n x. row (given.Size side.Width n) x) (height_read row) v) w
