-- The sizes of a rule, one behind another.
use Rattle.std.proofs.Common.{◌≡◌, ◌∙◌, ap, refl, suc, ℕ}
use Rattle.std.specs.Prelude.{Option, Some, None}
use Rattle.lb_base.specs.declared.node.RuleSize.{RuleSize}
use Rattle.lb_model_engine.specs.Items.{rule_sizes, sizes_in}
use Rattle.lb_model_nest.specs.Wholes.{Executed, Whole}
use Rattle.lb_engine.specs.RuleSizes.{size_read, with_given, with_side}
use Rattle.lb_engine.specs.declared.rule_sizes.Given.{Given}
use Rattle.lb_engine.specs.declared.rule_sizes.Given.TheVariants as given
use Rattle.lb_engine.specs.declared.rule_sizes.Side.TheVariants as side

-- what is done with what is given
abbrev pub further : ℕ → RuleSize → (RuleSize → Whole → Executed) → Given → Whole → Executed
further n size row (given.Size side.Width x) v = sizes_in n (with_side side.Width x size) row v
further n size row (given.Size side.Height x) v = sizes_in n (with_side side.Height x size) row v
further n size row (given.Size side.Depth x) v = sizes_in n (with_side side.Depth x size) row v
further n size row given.Nothing v = row size v

-- the same, by what the size becomes
abbrev pub going : ℕ → (RuleSize → Whole → Executed) → RuleSize → Option RuleSize → Whole → Executed
going n row size (Some changed) v = sizes_in n changed row v
going n row size None v = row size v

by-given : (n : ℕ) (size : RuleSize) (row : RuleSize → Whole → Executed) (x : Given) (v : Whole) → further n size row x v ≡ going n row size (with_given x size) v
by-given n size row (given.Size side.Width x) v = refl
by-given n size row (given.Size side.Height x) v = refl
by-given n size row (given.Size side.Depth x) v = refl
by-given n size row given.Nothing v = refl

pub goes-on : (n : ℕ) (size : RuleSize) (row : RuleSize → Whole → Executed) (x : Given) (o : Option RuleSize) → with_given x size ≡ o → further n size row x ≡ going n row size o
goes-on n size row x o is = (λ i v. by-given n size row x v i) ∙ ap (going n row size) is

-- one turn
pub one-turn : (n : ℕ) (size : RuleSize) (row : RuleSize → Whole → Executed) → sizes_in (suc n) size row ≡ size_read (further n size row)
one-turn n size row = refl
