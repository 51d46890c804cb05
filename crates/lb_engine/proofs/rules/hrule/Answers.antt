use Rattle.lb_engine.proofs.ModeLemmas.{mode-goes, mode-stops}
use Rattle.lb_engine.specs.Rules.{across}
use Rattle.lb_model_engine.specs.Items.{hrule, rule_sizes}
use Rattle.lb_model_nest.specs.Items.{rule_added}
use Rattle.lb_model_nest.specs.Paragraphs.{paragraph_ended}
use Rattle.lb_model_nest.specs.Wholes.{and_then, is_restricted, mode_of}
use Rattle.std.proofs.Common.{false, rules, true, ◌≡◌}
use Rattle.lb_engine.proofs.rules.hrule.Goals as goal

pub returns-then-is_restricted : goal.returns-then-is_restricted
unfolding hrule
returns-then-is_restricted g c = let is : is_restricted (mode_of c.args.engine.now.nest.level.kind) ≡ true = search rules in record { goes = mode-stops g.C.Cells is_restricted (λ w. and_then (paragraph_ended w) (λ v. rule_sizes across rule_added v)) is c.requires.holds }

pub returns : goal.returns
unfolding hrule
returns g c = let is : is_restricted (mode_of c.args.engine.now.nest.level.kind) ≡ false = search rules in record { goes = mode-goes is_restricted (λ w. and_then (paragraph_ended w) (λ v. rule_sizes across rule_added v)) c.rule_behind.result is c.rule_behind.ensures.goes }
