use Rattle.lb_engine.proofs.ModeLemmas.{mode-goes, mode-stops}
use Rattle.lb_model_engine.specs.Items.{vskip}
use Rattle.lb_model_engine.specs.Reads.{glue}
use Rattle.lb_model_nest.specs.Items.{glue_added}
use Rattle.lb_model_nest.specs.Paragraphs.{paragraph_ended}
use Rattle.lb_model_nest.specs.Wholes.{and_then, is_restricted, mode_of}
use Rattle.std.proofs.Common.{false, rules, true, ◌≡◌}
use Rattle.lb_engine.proofs.skips.vskip.Goals as goal

pub returns-then-is_restricted : goal.returns-then-is_restricted
unfolding vskip
returns-then-is_restricted g c = let is : is_restricted (mode_of c.args.engine.now.nest.level.kind) ≡ true = search rules in record { goes = mode-stops g.C.Cells is_restricted (λ w. and_then (paragraph_ended w) (λ v. glue glue_added v)) is c.requires.holds }

pub returns : goal.returns
unfolding vskip
returns g c = let is : is_restricted (mode_of c.args.engine.now.nest.level.kind) ≡ false = search rules in record { goes = mode-goes is_restricted (λ w. and_then (paragraph_ended w) (λ v. glue glue_added v)) c.skip_behind.result is c.skip_behind.ensures.goes }
