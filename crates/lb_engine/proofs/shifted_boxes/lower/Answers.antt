use Rattle.lb_model_engine.specs.Boxes.{box_wanted, lower}
use Rattle.lb_model_engine.specs.Reads.{dimension}
use Rattle.lb_model_nest.specs.Wholes.{is_vertical, mode_of}
use Rattle.lb_model_nest.specs.declared.nest.BoxContext.TheVariants.{Shifted}
use Rattle.std.proofs.Common.{false, rules, true, ◌≡◌}
use Rattle.lb_engine.proofs.ModeLemmas.{mode-goes, mode-stops}
use Rattle.lb_engine.proofs.shifted_boxes.lower.Goals as goal

pub returns-then-is_vertical : goal.returns-then-is_vertical
unfolding lower
returns-then-is_vertical g c = let is : is_vertical (mode_of c.args.engine.now.nest.level.kind) ≡ true = search rules in record { goes = mode-stops g.C.Cells is_vertical (dimension (λ n v. box_wanted (Shifted n) v)) is c.requires.holds }

pub returns : goal.returns
unfolding lower
returns g c = let is : is_vertical (mode_of c.args.engine.now.nest.level.kind) ≡ false = search rules in record { goes = mode-goes is_vertical (dimension (λ n v. box_wanted (Shifted n) v)) c.lower_box.result is c.lower_box.ensures.goes }
