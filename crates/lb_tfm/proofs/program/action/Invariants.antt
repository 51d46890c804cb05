use Rattle.std.proofs.Common.{◌≡◌, ◌-◌, length}
use Rattle.lb_model_paper.specs.Fonts.{action_for, program}
use Rattle.lb_tfm.proofs.program.action.Given as goal

-- what the rest of the program says is what the whole of it says
abbrev pub invariant-loop-place : goal.invariant-loop-place
invariant-loop-place l = action_for (program l.steps l.place) l.code ≡ action_for (program l.steps l.fn.start) l.code

abbrev pub decreases-loop-place : goal.decreases-loop-place
decreases-loop-place l = length l.steps - l.place
