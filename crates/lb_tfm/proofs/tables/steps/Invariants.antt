use Rattle.std.proofs.Common.{◌≡◌, ◌++◌, map}
use Rattle.lb_model_paper.specs.FontFiles.{first_kern, first_step, step_at, words}
use Rattle.lb_tfm.proofs.tables.steps.Given as goal

-- the steps from this word on are still to come
abbrev pub invariant-loop-word : goal.invariant-loop-word
invariant-loop-word l = l.list.items ++ map (step_at l.bytes l.counts l.size) (words l.word l.word-end) ≡ map (step_at l.bytes l.counts l.size) (words (first_step l.counts) (first_kern l.counts))
