use Rattle.std.proofs.Common.{◌≡◌, ◌++◌, map}
use Rattle.lb_model_paper.specs.FontFiles.{codes_from, metrics_for}
use Rattle.lb_tfm.proofs.tables.metrics.Given as goal

-- the entries of the codes from this one on are still to come
abbrev pub invariant-loop-code : goal.invariant-loop-code
invariant-loop-code l = l.list.items ++ map (metrics_for l.bytes l.counts l.size) (codes_from l.code) ≡ map (metrics_for l.bytes l.counts l.size) (codes_from 0)
