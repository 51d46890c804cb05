use Rattle.std.proofs.Common.{◌≡◌, ◌≢◌, ◌<◌, [], get_or, ℕ}
use Rattle.lb_rows.proofs.rows.Rows.find.Given as goal

-- no row before the place has the name
abbrev pub invariant-loop-place : goal.invariant-loop-place
invariant-loop-place g l = (k : ℕ) → k < l.place → get_or l.self k [] ≢ l.name
