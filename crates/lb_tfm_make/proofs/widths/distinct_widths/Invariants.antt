use Rattle.std.proofs.Common.{◌≡◌, drop}
use Rattle.lb_tfm_make.specs.FontBytes.{distinct_widths, widths_through}
use Rattle.lb_tfm_make.proofs.widths.distinct_widths.Given as goal

abbrev pub invariant-loop-row : goal.invariant-loop-row
invariant-loop-row l = widths_through l.widths.items (drop l.row-index l.rows) ≡ distinct_widths l.rows
