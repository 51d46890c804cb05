use Rattle.std.proofs.Common.{◌≡◌, drop}
use Rattle.lb_tfm_make.specs.FontSpecs.{are_fix_widths}
use Rattle.lb_tfm_make.proofs.valid.are_fix_widths.Given as goal

abbrev pub invariant-loop-row : goal.invariant-loop-row
invariant-loop-row l = are_fix_widths (drop l.row-index l.rows) ≡ are_fix_widths l.rows
