use Rattle.std.proofs.Common.{◌≡◌, drop}
use Rattle.lb_tfm_make.specs.FontSpecs.{row_of}
use Rattle.lb_tfm_make.proofs.codes.row_of.Given as goal

abbrev pub invariant-loop-row : goal.invariant-loop-row
invariant-loop-row l = row_of (drop l.row-index l.rows) l.code ≡ row_of l.rows l.code
