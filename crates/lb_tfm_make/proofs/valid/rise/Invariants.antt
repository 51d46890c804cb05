use Rattle.std.proofs.Common.{◌≡◌, drop}
use Rattle.lb_tfm_make.specs.FontSpecs.{rise_from}
use Rattle.lb_tfm_make.proofs.valid.rise.Given as goal

abbrev pub invariant-loop-row : goal.invariant-loop-row
invariant-loop-row l = rise_from l.low (drop l.row-index l.rows) ≡ rise_from 0 l.rows
