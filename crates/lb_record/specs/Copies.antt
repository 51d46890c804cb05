-- What a small client of cells does: it copies the number of a count register into another.
use Rattle.std.specs.Prelude.{ℕ}
use Rattle.lb_values.specs.declared.cell.Cell.TheVariants.{Count}
use Rattle.lb_values.specs.declared.value.Value.TheVariants.{Number}
use Rattle.lb_values.specs.Kept.{put}
use Rattle.lb_model.specs.declared.world.World.{World}
use Rattle.lb_model.specs.Kinds.{number_of}
use Rattle.lb_model.specs.Settings.{State}

-- the state once the number is copied; a register without a value counts as 0
abbrev pub copied : ℕ → ℕ → State → State
copied from to s = put (Count to) (Number (number_of (s (Count from)))) s

-- the same in any world, without an answer
abbrev pub copying : ℕ → ℕ → World → State → Unit {0} × State
copying from to w s = (tt, copied from to s)
