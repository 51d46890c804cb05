-- The numbers of a glue, as the code keeps them.
use Rattle.lb_base.specs.declared.glue.Glue.{Glue}
use Rattle.lb_model.specs.Assignments.{shrink_of, stretch_of}
use Rattle.lb_assign.specs.declared.sums.Sums.{Sums}

abbrev pub sums_of : Glue → Sums
sums_of g = record { width = g.width; stretch = stretch_of g; shrink = shrink_of g }
