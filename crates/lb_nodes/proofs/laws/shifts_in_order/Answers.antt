use Rattle.lb_base.specs.declared.node.Boxed.{out-Boxed}
use Rattle.lb_nodes.proofs.Shifting.{shift_behind-no_part}
use Rattle.lb_nodes.proofs.laws.shifts_in_order.Goals as goal

pub returns-clause-first : goal.returns-clause-first
returns-clause-first c = λ box. shift_behind-no_part (out-Boxed box).glue_set _
