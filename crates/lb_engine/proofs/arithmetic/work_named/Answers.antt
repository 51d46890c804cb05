use Rattle.std.proofs.Common.{◌∙◌, ap}
use Rattle.lb_model.specs.Assignments.{arithmetic_kind}
use Rattle.lb_engine.proofs.RowLemmas.{act-is}
use Rattle.lb_engine.specs.Arithmetic.{worked_behind}
use Rattle.lb_engine.proofs.arithmetic.work_named.Goals as goal

pub work_on-requires : goal.work_on-requires
work_on-requires g c = record { kind = ap arithmetic_kind c.cell-cell.ensures ∙ c.requires.kind; holds = c.requires.holds }

pub returns : goal.returns
returns g c = record { goes = act-is (worked_behind c.args.op c.args.reach c.args.kind) c.work_on.result c.cell-cell.ensures c.work_on.ensures.goes }
