use Rattle.std.proofs.Common.{subst, sym}
use Rattle.lb_engine.proofs.RowLemmas.{act-is}
use Rattle.lb_engine.specs.Arithmetic.{IsOfKind, from_operand, worked_behind}
use Rattle.lb_engine.proofs.arithmetic.work_at.Goals as goal

pub work_named-requires : goal.work_named-requires
work_named-requires g c = record { kind = subst IsOfKind c.in-Named.is c.requires.kind; holds = c.requires.holds }

pub returns-in-Named : goal.returns-in-Named
returns-in-Named g c = record { goes = act-is (λ o. from_operand o (worked_behind c.args.op c.args.reach)) c.work_named.result (sym c.in-Named.is) c.work_named.ensures.goes }

pub returns-in-Picked : goal.returns-in-Picked
returns-in-Picked g c = record { goes = act-is (λ o. from_operand o (worked_behind c.args.op c.args.reach)) c.work_picked.result (sym c.in-Picked.is) c.work_picked.ensures.goes }
