use Rattle.std.proofs.Common.{sym}
use Rattle.lb_engine.proofs.RowLemmas.{act-is}
use Rattle.lb_engine.specs.Arithmetic.{worked_by}
use Rattle.lb_engine.proofs.ArithmeticLemmas.{may-divide, may-multiply}
use Rattle.lb_engine.proofs.arithmetic.work_by.Goals as goal

pub work_by_number-requires : goal.work_by_number-requires
work_by_number-requires g c = record { operand = λ n. may-multiply c.args.cell.now c.args.kind n c.requires.kind; holds = c.requires.holds }

pub work_by_number-requires-in-Divide : goal.work_by_number-requires-in-Divide
work_by_number-requires-in-Divide g c = record { operand = λ n. may-divide c.args.cell.now c.args.kind n c.requires.kind; holds = c.requires.holds }

pub returns-in-Advance : goal.returns-in-Advance
returns-in-Advance g c = record { goes = act-is (λ o. worked_by o c.args.reach c.args.kind c.args.cell.now) c.advance.result (sym c.in-Advance.is) c.advance.ensures.goes }

pub returns-in-Multiply : goal.returns-in-Multiply
returns-in-Multiply g c = record { goes = act-is (λ o. worked_by o c.args.reach c.args.kind c.args.cell.now) c.work_by_number.result (sym c.in-Multiply.is) c.work_by_number.ensures.goes }

pub returns-in-Divide : goal.returns-in-Divide
returns-in-Divide g c = record { goes = act-is (λ o. worked_by o c.args.reach c.args.kind c.args.cell.now) c.work_by_number-in-Divide.result (sym c.in-Divide.is) c.work_by_number-in-Divide.ensures.goes }
