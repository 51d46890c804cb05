use Rattle.std.proofs.Common.{◌∙◌, Some, ap, sym}
use Rattle.lb_model.specs.declared.arith.Arith.TheVariants.{Advance}
use Rattle.lb_engine.proofs.RowLemmas.{act-is}
use Rattle.lb_engine.specs.Arithmetic.{worked_by}
use Rattle.lb_engine.proofs.ArithmeticLemmas.{may-advance-number}
use Rattle.lb_engine.proofs.arithmetic.advance.Goals as goal

pub work_by_number-requires : goal.work_by_number-requires
work_by_number-requires g c = record { operand = λ n. may-advance-number c.args.cell.now n (c.requires.kind ∙ ap Some c.in-Number.is); holds = c.requires.holds }

pub advance_by_dimension-requires : goal.advance_by_dimension-requires
advance_by_dimension-requires g c = record { kind = c.requires.kind ∙ ap Some c.in-Dimension.is; holds = c.requires.holds }

pub advance_by_glue-requires : goal.advance_by_glue-requires
advance_by_glue-requires g c = record { kind = c.requires.kind ∙ ap Some c.in-Glue.is; holds = c.requires.holds }

pub returns-in-Number : goal.returns-in-Number
returns-in-Number g c = record { goes = act-is (λ k. worked_by Advance c.args.reach k c.args.cell.now) c.work_by_number.result (sym c.in-Number.is) c.work_by_number.ensures.goes }

pub returns-in-Dimension : goal.returns-in-Dimension
returns-in-Dimension g c = record { goes = act-is (λ k. worked_by Advance c.args.reach k c.args.cell.now) c.advance_by_dimension.result (sym c.in-Dimension.is) c.advance_by_dimension.ensures.goes }

pub returns-in-Glue : goal.returns-in-Glue
returns-in-Glue g c = record { goes = act-is (λ k. worked_by Advance c.args.reach k c.args.cell.now) c.advance_by_glue.result (sym c.in-Glue.is) c.advance_by_glue.ensures.goes }
