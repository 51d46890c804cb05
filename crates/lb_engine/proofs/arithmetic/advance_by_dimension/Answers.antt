use Rattle.std.proofs.Common.{FitsSigned, refl, rules, w32}
use Rattle.std.proofs.lemmas.Int.{to_z-of_z}
use Rattle.std.specs.Prelude.{ℤ}
use Rattle.lb_model_nest.specs.declared.turn.Went.TheVariants.{On}
use Rattle.lb_model_nest.specs.Wholes.{Executed, Whole, executed}
use Rattle.lb_model_grammar.specs.declared.given.Quantity.TheVariants as quantity
use Rattle.lb_model_engine.specs.Registers.{worked_out}
use Rattle.lb_engine.proofs.RowLemmas.{act-is, read-ends, read-fails, read-then}
use Rattle.lb_engine.specs.Reads.{behind_reading}
use Rattle.lb_model.specs.declared.arith.Arith.TheVariants.{Advance}
use Rattle.lb_engine.proofs.ArithmeticLemmas.{may-advance-dimension}
use Rattle.lb_engine.proofs.arithmetic.advance_by_dimension.Goals as goal

pub work_out-requires : goal.work_out-requires
work_out-requires g c = record { operand = may-advance-dimension c.args.cell.now _ c.requires.kind; holds = (c.in_ok-by.ensures.leads (λ n. executed On)).keeps }

pub returns-in-Of : goal.returns-in-Of
returns-in-Of g c =
    let row : ℤ → Whole → Executed = λ n v. worked_out Advance c.args.reach c.args.cell.now (quantity.Dimen n) v in
    let fits : FitsSigned w32 c.in-Of.by = search rules in
    record { goes = read-then (behind_reading row) c.work_out.result c.in-Of.is (c.in_ok-by.ensures.leads row) (act-is row c.work_out.result (to_z-of_z w32 c.in-Of.by fits) c.work_out.ensures.goes) }

pub returns-in-Stops : goal.returns-in-Stops
returns-in-Stops g c =
    let row : ℤ → Whole → Executed = λ n v. worked_out Advance c.args.reach c.args.cell.now (quantity.Dimen n) v in
    record { goes = read-ends (behind_reading row) executed c.in-Stops.went c.in-Stops.is refl (c.in_ok-by.ensures.leads row) }

pub returns-in_err-by : goal.returns-in_err-by
returns-in_err-by g c =
    let row : ℤ → Whole → Executed = λ n v. worked_out Advance c.args.reach c.args.cell.now (quantity.Dimen n) v in
    record { goes = read-fails c.from_residual.result c.from_residual.ensures.0 (c.in_err-by.ensures.leads row) }
