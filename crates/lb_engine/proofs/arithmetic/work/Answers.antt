use Rattle.std.proofs.Common.{refl, sym}
use Rattle.lb_model_nest.specs.declared.turn.Went.TheVariants.{On}
use Rattle.lb_model_nest.specs.Wholes.{Executed, Whole, executed}
use Rattle.lb_engine.proofs.RowLemmas.{act-is, read-ends, read-fails, read-then}
use Rattle.lb_engine.specs.Reads.{behind_reading}
use Rattle.std.specs.Prelude.{Option}
use Rattle.lb_base.specs.declared.token.Tok.{Tok}
use Rattle.lb_values.specs.declared.meaning.Meaning.{Meaning}
use Rattle.lb_model_engine.specs.Registers.{arithmetic_row, operand_to}
use Rattle.lb_engine.specs.Arithmetic.{worked_behind}
use Rattle.lb_engine.proofs.arithmetic.work.Goals as goal

pub work_at-requires : goal.work_at-requires
work_at-requires g c = record { kind = c.operand_of-operand.ensures.kind; holds = (c.in_ok-_tok.ensures.leads (λ tok m. executed On)).keeps }

pub returns-in-Of : goal.returns-in-Of
unfolding arithmetic_row
returns-in-Of g c =
    let row : Tok → Option Meaning → Whole → Executed = λ tok m v. operand_to m (worked_behind c.args.op c.args.reach) v in
    record {
      goes = read-then (behind_reading (λ t. row t.0 t.1)) c.work_at.result c.in-Of.is (c.in_ok-_tok.ensures.leads row)
          (act-is (λ (act : Whole → Executed). act) c.work_at.result (λ i w. sym (c.operand_of-operand.ensures.operand (worked_behind c.args.op c.args.reach) w) i) c.work_at.ensures.goes);
    }

pub returns-in-Stops : goal.returns-in-Stops
unfolding arithmetic_row
returns-in-Stops g c =
    let row : Tok → Option Meaning → Whole → Executed = λ tok m v. operand_to m (worked_behind c.args.op c.args.reach) v in
    record { goes = read-ends (behind_reading (λ t. row t.0 t.1)) executed c.in-Stops.went c.in-Stops.is refl (c.in_ok-_tok.ensures.leads row) }

pub returns-in_err-_tok : goal.returns-in_err-_tok
unfolding arithmetic_row
returns-in_err-_tok g c =
    let row : Tok → Option Meaning → Whole → Executed = λ tok m v. operand_to m (worked_behind c.args.op c.args.reach) v in
    record { goes = read-fails c.from_residual.result c.from_residual.ensures.0 (c.in_err-_tok.ensures.leads row) }
