use Rattle.std.proofs.Common.{refl}
use Rattle.lb_model_nest.specs.declared.turn.Went.TheVariants.{On}
use Rattle.lb_model_nest.specs.Wholes.{Executed, Whole, executed}
use Rattle.lb_engine.proofs.RowLemmas.{act-is, read-ends, read-fails, read-then}
use Rattle.lb_engine.specs.Reads.{behind_reading}
use Rattle.std.specs.Prelude.{ℕ}
use Rattle.lb_engine.specs.Arithmetic.{numbered, worked_behind}
use Rattle.lb_engine.proofs.arithmetic.work_picked.Goals as goal

pub work_on-requires : goal.work_on-requires
work_on-requires g c = record { kind = c.numbered-cell.ensures.kind; holds = (c.in_ok-number.ensures.leads (λ n. executed On)).keeps }

pub returns-in-Of : goal.returns-in-Of
returns-in-Of g c =
    let row : ℕ → Whole → Executed = λ n v. worked_behind c.args.op c.args.reach c.args.kind (numbered c.args.kind n) v in
    record { goes = read-then (behind_reading row) c.work_on.result c.in-Of.is (c.in_ok-number.ensures.leads row) (act-is (worked_behind c.args.op c.args.reach c.args.kind) c.work_on.result c.numbered-cell.ensures.cell c.work_on.ensures.goes) }

pub returns-in-Stops : goal.returns-in-Stops
returns-in-Stops g c =
    let row : ℕ → Whole → Executed = λ n v. worked_behind c.args.op c.args.reach c.args.kind (numbered c.args.kind n) v in
    record { goes = read-ends (behind_reading row) executed c.in-Stops.went c.in-Stops.is refl (c.in_ok-number.ensures.leads row) }

pub returns-in_err-number : goal.returns-in_err-number
returns-in_err-number g c =
    let row : ℕ → Whole → Executed = λ n v. worked_behind c.args.op c.args.reach c.args.kind (numbered c.args.kind n) v in
    record { goes = read-fails c.from_residual.result c.from_residual.ensures.0 (c.in_err-number.ensures.leads row) }
