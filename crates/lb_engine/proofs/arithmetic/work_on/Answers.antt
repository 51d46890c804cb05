use Rattle.std.proofs.Common.{refl}
use Rattle.lb_model_nest.specs.declared.turn.Went.TheVariants.{On}
use Rattle.lb_model_nest.specs.Wholes.{Executed, Whole, executed}
use Rattle.lb_engine.proofs.RowLemmas.{read-ends, read-fails, read-then}
use Rattle.lb_engine.specs.Reads.{behind_reading}
use Rattle.std.specs.Prelude.{Bool}
use Rattle.lb_engine.specs.Arithmetic.{worked_by}
use Rattle.lb_engine.proofs.arithmetic.work_on.Goals as goal

pub work_by-requires : goal.work_by-requires
work_by-requires g c = record { kind = c.requires.kind; holds = (c.in_ok-_found.ensures.leads (λ n. executed On)).keeps }

pub returns-in-Of : goal.returns-in-Of
returns-in-Of g c =
    let row : Bool → Whole → Executed = λ found x. worked_by c.args.op c.args.reach c.args.kind c.args.cell.now x in
    record { goes = read-then (behind_reading row) c.work_by.result c.in-Of.is (c.in_ok-_found.ensures.leads row) c.work_by.ensures.goes }

pub returns-in-Stops : goal.returns-in-Stops
returns-in-Stops g c =
    let row : Bool → Whole → Executed = λ found x. worked_by c.args.op c.args.reach c.args.kind c.args.cell.now x in
    record { goes = read-ends (behind_reading row) executed c.in-Stops.went c.in-Stops.is refl (c.in_ok-_found.ensures.leads row) }

pub returns-in_err-_found : goal.returns-in_err-_found
returns-in_err-_found g c =
    let row : Bool → Whole → Executed = λ found x. worked_by c.args.op c.args.reach c.args.kind c.args.cell.now x in
    record { goes = read-fails c.from_residual.result c.from_residual.ensures.0 (c.in_err-_found.ensures.leads row) }
