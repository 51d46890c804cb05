use Rattle.std.proofs.Common.{◌∷◌, []}
use Rattle.lb_base.specs.declared.fault.Kind.TheVariants.{Overflow}
use Rattle.lb_model.specs.Assignments.{arithmetic_at}
use Rattle.lb_model.specs.Settings.{look}
use Rattle.lb_engine.proofs.AssignLemmas.{assigns-on, assigns-fault}
use Rattle.lb_engine.proofs.variables.work_out.Goals as goal

pub returns-in-Ok : goal.returns-in-Ok
returns-in-Ok g c =
    let cell = c.args.cell.now in
    record {
      goes = assigns-on g.C.Cells (cell ∷ []) c.args.reach cell (λ w s. arithmetic_at c.args.op cell (look w s cell) c.args.by) Overflow tt c.requires.holds c.in-Ok.ensures.assigns;
    }

pub returns-in-Err-Fault : goal.returns-in-Err-Fault
returns-in-Err-Fault g c =
    let cell = c.args.cell.now in
    let k = c.in-Err-Fault.kind in
    record {
      goes = assigns-fault g.C.Cells (cell ∷ []) c.args.reach cell (λ w s. arithmetic_at c.args.op cell (look w s cell) c.args.by) Overflow k c.in-Err-Fault.field-0-is c.requires.holds c.in-Err-Fault.ensures.assigns;
    }
