use Rattle.std.proofs.Common.{[]}
use Rattle.lb_base.specs.declared.fault.Kind.TheVariants.{BadCode}
use Rattle.lb_model.specs.Assignments.{registered}
use Rattle.lb_model_nest.specs.Wholes.{change_or}
use Rattle.lb_engine.proofs.AssignLemmas.{assigns-on, assigns-fault, without-looks}
use Rattle.lb_engine.proofs.variables.set_variable.Goals as goal

pub returns-in-Ok : goal.returns-in-Ok
returns-in-Ok g c =
    let cell = c.args.cell.now in
    let v = c.args.value in
    record {
      goes = without-looks (change_or BadCode c.args.reach cell (registered cell v)) _
          (assigns-on g.C.Cells [] c.args.reach cell (λ w s. registered cell v) BadCode tt c.requires.holds c.in-Ok.ensures.assigns);
    }

pub returns-in-Err-Fault : goal.returns-in-Err-Fault
returns-in-Err-Fault g c =
    let cell = c.args.cell.now in
    let v = c.args.value in
    let k = c.in-Err-Fault.kind in
    record {
      goes = without-looks (change_or BadCode c.args.reach cell (registered cell v)) _
          (assigns-fault g.C.Cells [] c.args.reach cell (λ w s. registered cell v) BadCode k c.in-Err-Fault.field-0-is c.requires.holds c.in-Err-Fault.ensures.assigns);
    }
