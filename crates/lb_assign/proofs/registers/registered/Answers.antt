use Rattle.std.proofs.Common.{rules, ◌≡◌}
use Rattle.lb_values.specs.declared.value.Value.TheVariants as value
use Rattle.lb_model.specs.Assignments.{registered}
use Rattle.lb_assign.proofs.Registered.{held_may}
use Rattle.lb_assign.proofs.registers.registered.Goals as goal

pub returns-in-Number-clause-may : goal.returns-in-Number-clause-may
returns-in-Number-clause-may c =
    let held : c.held.result ≡ registered c.args.cell.now (value.Number c.in-Number.number) = search rules in
    held_may c.args.cell.now (value.Number c.in-Number.number) c.args.value c.held.result c.numbers_are_held.ensures.fits c.numbers_are_held.ensures.number c.in-Number.is c.requires.takes held

pub returns-in-Dimen-clause-may : goal.returns-in-Dimen-clause-may
returns-in-Dimen-clause-may c =
    let held : c.held-in-Dimen.result ≡ registered c.args.cell.now (value.Dimen c.in-Dimen.number) = search rules in
    held_may c.args.cell.now (value.Dimen c.in-Dimen.number) c.args.value c.held-in-Dimen.result c.numbers_are_held.ensures.fits c.numbers_are_held.ensures.number c.in-Dimen.is c.requires.takes held
