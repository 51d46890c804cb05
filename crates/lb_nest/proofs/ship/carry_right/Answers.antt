use Rattle.std.proofs.Common.{rules, ◌≡◌, Some}
use Rattle.lb_values.specs.declared.cell.Cell.TheVariants.{RightMark}
use Rattle.lb_model_nest.specs.Pages.{mark_carried}
use Rattle.lb_nest.proofs.LeadsLemmas.{leads-as}
use Rattle.lb_nest.proofs.ship.carry_right.Goals as goal

pub returns-in-Some : goal.returns-in-Some
returns-in-Some g c =
    let is : c.args.mark ≡ Some c.in-Some.boxed = search rules in
    record { goes = λ left. leads-as (mark_carried RightMark) c.change.result is (c.change.ensures.goes left) }
