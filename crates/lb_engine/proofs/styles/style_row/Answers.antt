use Rattle.std.proofs.Common.{◌≡◌, of_z, rules, to_z, w32}
use Rattle.lb_engine.proofs.JoinLemmas.{leads-same}
use Rattle.lb_model_nest.specs.declared.turn.Went.TheVariants.{On}
use Rattle.std.proofs.Common.{refl}
use Rattle.lb_model_engine.specs.Counting.{style_row}
use Rattle.lb_model.specs.HeldNumbers.{held_of}
use Rattle.lb_base.specs.declared.fault.Kind.TheVariants.{BadCode}
use Rattle.lb_model_nest.specs.Wholes.{change_or}
use Rattle.lb_values.specs.declared.cell.Cell.TheVariants as cell
use Rattle.lb_values.specs.declared.reach.Reach.TheVariants.{Local}
use Rattle.lb_model_nest.specs.Wholes.{executed}
use Rattle.lb_engine.specs.Reads.{behind_reading}
use Rattle.lb_engine.proofs.JoinLemmas.{read-failed}
use Rattle.lb_engine.proofs.RowLemmas.{read-ends, read-then}
use Rattle.lb_engine.proofs.styles.style_row.Goals as goal

pub returns-in-Of : goal.returns-in-Of
unfolding style_row
returns-in-Of g c =
    let same : to_z w32 (of_z w32 c.in-Of.number) ≡ c.in-Of.number = search rules in
    record { goes = read-then (behind_reading (λ n v. change_or BadCode Local cell.Style (held_of cell.Style n) v)) c.set_number.result c.in-Of.is (c.in_ok-number.ensures.leads (λ n v. change_or BadCode Local cell.Style (held_of cell.Style n) v)) (leads-same (λ n. change_or BadCode Local cell.Style (held_of cell.Style n)) same c.set_number.ensures.goes) }

pub returns-in-Stops : goal.returns-in-Stops
unfolding style_row
returns-in-Stops g c = record { goes = read-ends (behind_reading (λ n v. change_or BadCode Local cell.Style (held_of cell.Style n) v)) executed c.in-Stops.went c.in-Stops.is refl (c.in_ok-number.ensures.leads (λ n v. change_or BadCode Local cell.Style (held_of cell.Style n) v)) }

pub returns-in_err-number : goal.returns-in_err-number
unfolding style_row
returns-in_err-number g c = record { goes = read-failed c.from_residual.result c.from_residual.ensures.0 (c.in_err-number.ensures.leads (λ n v. change_or BadCode Local cell.Style (held_of cell.Style n) v)) }

pub set_number-requires-clause-settable : goal.set_number-requires-clause-settable
set_number-requires-clause-settable g c = λ v. refl

pub set_number-requires-clause-holds : goal.set_number-requires-clause-holds
set_number-requires-clause-holds g c = (c.in_ok-number.ensures.leads (λ x v. executed On v)).keeps
