use Rattle.std.proofs.Common.{◌≡◌, of_z, rules, to_z, w32}
use Rattle.lb_engine.proofs.JoinLemmas.{leads-same}
use Rattle.std.proofs.Common.{refl}
use Rattle.lb_model_engine.specs.Counting.{baselines_set, size_row}
use Rattle.lb_model.specs.HeldNumbers.{held_of}
use Rattle.lb_base.specs.declared.fault.Kind.TheVariants.{BadCode}
use Rattle.lb_model_nest.specs.Wholes.{and_then, change_or}
use Rattle.lb_values.specs.declared.cell.Cell.TheVariants as cell
use Rattle.lb_values.specs.declared.reach.Reach.TheVariants.{Local}
use Rattle.lb_model_nest.specs.declared.turn.Went.TheVariants.{On}
use Rattle.lb_model_nest.specs.Wholes.{executed}
use Rattle.lb_engine.specs.Reads.{behind_reading}
use Rattle.lb_engine.proofs.JoinLemmas.{read-failed}
use Rattle.lb_engine.proofs.RowLemmas.{read-ends, read-then}
use Rattle.lb_engine.proofs.styles.size_row.Goals as goal

pub set_size-requires : goal.set_size-requires
set_size-requires g c = record { holds = (c.in_ok-size.ensures.leads (λ x v. executed On v)).keeps }

pub returns-in-Of : goal.returns-in-Of
unfolding size_row
returns-in-Of g c =
    let same : to_z w32 (of_z w32 c.in-Of.size) ≡ c.in-Of.size = search rules in
    record { goes = read-then (behind_reading (λ n v. and_then (change_or BadCode Local cell.Size (held_of cell.Size n) v) (baselines_set n))) c.set_size.result c.in-Of.is (c.in_ok-size.ensures.leads (λ n v. and_then (change_or BadCode Local cell.Size (held_of cell.Size n) v) (baselines_set n))) (leads-same (λ n v. and_then (change_or BadCode Local cell.Size (held_of cell.Size n) v) (baselines_set n)) same c.set_size.ensures.goes) }

pub returns-in-Stops : goal.returns-in-Stops
unfolding size_row
returns-in-Stops g c = record { goes = read-ends (behind_reading (λ n v. and_then (change_or BadCode Local cell.Size (held_of cell.Size n) v) (baselines_set n))) executed c.in-Stops.went c.in-Stops.is refl (c.in_ok-size.ensures.leads (λ n v. and_then (change_or BadCode Local cell.Size (held_of cell.Size n) v) (baselines_set n))) }

pub returns-in_err-size : goal.returns-in_err-size
unfolding size_row
returns-in_err-size g c = record { goes = read-failed c.from_residual.result c.from_residual.ensures.0 (c.in_err-size.ensures.leads (λ n v. and_then (change_or BadCode Local cell.Size (held_of cell.Size n) v) (baselines_set n))) }
