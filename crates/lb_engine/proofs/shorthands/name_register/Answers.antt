use Rattle.std.proofs.Common.{refl}
use Rattle.lb_values.specs.declared.value.Value.TheVariants as value
use Rattle.lb_model_engine.specs.Definitions.{register_meaning}
use Rattle.lb_model_engine.specs.Reads.{code}
use Rattle.lb_model_nest.specs.declared.turn.Went.TheVariants.{On}
use Rattle.lb_model_nest.specs.Wholes.{Executed, Whole, change, executed}
use Rattle.lb_values.specs.declared.cell.Cell.{Cell}
use Rattle.lb_values.specs.declared.cell.RegisterKind.{RegisterKind}
use Rattle.lb_values.specs.declared.reach.Reach.{Reach}
use Rattle.std.specs.Prelude.{ℕ}
use Rattle.lb_engine.proofs.RowLemmas.{read-ends, read-fails, read-then}
use Rattle.lb_engine.specs.Reads.{behind_reading}
use Rattle.lb_engine.proofs.shorthands.name_register.Goals as goal

-- the name is set
abbrev set : RegisterKind → Reach → Cell → ℕ → Whole → Executed
set kind reach name n x = change reach name (value.Meaning (register_meaning kind n)) x

pub name_number-requires : goal.name_number-requires
name_number-requires g c = record { name = c.requires.name; holds = (c.in_ok-equals.ensures.leads (executed On)).keeps }

pub returns-in-Of : goal.returns-in-Of
returns-in-Of g c =
    let row : Whole → Executed = λ u. code (set c.args.kind c.args.reach c.args.name.now) u in
    record { goes = read-then (behind_reading (λ u. row)) c.name_number.result c.in-Of.is (c.in_ok-equals.ensures.leads row) c.name_number.ensures.goes }

pub returns-in-Stops : goal.returns-in-Stops
returns-in-Stops g c =
    let row : Whole → Executed = λ u. code (set c.args.kind c.args.reach c.args.name.now) u in
    record { goes = read-ends (behind_reading (λ u. row)) executed c.in-Stops.went c.in-Stops.is refl (c.in_ok-equals.ensures.leads row) }

pub returns-in_err-equals : goal.returns-in_err-equals
returns-in_err-equals g c =
    let row : Whole → Executed = λ u. code (set c.args.kind c.args.reach c.args.name.now) u in
    record { goes = read-fails c.from_residual.result c.from_residual.ensures.0 (c.in_err-equals.ensures.leads row) }
