use Rattle.std.proofs.Common.{refl, subst}
use Rattle.lb_engine.specs.Names.{IsName}
use Rattle.lb_values.specs.declared.value.Value.TheVariants as value
use Rattle.lb_model_engine.specs.Definitions.{register_meaning, shorthand_row}
use Rattle.lb_model_engine.specs.Reads.{code, equals}
use Rattle.lb_model_nest.specs.declared.turn.Went.TheVariants.{On}
use Rattle.lb_model_nest.specs.Wholes.{Executed, Whole, change, executed}
use Rattle.lb_values.specs.declared.cell.Cell.{Cell}
use Rattle.lb_values.specs.declared.cell.RegisterKind.{RegisterKind}
use Rattle.lb_values.specs.declared.reach.Reach.{Reach}
use Rattle.std.specs.Prelude.{ℕ}
use Rattle.lb_engine.proofs.RowLemmas.{read-ends, read-fails, read-then}
use Rattle.lb_engine.specs.Reads.{behind_reading}
use Rattle.lb_engine.proofs.shorthands.shorthand.Goals as goal

-- the name is set
abbrev set : RegisterKind → Reach → Cell → ℕ → Whole → Executed
set kind reach name n x = change reach name (value.Meaning (register_meaning kind n)) x

-- its number is read
abbrev named : RegisterKind → Reach → Cell → Whole → Executed
named kind reach name v = equals (λ u. code (λ n x. set kind reach name n x) u) v

pub name_register-requires : goal.name_register-requires
name_register-requires g c =
    record { name = subst IsName c.in-Of.is c.in_ok-name.ensures.name; holds = (c.in_ok-name.ensures.leads (λ n. executed On)).keeps }

pub returns-in-Of : goal.returns-in-Of
unfolding shorthand_row
returns-in-Of g c =
    let row = named c.args.kind c.args.reach in
    record { goes = read-then (behind_reading row) c.name_register.result c.in-Of.is (c.in_ok-name.ensures.leads row) c.name_register.ensures.goes }

pub returns-in-Stops : goal.returns-in-Stops
unfolding shorthand_row
returns-in-Stops g c =
    let row = named c.args.kind c.args.reach in
    record { goes = read-ends (behind_reading row) executed c.in-Stops.went c.in-Stops.is refl (c.in_ok-name.ensures.leads row) }

pub returns-in_err-name : goal.returns-in_err-name
returns-in_err-name g c = record { goes = read-fails c.from_residual.result c.from_residual.ensures.0 (c.in_err-name.ensures.leads (named c.args.kind c.args.reach)) }
