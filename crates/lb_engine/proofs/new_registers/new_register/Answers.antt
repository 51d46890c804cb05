use Rattle.std.proofs.Common.{subst}
use Rattle.lb_model_nest.specs.declared.turn.Went.TheVariants.{On}
use Rattle.lb_engine.specs.Names.{IsName}
use Rattle.std.proofs.Common.{refl}
use Rattle.lb_model_engine.specs.NewNames.{fresh_named, new_register}
use Rattle.lb_engine.specs.Looks.{look_at}
use Rattle.lb_model.specs.Kinds.{number_of}
use Rattle.lb_values.specs.declared.cell.Cell.TheVariants as cell
use Rattle.lb_model_nest.specs.Wholes.{executed}
use Rattle.lb_engine.specs.Reads.{behind_reading}
use Rattle.lb_engine.proofs.JoinLemmas.{read-failed}
use Rattle.lb_engine.proofs.RowLemmas.{read-ends, read-then}
use Rattle.lb_engine.proofs.new_registers.new_register.Goals as goal

pub returns-in-Of : goal.returns-in-Of
unfolding new_register
returns-in-Of g c = record { goes = read-then (behind_reading (λ name v. look_at (cell.Fresh c.args.kind) number_of (fresh_named c.args.kind name) v)) c.name_fresh.result c.in-Of.is (c.in_ok-name.ensures.leads (λ name v. look_at (cell.Fresh c.args.kind) number_of (fresh_named c.args.kind name) v)) c.name_fresh.ensures.goes }

pub returns-in-Stops : goal.returns-in-Stops
unfolding new_register
returns-in-Stops g c = record { goes = read-ends (behind_reading (λ name v. look_at (cell.Fresh c.args.kind) number_of (fresh_named c.args.kind name) v)) executed c.in-Stops.went c.in-Stops.is refl (c.in_ok-name.ensures.leads (λ name v. look_at (cell.Fresh c.args.kind) number_of (fresh_named c.args.kind name) v)) }

pub returns-in_err-name : goal.returns-in_err-name
unfolding new_register
returns-in_err-name g c = record { goes = read-failed c.from_residual.result c.from_residual.ensures.0 (c.in_err-name.ensures.leads (λ name v. look_at (cell.Fresh c.args.kind) number_of (fresh_named c.args.kind name) v)) }

pub name_fresh-requires-clause-name : goal.name_fresh-requires-clause-name
name_fresh-requires-clause-name g c = subst IsName c.in-Of.is c.in_ok-name.ensures.name

pub name_fresh-requires-clause-holds : goal.name_fresh-requires-clause-holds
name_fresh-requires-clause-holds g c = (c.in_ok-name.ensures.leads (λ x v. executed On v)).keeps
