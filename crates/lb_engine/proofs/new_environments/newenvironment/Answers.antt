use Rattle.std.proofs.Common.{refl}
use Rattle.lb_model_nest.specs.declared.turn.Went.TheVariants.{On}
use Rattle.lb_model_nest.specs.Wholes.{Executed, Whole, executed}
use Rattle.lb_engine.proofs.RowLemmas.{read-ends, read-fails, read-then}
use Rattle.lb_engine.specs.Reads.{behind_reading}
use Rattle.std.specs.Prelude.{List, ℕ}
use Rattle.lb_model_engine.specs.NewNames.{newenvironment}
use Rattle.lb_engine.specs.NewMacros.{environment_behind}
use Rattle.lb_engine.proofs.new_environments.newenvironment.Goals as goal

pub read_parameters-requires : goal.read_parameters-requires
read_parameters-requires g c = record { holds = (c.in_ok-name.ensures.leads (λ n. executed On)).keeps }

pub returns-in-Of : goal.returns-in-Of
unfolding newenvironment
returns-in-Of g c =
    let row : List ℕ → Whole → Executed = λ name v. environment_behind c.args.kind name v in
    record { goes = read-then (behind_reading row) c.read_parameters.result c.in-Of.is (c.in_ok-name.ensures.leads row) c.read_parameters.ensures.goes }

pub returns-in-Stops : goal.returns-in-Stops
unfolding newenvironment
returns-in-Stops g c =
    let row : List ℕ → Whole → Executed = λ name v. environment_behind c.args.kind name v in
    record { goes = read-ends (behind_reading row) executed c.in-Stops.went c.in-Stops.is refl (c.in_ok-name.ensures.leads row) }

pub returns-in_err-name : goal.returns-in_err-name
unfolding newenvironment
returns-in_err-name g c =
    let row : List ℕ → Whole → Executed = λ name v. environment_behind c.args.kind name v in
    record { goes = read-fails c.from_residual.result c.from_residual.ensures.0 (c.in_err-name.ensures.leads row) }
