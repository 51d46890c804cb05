use Rattle.std.proofs.Common.{refl}
use Rattle.lb_model_nest.specs.declared.turn.Went.TheVariants.{On}
use Rattle.lb_model_nest.specs.Wholes.{Executed, Whole, executed}
use Rattle.lb_engine.proofs.RowLemmas.{read-ends, read-fails, read-then}
use Rattle.lb_engine.specs.Reads.{behind_reading}
use Rattle.lb_model_engine.specs.NewNames.{environment_set}
use Rattle.lb_engine.proofs.new_environments.make_named.Goals as goal

pub set-requires : goal.set-requires
set-requires g c = record { holds = (c.in_ok-newly_named.ensures.leads (executed On)).keeps }

pub returns-in-Of : goal.returns-in-Of
returns-in-Of g c =
    let row : Whole → Executed = environment_set c.args.name.now c.args.begins c.args.ends in
    record { goes = read-then (behind_reading (λ u. row)) c.set.result c.in-Of.is (c.in_ok-newly_named.ensures.leads row) c.set.ensures.goes }

pub returns-in-Stops : goal.returns-in-Stops
returns-in-Stops g c =
    let row : Whole → Executed = environment_set c.args.name.now c.args.begins c.args.ends in
    record { goes = read-ends (behind_reading (λ u. row)) executed c.in-Stops.went c.in-Stops.is refl (c.in_ok-newly_named.ensures.leads row) }

pub returns-in_err-newly_named : goal.returns-in_err-newly_named
returns-in_err-newly_named g c =
    let row : Whole → Executed = environment_set c.args.name.now c.args.begins c.args.ends in
    record { goes = read-fails c.from_residual.result c.from_residual.ensures.0 (c.in_err-newly_named.ensures.leads row) }
