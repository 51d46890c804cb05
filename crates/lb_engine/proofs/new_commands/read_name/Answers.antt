use Rattle.std.proofs.Common.{refl, subst}
use Rattle.lb_model_nest.specs.declared.turn.Went.TheVariants.{On}
use Rattle.lb_model_nest.specs.Wholes.{Executed, Whole, executed}
use Rattle.lb_engine.proofs.RowLemmas.{read-ends, read-fails, read-then}
use Rattle.lb_engine.specs.Reads.{behind_reading}
use Rattle.lb_engine.specs.Names.{IsName}
use Rattle.lb_values.specs.declared.cell.Cell.{Cell}
use Rattle.lb_engine.specs.NewMacros.{command_behind}
use Rattle.lb_engine.proofs.new_commands.read_name.Goals as goal

pub read_parameters-requires : goal.read_parameters-requires
read_parameters-requires g c = record { name = subst IsName c.in-Of.is c.in_ok-name.ensures.name; holds = (c.in_ok-name.ensures.leads (λ n. executed On)).keeps }

pub returns-in-Of : goal.returns-in-Of
returns-in-Of g c =
    let row : Cell → Whole → Executed = λ name u. command_behind c.args.kind c.args.long name u in
    record { goes = read-then (behind_reading row) c.read_parameters.result c.in-Of.is (c.in_ok-name.ensures.leads row) c.read_parameters.ensures.goes }

pub returns-in-Stops : goal.returns-in-Stops
returns-in-Stops g c =
    let row : Cell → Whole → Executed = λ name u. command_behind c.args.kind c.args.long name u in
    record { goes = read-ends (behind_reading row) executed c.in-Stops.went c.in-Stops.is refl (c.in_ok-name.ensures.leads row) }

pub returns-in_err-name : goal.returns-in_err-name
returns-in_err-name g c =
    let row : Cell → Whole → Executed = λ name u. command_behind c.args.kind c.args.long name u in
    record { goes = read-fails c.from_residual.result c.from_residual.ensures.0 (c.in_err-name.ensures.leads row) }
