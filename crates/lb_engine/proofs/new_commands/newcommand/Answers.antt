use Rattle.std.proofs.Common.{refl}
use Rattle.lb_model_nest.specs.declared.turn.Went.TheVariants.{On}
use Rattle.lb_model_nest.specs.Wholes.{Executed, Whole, executed}
use Rattle.lb_engine.proofs.RowLemmas.{read-ends, read-fails, read-then}
use Rattle.lb_engine.specs.Reads.{behind_reading}
use Rattle.std.specs.Prelude.{Bool, not}
use Rattle.lb_model_engine.specs.NewNames.{name_argument, newcommand}
use Rattle.lb_engine.specs.NewMacros.{command_behind}
use Rattle.lb_engine.proofs.new_commands.newcommand.Goals as goal

pub read_name-requires : goal.read_name-requires
read_name-requires g c = record { holds = (c.in_ok-starred.ensures.leads (λ n. executed On)).keeps }

pub returns-in-Of : goal.returns-in-Of
unfolding newcommand
returns-in-Of g c =
    let row : Bool → Whole → Executed = λ starred v. name_argument (λ name u. command_behind c.args.kind (not starred) name u) v in
    record { goes = read-then (behind_reading row) c.read_name.result c.in-Of.is (c.in_ok-starred.ensures.leads row) c.read_name.ensures.goes }

pub returns-in-Stops : goal.returns-in-Stops
unfolding newcommand
returns-in-Stops g c =
    let row : Bool → Whole → Executed = λ starred v. name_argument (λ name u. command_behind c.args.kind (not starred) name u) v in
    record { goes = read-ends (behind_reading row) executed c.in-Stops.went c.in-Stops.is refl (c.in_ok-starred.ensures.leads row) }

pub returns-in_err-starred : goal.returns-in_err-starred
unfolding newcommand
returns-in_err-starred g c =
    let row : Bool → Whole → Executed = λ starred v. name_argument (λ name u. command_behind c.args.kind (not starred) name u) v in
    record { goes = read-fails c.from_residual.result c.from_residual.ensures.0 (c.in_err-starred.ensures.leads row) }
