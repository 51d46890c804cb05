use Rattle.std.proofs.Common.{refl, w32}
use Rattle.std.proofs.lemmas.Int.{to_z-of_z}
use Rattle.lb_model_nest.specs.declared.turn.Went.TheVariants.{On}
use Rattle.lb_model_nest.specs.Wholes.{Executed, Whole, executed}
use Rattle.lb_engine.proofs.RowLemmas.{act-is, read-ends, read-fails, read-then}
use Rattle.lb_engine.specs.Reads.{behind_reading}
use Rattle.lb_base.specs.declared.token.Tok.{Tok}
use Rattle.std.specs.Prelude.{List, Option}
use Rattle.lb_engine.specs.NewMacros.{ends_argument}
use Rattle.lb_engine.proofs.new_environments.read_begins.Goals as goal

pub read_ends-requires : goal.read_ends-requires
read_ends-requires g c = record { holds = (c.in_ok-begins.ensures.leads (λ n. executed On)).keeps }

pub returns-in-Of : goal.returns-in-Of
returns-in-Of g c =
    let row : List Tok → Whole → Executed = λ begins x. ends_argument c.args.kind c.args.name.now c.args.count c.args.default begins x in
    record { goes = read-then (behind_reading row) c.read_ends.result c.in-Of.is (c.in_ok-begins.ensures.leads row) (act-is (λ k. ends_argument c.args.kind c.args.name.now k c.args.default c.in-Of.begins) c.read_ends.result (to_z-of_z w32 c.args.count c.ranges.count) c.read_ends.ensures.goes) }

pub returns-in-Stops : goal.returns-in-Stops
returns-in-Stops g c =
    let row : List Tok → Whole → Executed = λ begins x. ends_argument c.args.kind c.args.name.now c.args.count c.args.default begins x in
    record { goes = read-ends (behind_reading row) executed c.in-Stops.went c.in-Stops.is refl (c.in_ok-begins.ensures.leads row) }

pub returns-in_err-begins : goal.returns-in_err-begins
returns-in_err-begins g c =
    let row : List Tok → Whole → Executed = λ begins x. ends_argument c.args.kind c.args.name.now c.args.count c.args.default begins x in
    record { goes = read-fails c.from_residual.result c.from_residual.ensures.0 (c.in_err-begins.ensures.leads row) }
