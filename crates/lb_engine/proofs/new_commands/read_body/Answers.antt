use Rattle.std.proofs.Common.{refl, w32}
use Rattle.std.proofs.lemmas.Int.{to_z-of_z}
use Rattle.lb_model_nest.specs.declared.turn.Went.TheVariants.{On}
use Rattle.lb_model_nest.specs.Wholes.{Executed, Whole, executed}
use Rattle.lb_engine.proofs.RowLemmas.{act-is, read-ends, read-fails, read-then}
use Rattle.lb_engine.specs.Reads.{behind_reading}
use Rattle.lb_base.specs.declared.token.Tok.{Tok}
use Rattle.std.specs.Prelude.{List, Option}
use Rattle.lb_model_engine.specs.NewNames.{command_of}
use Rattle.lb_engine.proofs.new_commands.read_body.Goals as goal

pub make-requires : goal.make-requires
make-requires g c = record { name = c.requires.name; holds = (c.in_ok-toks.ensures.leads (λ n. executed On)).keeps }

pub returns-in-Of : goal.returns-in-Of
returns-in-Of g c =
    let row : List Tok → Whole → Executed = λ toks y. command_of c.args.kind c.args.long c.args.name.now c.args.count c.args.default toks y in
    record { goes = read-then (behind_reading row) c.make.result c.in-Of.is (c.in_ok-toks.ensures.leads row) (act-is (λ k. command_of c.args.kind c.args.long c.args.name.now k c.args.default c.in-Of.toks) c.make.result (to_z-of_z w32 c.args.count c.ranges.count) c.make.ensures.goes) }

pub returns-in-Stops : goal.returns-in-Stops
returns-in-Stops g c =
    let row : List Tok → Whole → Executed = λ toks y. command_of c.args.kind c.args.long c.args.name.now c.args.count c.args.default toks y in
    record { goes = read-ends (behind_reading row) executed c.in-Stops.went c.in-Stops.is refl (c.in_ok-toks.ensures.leads row) }

pub returns-in_err-toks : goal.returns-in_err-toks
returns-in_err-toks g c =
    let row : List Tok → Whole → Executed = λ toks y. command_of c.args.kind c.args.long c.args.name.now c.args.count c.args.default toks y in
    record { goes = read-fails c.from_residual.result c.from_residual.ensures.0 (c.in_err-toks.ensures.leads row) }
