use Rattle.std.proofs.Common.{refl}
use Rattle.lb_model_nest.specs.declared.turn.Went.TheVariants.{On}
use Rattle.lb_model_nest.specs.Wholes.{Executed, Whole, executed}
use Rattle.lb_engine.proofs.RowLemmas.{read-ends, read-fails, read-then}
use Rattle.lb_engine.specs.Reads.{behind_reading}
use Rattle.lb_model_engine.specs.Definitions.{macro_defined}
use Rattle.lb_base.specs.declared.token.Tok.{Tok}
use Rattle.std.specs.Prelude.{List}
use Rattle.lb_engine.proofs.definitions.read_body.Goals as goal

pub define_text-requires : goal.define_text-requires
define_text-requires g c = record { name = c.requires.name; holds = (c.in_ok-toks.ensures.leads (λ n. executed On)).keeps }

pub returns-in-Of : goal.returns-in-Of
returns-in-Of g c =
    let row : List Tok → Whole → Executed = λ toks x. macro_defined c.args.manner.long c.args.manner.reach c.args.name.now c.args.text toks x in
    record { goes = read-then (behind_reading row) c.define_text.result c.in-Of.is (c.in_ok-toks.ensures.leads row) c.define_text.ensures.goes }

pub returns-in-Stops : goal.returns-in-Stops
returns-in-Stops g c =
    let row : List Tok → Whole → Executed = λ toks x. macro_defined c.args.manner.long c.args.manner.reach c.args.name.now c.args.text toks x in
    record { goes = read-ends (behind_reading row) executed c.in-Stops.went c.in-Stops.is refl (c.in_ok-toks.ensures.leads row) }

pub returns-in_err-toks : goal.returns-in_err-toks
returns-in_err-toks g c =
    let row : List Tok → Whole → Executed = λ toks x. macro_defined c.args.manner.long c.args.manner.reach c.args.name.now c.args.text toks x in
    record { goes = read-fails c.from_residual.result c.from_residual.ensures.0 (c.in_err-toks.ensures.leads row) }
