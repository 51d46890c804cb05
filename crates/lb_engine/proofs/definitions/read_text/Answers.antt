use Rattle.std.proofs.Common.{refl}
use Rattle.lb_model_nest.specs.declared.turn.Went.TheVariants.{On}
use Rattle.lb_model_nest.specs.Wholes.{Executed, Whole, executed}
use Rattle.lb_engine.proofs.RowLemmas.{read-ends, read-fails, read-then}
use Rattle.lb_engine.specs.Reads.{behind_reading}
use Rattle.lb_model_engine.specs.Definitions.{ParameterText, body_read, macro_defined}
use Rattle.lb_engine.proofs.definitions.read_text.Goals as goal

pub read_body-requires : goal.read_body-requires
read_body-requires g c = record { name = c.requires.name; holds = (c.in_ok-text.ensures.leads (λ n. executed On)).keeps }

pub returns-in-Of : goal.returns-in-Of
returns-in-Of g c =
    let row : ParameterText → Whole → Executed = λ text u. body_read c.args.manner.expands (λ toks x. macro_defined c.args.manner.long c.args.manner.reach c.args.name.now text toks x) u in
    record { goes = read-then (behind_reading row) c.read_body.result c.in-Of.is (c.in_ok-text.ensures.leads row) c.read_body.ensures.goes }

pub returns-in-Stops : goal.returns-in-Stops
returns-in-Stops g c =
    let row : ParameterText → Whole → Executed = λ text u. body_read c.args.manner.expands (λ toks x. macro_defined c.args.manner.long c.args.manner.reach c.args.name.now text toks x) u in
    record { goes = read-ends (behind_reading row) executed c.in-Stops.went c.in-Stops.is refl (c.in_ok-text.ensures.leads row) }

pub returns-in_err-text : goal.returns-in_err-text
returns-in_err-text g c =
    let row : ParameterText → Whole → Executed = λ text u. body_read c.args.manner.expands (λ toks x. macro_defined c.args.manner.long c.args.manner.reach c.args.name.now text toks x) u in
    record { goes = read-fails c.from_residual.result c.from_residual.ensures.0 (c.in_err-text.ensures.leads row) }
