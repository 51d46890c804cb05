use Rattle.std.proofs.Common.{[], false, refl, subst}
use Rattle.lb_model_nest.specs.declared.turn.Went.TheVariants.{On}
use Rattle.lb_model_nest.specs.Wholes.{Executed, Whole, executed}
use Rattle.lb_engine.proofs.RowLemmas.{read-ends, read-fails, read-then}
use Rattle.lb_engine.specs.Reads.{behind_reading}
use Rattle.lb_engine.specs.Names.{IsName}
use Rattle.lb_model_engine.specs.Definitions.{body_read, def_row, macro_defined, parameter_text}
use Rattle.lb_model_engine.specs.Reads.{reading}
use Rattle.lb_values.specs.declared.cell.Cell.{Cell}
use Rattle.lb_engine.proofs.definitions.define_name.Goals as goal

pub read_text-requires : goal.read_text-requires
read_text-requires g c = record { name = subst IsName c.in-Of.is c.in_ok-name.ensures.name; holds = (c.in_ok-name.ensures.leads (λ n. executed On)).keeps }

pub returns-in-Of : goal.returns-in-Of
unfolding def_row
returns-in-Of g c =
    let row : Cell → Whole → Executed = λ name v. reading (parameter_text false 0 []) (λ text u. body_read c.args.manner.expands (λ toks x. macro_defined c.args.manner.long c.args.manner.reach name text toks x) u) v in
    record { goes = read-then (behind_reading row) c.read_text.result c.in-Of.is (c.in_ok-name.ensures.leads row) c.read_text.ensures.goes }

pub returns-in-Stops : goal.returns-in-Stops
unfolding def_row
returns-in-Stops g c =
    let row : Cell → Whole → Executed = λ name v. reading (parameter_text false 0 []) (λ text u. body_read c.args.manner.expands (λ toks x. macro_defined c.args.manner.long c.args.manner.reach name text toks x) u) v in
    record { goes = read-ends (behind_reading row) executed c.in-Stops.went c.in-Stops.is refl (c.in_ok-name.ensures.leads row) }

pub returns-in_err-name : goal.returns-in_err-name
unfolding def_row
returns-in_err-name g c =
    let row : Cell → Whole → Executed = λ name v. reading (parameter_text false 0 []) (λ text u. body_read c.args.manner.expands (λ toks x. macro_defined c.args.manner.long c.args.manner.reach name text toks x) u) v in
    record { goes = read-fails c.from_residual.result c.from_residual.ensures.0 (c.in_err-name.ensures.leads row) }
