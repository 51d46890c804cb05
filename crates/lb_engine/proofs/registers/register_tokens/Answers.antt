use Rattle.std.proofs.Common.{◌∙◌, [], List, ap, sym}
use Rattle.std.specs.Prelude.{Option, unwrap_or}
use Rattle.lb_base.specs.declared.token.Tok.{Tok}
use Rattle.lb_values.specs.declared.cell.Cell.TheVariants as cell
use Rattle.lb_model.specs.Kinds.{tokens_of}
use Rattle.lb_model_nest.specs.Wholes.{Executed, Whole}
use Rattle.lb_engine.proofs.LookLemmas.{told-drops, told-leads}
use Rattle.lb_engine.specs.Reads.{behind_reading}
use Rattle.lb_engine.specs.declared.reading.Reading.TheVariants as reading
use Rattle.lb_engine.proofs.registers.register_tokens.Goals as goal

-- what is done with what the register holds
abbrev of : (List Tok → Whole → Executed) → Option (List Tok) → Whole → Executed
of row toks w = row (unwrap_or toks []) w

pub returns-in-Some : goal.returns-in-Some
returns-in-Some g c =
    record {
      leads = λ row.
          told-leads g.C.Cells (cell.Toks c.args.number) tokens_of (of row) (behind_reading row) c.in_ok-toks.field-0 (reading.Of c.in-Some.toks) c.requires.holds c.in_ok-toks.ensures.tells (ap (of row) c.in-Some.is);
    }

pub returns-in_ok-none-in-None : goal.returns-in_ok-none-in-None
returns-in_ok-none-in-None g c =
    record {
      leads = λ row.
          told-leads g.C.Cells (cell.Toks c.args.number) tokens_of (of row) (behind_reading row) c.in_ok-toks.field-0 (reading.Of c.in_ok-none-in-None.none) c.requires.holds c.in_ok-toks.ensures.tells
          (ap (of row) c.in-None.is ∙ ap row (sym (c.in_ok-none-in-None.ensures ∙ c.new.ensures)));
    }

pub returns-in_err-none-in-None : goal.returns-in_err-none-in-None
returns-in_err-none-in-None g c =
    let e = c.from_residual-in_err-none-in-None in
    record { leads = λ row. told-drops e.result e.ensures.0 c.in_ok-toks.ensures.tells }
