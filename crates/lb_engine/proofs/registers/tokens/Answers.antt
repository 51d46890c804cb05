use Rattle.std.proofs.Common.{refl, sym, List}
use Rattle.std.specs.Prelude.{Option}
use Rattle.lb_base.specs.declared.token.Tok.{Tok}
use Rattle.lb_values.specs.declared.meaning.Meaning.{Meaning}
use Rattle.lb_model_engine.specs.Registers.{tokens_to}
use Rattle.lb_model_nest.specs.declared.turn.Went.TheVariants.{On}
use Rattle.lb_model_nest.specs.Wholes.{Executed, Whole, executed}
use Rattle.lb_engine.proofs.RowLemmas.{act-is, read-ends, read-fails, read-then}
use Rattle.lb_engine.specs.Reads.{behind_reading}
use Rattle.lb_engine.specs.declared.reading.Reading.TheVariants as reading
use Rattle.lb_engine.proofs.registers.tokens.Goals as goal

-- what is done with the first token
abbrev of : (List Tok → Whole → Executed) → Tok → Option Meaning → Whole → Executed
of row tok m v = tokens_to m row v

pub tokens_at-requires : goal.tokens_at-requires
tokens_at-requires g c = record { holds = (c.in_ok-_tok.ensures.leads (λ tok m. executed On)).keeps }

pub returns-in-Of : goal.returns-in-Of
returns-in-Of g c =
    record {
      leads = λ row.
          read-then (behind_reading (λ t. of row t.0 t.1)) c.tokens_at.result c.in-Of.is (c.in_ok-_tok.ensures.leads (of row))
          (act-is (λ (act : Whole → Executed). act) c.tokens_at.result (λ i w. sym (c.place_of-place.ensures.place row w) i) (c.tokens_at.ensures.leads row));
    }

pub returns-in-Stops : goal.returns-in-Stops
returns-in-Stops g c =
    record {
      leads = λ row. read-ends (behind_reading (λ t. of row t.0 t.1)) (behind_reading row) (reading.Stops c.in-Stops.went) c.in-Stops.is refl (c.in_ok-_tok.ensures.leads (of row));
    }

pub returns-in_err-_tok : goal.returns-in_err-_tok
returns-in_err-_tok g c = record { leads = λ row. read-fails c.from_residual.result c.from_residual.ensures.0 (c.in_err-_tok.ensures.leads (of row)) }
