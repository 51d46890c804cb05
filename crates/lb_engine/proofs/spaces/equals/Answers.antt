use Rattle.std.proofs.Common.{◌≡◌, ◌∙◌, ◌∷◌, [], true, false, refl, sym}
use Rattle.std.specs.Prelude.{Option, if◌then◌else◌}
use Rattle.lb_base.specs.declared.token.Tok.{Tok}
use Rattle.lb_values.specs.declared.meaning.Meaning.{Meaning}
use Rattle.lb_model_grammar.specs.Scans.{is_other}
use Rattle.lb_model_nest.specs.declared.turn.Went.TheVariants.{On}
use Rattle.lb_model_nest.specs.Wholes.{Executed, Whole, and_then, executed, put}
use Rattle.lb_engine.proofs.RowLemmas.{act-is, read-ends, read-fails, read-then}
use Rattle.lb_engine.specs.Reads.{behind_next, behind_reading}
use Rattle.lb_engine.specs.declared.reading.Reading.TheVariants as reading
use Rattle.lb_engine.proofs.spaces.equals.Goals as goal

-- what is done with a token
abbrev token : (Whole → Executed) → Tok → Option Meaning → Whole → Executed
token row tok m v = if is_other 61 tok then row v else and_then (put (tok ∷ []) v) row

token-equals : (row : Whole → Executed) (tok : Tok) (m : Option Meaning) → is_other 61 tok ≡ true → token row tok m ≡ row
token-equals row tok m e = λ i v. if e i then row v else and_then (put (tok ∷ []) v) row

token-other : (row : Whole → Executed) (tok : Tok) (m : Option Meaning) → is_other 61 tok ≡ false → (λ v. and_then (put (tok ∷ []) v) row) ≡ token row tok m
token-other row tok m e = λ i v. if sym e i then row v else and_then (put (tok ∷ []) v) row

pub put_token-requires : goal.put_token-requires
put_token-requires g c = record { holds = (c.in_ok-tok.ensures.leads (executed On) (λ tok m. executed On)).keeps }

pub returns-then-is_other : goal.returns-then-is_other
returns-then-is_other g c =
    let t = c.in-Tok in
    record {
      leads = λ row.
          read-ends (behind_next row (token row)) (behind_reading (λ u. row)) (reading.Of tt) t.is (token-equals row t.tok t._meaning (sym c.is_other.ensures ∙ c.if-is_other.true)) (c.in_ok-tok.ensures.leads row (token row));
    }

pub returns-else-is_other : goal.returns-else-is_other
returns-else-is_other g c =
    let t = c.in-Tok in
    record {
      leads = λ row.
          read-then (behind_next row (token row)) c.put_token.result t.is (c.in_ok-tok.ensures.leads row (token row))
          (act-is (λ (act : Whole → Executed). act) c.put_token.result (token-other row t.tok t._meaning (sym c.is_other.ensures ∙ c.if-is_other.false)) (c.put_token.ensures.leads row));
    }

pub returns-in-End : goal.returns-in-End
returns-in-End g c =
    record { leads = λ row. read-ends (behind_next row (token row)) (behind_reading (λ u. row)) (reading.Of tt) c.in-End.is refl (c.in_ok-tok.ensures.leads row (token row)) }

pub returns-in-Stops : goal.returns-in-Stops
returns-in-Stops g c =
    record {
      leads = λ row.
          read-ends (behind_next row (token row)) (behind_reading (λ u. row)) (reading.Stops c.in-Stops.went) c.in-Stops.is refl (c.in_ok-tok.ensures.leads row (token row));
    }

pub returns-in_err-tok : goal.returns-in_err-tok
returns-in_err-tok g c = record { leads = λ row. read-fails c.from_residual.result c.from_residual.ensures.0 (c.in_err-tok.ensures.leads row (token row)) }
