use Rattle.std.proofs.Common.{◌≡◌, ◌∙◌, true, false, refl, sym}
use Rattle.std.specs.Prelude.{Option, if◌then◌else◌}
use Rattle.lb_base.specs.declared.fault.Kind.TheVariants.{TokenMisplaced}
use Rattle.lb_base.specs.declared.token.Tok.{Tok}
use Rattle.lb_values.specs.declared.meaning.Meaning.{Meaning}
use Rattle.lb_model_grammar.specs.Arguments.{closes}
use Rattle.lb_model_nest.specs.declared.turn.Went.TheVariants.{Stopped}
use Rattle.lb_model_nest.specs.Wholes.{Executed, Whole, stop}
use Rattle.lb_engine.proofs.RowLemmas.{read-ends, read-fails}
use Rattle.lb_engine.specs.Reads.{behind_reading}
use Rattle.lb_engine.specs.declared.reading.Reading.TheVariants as reading
use Rattle.lb_engine.proofs.spaces.closing.Goals as goal

-- what is done with a token
abbrev token : (Whole → Executed) → Tok → Option Meaning → Whole → Executed
token row tok m v = if closes tok then row v else stop TokenMisplaced v

token-closes : (row : Whole → Executed) (tok : Tok) (m : Option Meaning) → closes tok ≡ true → token row tok m ≡ row
token-closes row tok m e = λ i v. if e i then row v else stop TokenMisplaced v

token-other : (row : Whole → Executed) (tok : Tok) (m : Option Meaning) → closes tok ≡ false → token row tok m ≡ stop TokenMisplaced
token-other row tok m e = λ i v. if e i then row v else stop TokenMisplaced v

pub returns-then-closes : goal.returns-then-closes
returns-then-closes g c =
    let t = c.in-Of in
    record {
      leads = λ row.
          read-ends (behind_reading (λ x. token row x.0 x.1)) (behind_reading (λ u. row)) (reading.Of tt) t.is (token-closes row t.tok t._meaning (sym c.closes.ensures ∙ c.if-closes.true)) (c.in_ok-tok.ensures.leads (token row));
    }

pub returns-else-closes : goal.returns-else-closes
returns-else-closes g c =
    let t = c.in-Of in
    record {
      leads = λ row.
          read-ends (behind_reading (λ x. token row x.0 x.1)) (behind_reading (λ u. row)) (reading.Stops (Stopped TokenMisplaced)) t.is (token-other row t.tok t._meaning (sym c.closes.ensures ∙ c.if-closes.false)) (c.in_ok-tok.ensures.leads (token row));
    }

pub returns-in-Stops : goal.returns-in-Stops
returns-in-Stops g c =
    record {
      leads = λ row.
          read-ends (behind_reading (λ x. token row x.0 x.1)) (behind_reading (λ u. row)) (reading.Stops c.in-Stops.went) c.in-Stops.is refl (c.in_ok-tok.ensures.leads (token row));
    }

pub returns-in_err-tok : goal.returns-in_err-tok
returns-in_err-tok g c = record { leads = λ row. read-fails c.from_residual.result c.from_residual.ensures.0 (c.in_err-tok.ensures.leads (token row)) }
