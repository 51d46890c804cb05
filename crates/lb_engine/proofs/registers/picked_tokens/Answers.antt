use Rattle.std.proofs.Common.{refl, List}
use Rattle.std.specs.Prelude.{ℕ}
use Rattle.lb_base.specs.declared.token.Tok.{Tok}
use Rattle.lb_model_engine.specs.Registers.{register_tokens}
use Rattle.lb_model_nest.specs.declared.turn.Went.TheVariants.{On}
use Rattle.lb_model_nest.specs.Wholes.{Executed, Whole, executed}
use Rattle.lb_engine.proofs.RowLemmas.{read-ends, read-fails, read-then}
use Rattle.lb_engine.specs.Reads.{behind_reading}
use Rattle.lb_engine.specs.declared.reading.Reading.TheVariants as reading
use Rattle.lb_engine.proofs.registers.picked_tokens.Goals as goal

-- what is done with the register
abbrev of : (List Tok → Whole → Executed) → ℕ → Whole → Executed
of row n v = register_tokens n row v

pub register_tokens-requires : goal.register_tokens-requires
register_tokens-requires g c = record { holds = (c.in_ok-number.ensures.leads (λ n. executed On)).keeps }

pub returns-in-Of : goal.returns-in-Of
returns-in-Of g c = record { leads = λ row. read-then (behind_reading (of row)) c.register_tokens.result c.in-Of.is (c.in_ok-number.ensures.leads (of row)) (c.register_tokens.ensures.leads row) }

pub returns-in-Stops : goal.returns-in-Stops
returns-in-Stops g c = record { leads = λ row. read-ends (behind_reading (of row)) (behind_reading row) (reading.Stops c.in-Stops.went) c.in-Stops.is refl (c.in_ok-number.ensures.leads (of row)) }

pub returns-in_err-number : goal.returns-in_err-number
returns-in_err-number g c = record { leads = λ row. read-fails c.from_residual.result c.from_residual.ensures.0 (c.in_err-number.ensures.leads (of row)) }
