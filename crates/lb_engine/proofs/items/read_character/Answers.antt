use Rattle.std.proofs.Common.{refl}
use Rattle.std.specs.Prelude.{ℕ}
use Rattle.lb_model_nest.specs.Words.{character_put}
use Rattle.lb_model_nest.specs.declared.turn.Went.TheVariants.{On}
use Rattle.lb_model_nest.specs.Wholes.{Executed, Whole, executed}
use Rattle.lb_engine.proofs.RowLemmas.{read-ends, read-fails, read-then}
use Rattle.lb_engine.specs.Reads.{behind_reading}
use Rattle.lb_engine.proofs.items.read_character.Goals as goal

-- what is done with it
abbrev to : ℕ → Whole → Executed
to n v = character_put n v

pub put_character-requires : goal.put_character-requires
put_character-requires g c = record { holds = (c.in_ok-code.ensures.leads (λ x. executed On)).keeps }

pub returns-in-Of : goal.returns-in-Of
returns-in-Of g c =
    record { goes = read-then (behind_reading to) c.put_character.result c.in-Of.is (c.in_ok-code.ensures.leads to) c.put_character.ensures.goes }

pub returns-in-Stops : goal.returns-in-Stops
returns-in-Stops g c = record { goes = read-ends (behind_reading to) executed c.in-Stops.went c.in-Stops.is refl (c.in_ok-code.ensures.leads to) }

pub returns-in_err-code : goal.returns-in_err-code
returns-in_err-code g c = record { goes = read-fails c.from_residual.result c.from_residual.ensures.0 (c.in_err-code.ensures.leads to) }
