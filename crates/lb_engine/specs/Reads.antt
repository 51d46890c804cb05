-- What is done with what was read.
use Rattle.std.specs.Prelude.{Option}
use Rattle.lb_base.specs.declared.token.Tok.{Tok}
use Rattle.lb_values.specs.declared.meaning.Meaning.{Meaning}
use Rattle.lb_model_nest.specs.Wholes.{Executed, Whole, executed}
use Rattle.lb_engine.specs.declared.reading.Next.{Next}
use Rattle.lb_engine.specs.declared.reading.Next.TheVariants as next
use Rattle.lb_engine.specs.declared.reading.Reading.{Reading}
use Rattle.lb_engine.specs.declared.reading.Reading.TheVariants as reading

-- this is done with what was read, or the row has ended
abbrev pub behind_reading : {X : Type 0} → (X → Whole → Executed) → Reading X → Whole → Executed
behind_reading row (reading.Of x) w = row x w
behind_reading row (reading.Stops went) w = executed went w

-- this with the next token and its meaning, and this at the end
abbrev pub behind_next : (Whole → Executed) → (Tok → Option Meaning → Whole → Executed) → Next → Whole → Executed
behind_next at_end row (next.Tok tok meaning) w = row tok meaning w
behind_next at_end row next.End w = at_end w
behind_next at_end row (next.Stops went) w = executed went w
