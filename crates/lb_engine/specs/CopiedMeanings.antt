-- Meanings of tokens, as what is done with them.
use Rattle.std.specs.Prelude.{Option}
use Rattle.lb_base.specs.declared.token.Tok.{Tok}
use Rattle.lb_values.specs.declared.meaning.Meaning.{Meaning}
use Rattle.lb_values.specs.declared.reach.Reach.{Reach}
use Rattle.lb_values.specs.declared.cell.Cell.{Cell}
use Rattle.lb_model_engine.specs.Definitions.{meaning_value}
use Rattle.lb_model_engine.specs.Reads.{meaning_to}
use Rattle.lb_model_nest.specs.Wholes.{Executed, Whole, change}

-- this is done with what a token means
abbrev pub told_meaning : Tok → (Option Meaning → Whole → Executed) → Whole → Executed
told_meaning tok row w = meaning_to (λ t m v. row m v) tok w

-- a name gets a meaning
abbrev pub given_meaning : Reach → Cell → Option Meaning → Whole → Executed
given_meaning reach name m v = change reach name (meaning_value m) v
