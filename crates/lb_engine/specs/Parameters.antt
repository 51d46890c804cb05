-- What a token makes of a parameter text.
use Rattle.std.specs.Prelude.{◌++◌, ℕ, true, false, List, [], ◌∷◌, Option, Some, None}
use Rattle.lb_base.specs.declared.token.Tok.{Tok}
use Rattle.lb_base.specs.declared.token.Tok.TheVariants.{Param}
use Rattle.lb_model_grammar.specs.declared.given.Given.{Given}
use Rattle.lb_model_grammar.specs.Scans.{Meant}
use Rattle.lb_model_grammar.specs.Scans.Meant.{Ended, Wrong}
use Rattle.lb_model_engine.specs.Definitions.{ParameterText, parameter_text}
use Rattle.lb_engine.specs.declared.parameters.Turn.{Turn}
use Rattle.lb_engine.specs.declared.parameters.Turn.TheVariants as turn

-- what comes of a text with n parameters and these tokens by such a token
abbrev pub turned : Turn → ℕ → List Tok → Tok → List Given → Meant ParameterText
turned turn.Marks n toks t given = parameter_text true n toks given
turned turn.Adds n toks t given = parameter_text false n (toks ++ t ∷ []) given
turned (turn.Counts next) n toks t given = parameter_text false next (toks ++ Param next ∷ []) given
turned turn.Ends n toks t given = Ended (record { tokens = toks; brace = [] }) given
turned turn.EndsMarked n toks t given = Ended (record { tokens = toks ++ t ∷ []; brace = t ∷ [] }) given
turned (turn.Fails kind) n toks t given = Wrong kind

-- the number of the next parameter, 0 where none comes
abbrev pub counted : Turn → ℕ
counted (turn.Counts next) = next
counted other = 0

-- the token, where there is one
abbrev pub listed : Option Tok → List Tok
listed None = []
listed (Some t) = t ∷ []
