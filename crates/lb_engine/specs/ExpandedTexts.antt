-- Braces in texts that are expanded.
use Rattle.std.specs.Prelude.{Bool, true, false, ℕ, zero, suc, Option, Some, None}
use Rattle.lb_base.specs.declared.token.Tok.{Tok}
use Rattle.lb_model_grammar.specs.Arguments.{closes, opens}

-- how many braces are open behind a token; None behind the brace that closes the text
abbrev pub level_by : Bool → Bool → ℕ → Option ℕ
level_by true closing level = Some (suc level)
level_by false true zero = None
level_by false true (suc level) = Some level
level_by false false level = Some level

abbrev pub level_behind : ℕ → Tok → Option ℕ
level_behind level tok = level_by (opens tok) (closes tok) level
