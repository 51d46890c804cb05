-- Parts of the reading of lines and tokens, as the code takes them.
use Rattle.std.specs.Prelude.{◌≡◌, ℕ, ◌-◌, ◌<◌, ◌≤◌, ◌==◌, ◌&&◌, ◌||◌, nat_lt, Bool, true, false, List, [], ◌∷◌, drop, length, take, Option, None, Some, if◌then◌else◌}
use Rattle.lb_base.specs.declared.fault.Kind.TheVariants.{Invalid}
use Rattle.lb_base.specs.declared.fault.Stop.{Stop}
use Rattle.lb_base.specs.declared.fault.Stop.TheVariants.{Memory, Fault, At}
use Rattle.lb_base.specs.declared.token.Category.{Category}
use Rattle.lb_base.specs.declared.token.Category.TheVariants.{Escape, Space, Letter, Other}
use Rattle.lb_model.specs.declared.reading.Read.{Read}
use Rattle.lb_model.specs.declared.reading.Read.TheVariants.{Tok, EndOfLine}
use Rattle.lb_model.specs.declared.reading.ReaderState.{ReaderState}
use Rattle.lb_model.specs.declared.reading.ReaderState.TheVariants.{MidLine}
use Rattle.lb_model.specs.Lines.{starts_with_byte}
use Rattle.lb_model.specs.Tokens.{Character, Taken, cut_lines, alone, character, characters, is_hexadecimal, code_of_digits, is_superscript, shifted, taken}
use Rattle.lb_tokens.specs.declared.examined.Examined.{Examined}

-- ---- Lines

-- whether a line ends here: at the text's end, at a line feed, or at a carriage return before one
abbrev pub is_at_end : List ℕ → Bool
is_at_end [] = true
is_at_end (c ∷ rest) = c == 10 || (c == 13 && starts_with_byte 10 rest)

-- a text less the end of a line at its start, if there is one
abbrev pub after_end : List ℕ → List ℕ
after_end [] = []
after_end (c ∷ rest) = if c == 10 then rest else if c == 13 && starts_with_byte 10 rest then drop 1 rest else c ∷ rest

-- The line that begins at a place of a text ends at `end`, and the next one begins at `next`.
pub record IsLineAt (text : List ℕ) (at end next : ℕ) : Type 0 where
  pub begins : at ≤ end
  pub ends : end ≤ next
  pub within : next ≤ length text
  pub longer : at < next
  pub line : cut_lines (drop at text) ≡ take (end - at) (drop at text) ∷ cut_lines (drop next text)

-- ---- Characters

-- the code for which a mark and the text behind it stand, and how many bytes of that text are taken
abbrev pub two_marks : ℕ → List ℕ → Option (ℕ × ℕ)
two_marks mark [] = None
two_marks mark (d ∷ []) = None
two_marks mark (d ∷ a ∷ []) = if (d == mark) && nat_lt a 128 then Some (shifted a, 2) else None
two_marks mark (d ∷ a ∷ b ∷ rest) =
    if (d == mark) && (is_hexadecimal a && is_hexadecimal b) then Some (code_of_digits a b, 3)
    else if (d == mark) && nat_lt a 128 then Some (shifted a, 2)
    else None

-- the same, where characters of a category are marks
abbrev pub replacement : Category → ℕ → List ℕ → Option (ℕ × ℕ)
replacement category c text = if is_superscript category then two_marks c text else None

-- the character that stands first in a text
abbrev pub first_character : (ℕ → Category) → List ℕ → Character
first_character cats [] = alone cats 0 []
first_character cats (c ∷ text) = character cats c text

-- what was examined, as a character of the line
abbrev pub character_of : Examined → List ℕ → List ℕ → Character
character_of e line examined = record { code = e.code; category = e.category; rest = drop e.after line; examined = examined }

-- ---- Tokens

abbrev pub is_escape : Category → Bool
is_escape Escape = true
is_escape _ = false

-- whether a character is read as it stands in every state
abbrev pub is_plain : Category → Bool
is_plain Letter = true
is_plain Other = true
is_plain _ = false

-- whether a character is a space that is not skipped
abbrev pub is_word_space : ReaderState → Category → Bool
is_word_space MidLine Space = true
is_word_space _ _ = false

-- what is read of a line at a character that was examined, with the codes examined behind it
abbrev pub taken_from : (ℕ → Category) → ReaderState → Examined → List ℕ → Taken
taken_from cats state first line = taken state (character_of first line [] ∷ characters cats (drop first.after line))

abbrev pub is_token : Read → Bool
is_token (Tok token) = true
is_token EndOfLine = false

-- a stop for want of memory, or for an invalid character where what is claimed of one holds
abbrev pub MayStopAtInvalid : Stop → Type 0 → Type 0
MayStopAtInvalid Memory claim = Unit
MayStopAtInvalid (Fault kind) claim = (kind ≡ Invalid) × claim
MayStopAtInvalid (At fault) claim = ⊥
