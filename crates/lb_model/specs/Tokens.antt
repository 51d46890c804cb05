-- The tokens of a line (TeXbook, chapter 8; tex.web, part 24, sections 343 to 356).
use Rattle.std.specs.Prelude.{ℕ, suc, zero, ◌+◌, ◌-◌, ◌*◌, ◌==◌, ◌&&◌, ◌||◌, nat_lt, nat_le, Bool, true, false, List, [], ◌∷◌, ◌++◌, map, length, codes, Option, None, Some, if◌then◌else◌}
use Rattle.lb_base.specs.declared.token.Category.{Category}
use Rattle.lb_base.specs.declared.token.Category.TheVariants.{Escape, EndOfLine, Superscript, Ignored, Space, Letter, Active, Comment, Invalid}
use Rattle.lb_base.specs.declared.token.Tok.TheVariants as token
use Rattle.lb_values.specs.declared.cell.Cell.TheVariants.{Cat}
use Rattle.lb_values.specs.declared.value.Value.{Value}
use Rattle.lb_model.specs.declared.reading.Read.{Read}
use Rattle.lb_model.specs.declared.reading.Read.TheVariants as read
use Rattle.lb_model.specs.declared.reading.ReaderState.{ReaderState}
use Rattle.lb_model.specs.declared.reading.ReaderState.TheVariants.{NewLine, MidLine, SkipBlanks}
use Rattle.lb_values.specs.Kept.{Kept}
use Rattle.lb_model.specs.Kinds.{category_of}
use Rattle.lb_model.specs.Lines.{cut_at_feeds, trimmed, without_returns}
use Rattle.lb_model.specs.Settings.{Setting, Notes, look, noted_all}

-- ---- Lines

-- the lines of a text, each with the spaces at its end
abbrev pub cut_lines : List ℕ → List (List ℕ)
cut_lines text = cut_at_feeds (without_returns text)

-- a line as it is read: less the spaces at its end, and with code 13 there
abbrev pub source_line : List ℕ → List ℕ
source_line line = trimmed line ++ 13 ∷ []

-- ---- Categories

abbrev pub is_superscript : Category → Bool
is_superscript Superscript = true
is_superscript _ = false

abbrev pub is_letter : Category → Bool
is_letter Letter = true
is_letter _ = false

-- the category of each code in a setting, where the cells hold what is kept now
abbrev pub categories : Setting → Kept Value → ℕ → Category
categories p kept code = category_of (look p.world kept.now (Cat code))

-- the notes once the categories of codes are told
abbrev pub noted_codes : List ℕ → Notes → Notes
noted_codes examined = noted_all (map Cat examined)

-- ---- Characters, once two marks are replaced

-- the lower-case hexadecimal digits, and their values
abbrev pub is_hexadecimal : ℕ → Bool
is_hexadecimal c = (nat_le 48 c && nat_le c 57) || (nat_le 97 c && nat_le c 102)

abbrev pub digit_value : ℕ → ℕ
digit_value c = if nat_le c 57 then c - 48 else c - 87

-- the code that two digits give, and the one that a character below 128 gives
abbrev pub code_of_digits : ℕ → ℕ → ℕ
code_of_digits a b = 16 * digit_value a + digit_value b

abbrev pub shifted : ℕ → ℕ
shifted a = if nat_lt a 64 then a + 64 else a - 64

-- whether two characters that stand together are the same, and of the category of superscripts
abbrev pub are_marks : (ℕ → Category) → ℕ → ℕ → Bool
are_marks cats c d = is_superscript (cats c) && (d == c)

-- a character: its code and category, the text behind it, and the codes whose categories were looked up for it, in order
pub record Character : Type 0 where
  pub code : ℕ
  pub category : Category
  pub rest : List ℕ
  pub examined : List ℕ

abbrev pub alone : (ℕ → Category) → ℕ → List ℕ → Character
alone cats c text = record { code = c; category = cats c; rest = text; examined = c ∷ [] }

-- a character, where the code c was examined before
abbrev pub after_code : ℕ → Character → Character
after_code c e = record e { examined = c ∷ e.examined }

-- the character that stands first where c stands before the text: behind two marks, two hexadecimal digits stand for the code that they
-- give, and else one character below 128 stands for another, each as if that stood there
unfoldable pub character : (ℕ → Category) → ℕ → List ℕ → Character
character cats c [] = alone cats c []
character cats c (d ∷ []) = alone cats c (d ∷ [])
character cats c (d ∷ a ∷ []) =
    if are_marks cats c d && nat_lt a 128 then after_code c (character cats (shifted a) []) else alone cats c (d ∷ a ∷ [])
character cats c (d ∷ a ∷ b ∷ rest) =
    if are_marks cats c d && (is_hexadecimal a && is_hexadecimal b) then after_code c (character cats (code_of_digits a b) rest)
    else if are_marks cats c d && nat_lt a 128 then after_code c (character cats (shifted a) (b ∷ rest))
    else alone cats c (d ∷ a ∷ b ∷ rest)

-- the first n characters of a text
abbrev pub first_characters : ℕ → (ℕ → Category) → List ℕ → List Character
first_characters zero cats text = []
first_characters (suc n) cats [] = []
first_characters (suc n) cats (c ∷ text) = let e = character cats c text in e ∷ first_characters n cats e.rest

-- the characters of a text, which are no more than its bytes
unfoldable pub characters : (ℕ → Category) → List ℕ → List Character
characters cats text = first_characters (length text) cats text

-- ---- Tokens

-- what is read: a token or the end of the line, and None at an invalid character; the state and the text after it, and the codes whose
-- categories were looked up, in order
pub record Taken : Type 0 where
  pub read : Option Read
  pub state : ReaderState
  pub rest : List ℕ
  pub examined : List ℕ

-- what is read behind a character that is skipped
abbrev pub taken_behind : Character → Taken → Taken
taken_behind e taken = record taken { examined = e.examined ++ taken.examined }

-- the longest run of letters, the text behind it, where `rest` stands behind what is before it, and the codes examined for it, with those
-- of the character that ends it
abbrev pub letters : List Character → List ℕ
letters [] = []
letters (e ∷ characters) = if is_letter e.category then e.code ∷ letters characters else []

abbrev pub after_letters : List ℕ → List Character → List ℕ
after_letters rest [] = rest
after_letters rest (e ∷ characters) = if is_letter e.category then after_letters e.rest characters else rest

abbrev pub letters_examined : List Character → List ℕ
letters_examined [] = []
letters_examined (e ∷ characters) = e.examined ++ (if is_letter e.category then letters_examined characters else [])

-- the state behind a control symbol
abbrev pub after_symbol : Category → ReaderState
after_symbol Space = SkipBlanks
after_symbol _ = MidLine

-- a control word of the letters from f on, or the control symbol f
abbrev pub control_word : Character → List Character → Taken
control_word f characters = record {
  read = Some (read.Tok (token.Word (f.code ∷ letters characters)));
  state = SkipBlanks;
  rest = after_letters f.rest characters;
  examined = f.examined ++ letters_examined characters;
}

abbrev pub control_symbol : Character → Taken
control_symbol f = record { read = Some (read.Tok (token.Word (f.code ∷ []))); state = after_symbol f.category; rest = f.rest; examined = f.examined }

-- the control sequence behind an escape, without characters where nothing is behind it
abbrev pub control_sequence : List Character → Taken
control_sequence [] = record { read = Some (read.Tok (token.Word [])); state = SkipBlanks; rest = []; examined = [] }
control_sequence (f ∷ characters) = if is_letter f.category then control_word f characters else control_symbol f

-- what the character that ends a line gives: `\par`, a space, or nothing
abbrev pub read_of_end : ReaderState → Read
read_of_end NewLine = read.Tok (token.Word (codes "par"))
read_of_end MidLine = read.Tok (token.Char Space 32)
read_of_end SkipBlanks = read.EndOfLine

-- what is read at a character that is not skipped. The end of a line and a comment drop the rest of the line
abbrev pub taken_at : Category → ReaderState → Character → List Character → Taken
taken_at Escape state e characters = taken_behind e (control_sequence characters)
taken_at EndOfLine state e characters = record { read = Some (read_of_end state); state = state; rest = []; examined = e.examined }
taken_at Space state e characters = record { read = Some (read.Tok (token.Char Space 32)); state = SkipBlanks; rest = e.rest; examined = e.examined }
taken_at Active state e characters = record { read = Some (read.Tok (token.Active e.code)); state = MidLine; rest = e.rest; examined = e.examined }
taken_at Comment state e characters = record { read = Some read.EndOfLine; state = state; rest = []; examined = e.examined }
taken_at Invalid state e characters = record { read = None; state = state; rest = e.rest; examined = e.examined }
taken_at category state e characters = record { read = Some (read.Tok (token.Char category e.code)); state = MidLine; rest = e.rest; examined = e.examined }

-- whether a character is skipped: an ignored one, and a space at the beginning of a line or behind another space
abbrev pub is_skipped : ReaderState → Category → Bool
is_skipped state Ignored = true
is_skipped NewLine Space = true
is_skipped SkipBlanks Space = true
is_skipped state category = false

-- what is read of the characters of a line
abbrev pub taken : ReaderState → List Character → Taken
taken state [] = record { read = Some read.EndOfLine; state = state; rest = []; examined = [] }
taken state (e ∷ characters) = if is_skipped state e.category then taken_behind e (taken state characters) else taken_at e.category state e characters

-- what is read of a text
unfoldable pub next_token : (ℕ → Category) → ReaderState → List ℕ → Taken
next_token cats state text = taken state (characters cats text)
