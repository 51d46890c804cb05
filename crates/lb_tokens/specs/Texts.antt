-- What is taken of a text, line by line.
use Rattle.std.specs.Prelude.{◌≡◌, ℕ, suc, List, [], ◌∷◌, Option, Some, None}
use Rattle.std.specs.Option.{option_map}
use Rattle.lb_base.specs.declared.token.Category.{Category}
use Rattle.lb_base.specs.declared.token.Tok.{Tok}
use Rattle.lb_model.specs.declared.reading.Read.{Read}
use Rattle.lb_model.specs.declared.reading.Read.TheVariants as read
use Rattle.lb_model.specs.declared.reading.ReaderState.TheVariants.{NewLine}
use Rattle.lb_model.specs.Settings.{Notes}
use Rattle.lb_model.specs.Sources.{FileText, LineTaken, line_examined, moved_on, text_token}
use Rattle.lb_model.specs.Tokens.{next_token, noted_codes, source_line}

-- the first of some lines, as it is read, and those after it
abbrev pub first_line : List (List ℕ) → Option (List ℕ × List (List ℕ))
first_line [] = None
first_line (line ∷ later) = Some (source_line line, later)

-- a text whose present line is these bytes, before those lines; and a text behind its present line, if another one comes
abbrev pub begun : List ℕ → ℕ → List ℕ × List (List ℕ) → FileText
begun file line lines = record { file = file; line = line; state = NewLine; rest = lines.0; later = lines.1 }

abbrev pub behind_line : FileText → Option FileText
behind_line x = option_map (begun x.file (suc x.line)) (first_line x.later)

-- what was read, where a token or none was asked for
abbrev pub read_of : Option Tok → Option Read
read_of None = Some read.EndOfLine
read_of (Some tok) = Some (read.Tok tok)

-- what is taken of a text, where this is left of it
abbrev pub taken_of : Option Read → FileText → LineTaken
taken_of read left = record { read = read; line = left.line; state = left.state; rest = left.rest; later = left.later }

-- a line gave what is read of it, and looked at the codes for that
pub record LineGave (cats : ℕ → Category) (r : Option Read) (old new : FileText) (notes_old notes_new : Option Notes) : Type 0 where
  pub read : (next_token cats old.state old.rest).read ≡ r
  pub state : new.state ≡ moved_on r old.state (next_token cats old.state old.rest).state
  pub rest : new.rest ≡ moved_on r old.rest (next_token cats old.state old.rest).rest
  pub notes : notes_new ≡ option_map (noted_codes (next_token cats old.state old.rest).examined) notes_old

-- a text gave what is taken of it, and looked at the codes for that
pub record TextGave (cats : ℕ → Category) (read : Option Read) (old new : FileText) (notes_old notes_new : Option Notes) : Type 0 where
  pub taken : text_token cats old ≡ taken_of read new
  pub notes : notes_new ≡ option_map (noted_codes (line_examined cats old.state old.rest old.later)) notes_old

-- what is left of a text gives what the text gives
pub record TextGoesOn (cats : ℕ → Category) (old new : FileText) (notes_old notes_new : Option Notes) : Type 0 where
  pub taken : text_token cats old ≡ text_token cats new
  pub notes : option_map (noted_codes (line_examined cats new.state new.rest new.later)) notes_new ≡ option_map (noted_codes (line_examined cats old.state old.rest old.later)) notes_old
