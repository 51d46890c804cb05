-- Tokens that are taken without expansion: pending ones, and those of texts (TeXbook, chapter 8).
use Rattle.std.specs.Prelude.{◌++◌, ◌==◌, Bool, false, ℕ, zero, suc, List, [], ◌∷◌, Option, Some, None, if◌then◌else◌}
use Rattle.lb_base.specs.declared.fault.Kind.TheVariants.{Invalid, StepLimit}
use Rattle.lb_base.specs.declared.token.Category.{Category}
use Rattle.lb_base.specs.declared.token.Tok.{Tok}
use Rattle.lb_base.specs.declared.token.Tok.TheVariants.{Param}
use Rattle.lb_model.specs.declared.reading.Read.{Read}
use Rattle.lb_model.specs.declared.reading.Read.TheVariants as read
use Rattle.lb_model.specs.declared.reading.ReaderState.{ReaderState}
use Rattle.lb_model.specs.declared.reading.ReaderState.TheVariants.{NewLine}
use Rattle.lb_model.specs.Tokens.{Taken, cut_lines, next_token, source_line}
use Rattle.lb_model.specs.declared.place.Place.{Place}
use Rattle.lb_model.specs.declared.place.Got.{Got}
use Rattle.lb_model.specs.declared.place.Got.TheVariants.{Tok as GotTok, End as GotEnd, Fault as GotFault}

-- the text of a file: its name, the number of the present line, what is left of that line with the state of its reader, and the lines after it
pub record FileText : Type 0 where
  pub file : List ℕ
  pub line : ℕ
  pub state : ReaderState
  pub rest : List ℕ
  pub later : List (List ℕ)

-- a pending token, or a text
pub data Item : Type 0 where
  Pending : Tok → Item
  Text : FileText → Item

-- a text from the beginning, where its first line has this number
abbrev pub text_from : List ℕ → ℕ → List (List ℕ) → FileText
text_from file line [] = record { file = file; line = line; state = NewLine; rest = []; later = [] }
text_from file line (first ∷ later) = record { file = file; line = line; state = NewLine; rest = source_line first; later = later }

abbrev pub text_of : List ℕ → ℕ → List ℕ → FileText
text_of file line bytes = text_from file line (cut_lines bytes)

-- ---- What stands next

-- the first, unless nothing is left of a line
abbrev pub or_later : {X : Type 0} → Option Read → X → X → X
or_later (Some read.EndOfLine) here later = later
or_later read here later = here

-- what stands next in the lines of a text, with what is left of them
pub record LineTaken : Type 0 where
  pub read : Option Read
  pub line : ℕ
  pub state : ReaderState
  pub rest : List ℕ
  pub later : List (List ℕ)

-- an invalid character stays where it is
abbrev pub moved_on : {X : Type 0} → Option Read → X → X → X
moved_on None old new = old
moved_on (Some read) old new = new

abbrev pub in_line : ℕ → ReaderState → List ℕ → List (List ℕ) → Taken → LineTaken
in_line line state rest later t =
    record { read = t.read; line = line; state = moved_on t.read state t.state; rest = moved_on t.read rest t.rest; later = later }

-- what stands next in a line and the lines after it
abbrev pub line_token : (ℕ → Category) → ℕ → ReaderState → List ℕ → List (List ℕ) → LineTaken
line_token cats line state rest [] = in_line line state rest [] (next_token cats state rest)
line_token cats line state rest (next ∷ later) =
    let t = next_token cats state rest in
    or_later t.read (in_line line state rest (next ∷ later) t) (line_token cats (suc line) NewLine (source_line next) later)

-- the codes whose categories are looked at for it, in order
abbrev pub line_examined : (ℕ → Category) → ReaderState → List ℕ → List (List ℕ) → List ℕ
line_examined cats state rest [] = (next_token cats state rest).examined
line_examined cats state rest (next ∷ later) =
    let t = next_token cats state rest in
    or_later t.read t.examined (t.examined ++ line_examined cats NewLine (source_line next) later)

abbrev pub text_token : (ℕ → Category) → FileText → LineTaken
text_token cats x = line_token cats x.line x.state x.rest x.later

-- a text with what is left of its lines
abbrev pub text_left : List ℕ → LineTaken → FileText
text_left file t = record { file = file; line = t.line; state = t.state; rest = t.rest; later = t.later }

-- what is read, if it is anything
abbrev pub got_of : Option Read → Got
got_of None = GotFault Invalid
got_of (Some (read.Tok tok)) = GotTok tok
got_of (Some read.EndOfLine) = GotEnd

-- what stands next in a source, what is left of it, and the place of the last token that was taken from a text
pub record SourceTaken : Type 0 where
  pub got : Got
  pub source : List Item
  pub place : Option Place

abbrev pub from_text : FileText → List Item → LineTaken → SourceTaken
from_text x source t =
    record { got = got_of t.read; source = Text (text_left x.file t) ∷ source; place = Some (record { file = x.file; line = t.line }) }

-- a text that is used up stays, with what is left of its lines, where its end is not to be passed
abbrev pub at_text_end : FileText → List Item → Option Place → LineTaken → SourceTaken
at_text_end x source place t = record { got = GotEnd; source = Text (text_left x.file t) ∷ source; place = place }

-- a boundary behind pending tokens, which no text has: nothing is taken past it until it is taken away (tex.web, part 37, has `end_template` for
-- the like)
abbrev pub is_boundary : Tok → Bool
is_boundary (Param number) = number == 0
is_boundary tok = false

abbrev pub from_pending : Tok → List Item → Option Place → SourceTaken
from_pending tok source place =
    if is_boundary tok then record { got = GotEnd; source = Pending tok ∷ source; place = place }
    else record { got = GotTok tok; source = source; place = place }

-- a pending token, or the next token of a text; at the end of a text what stands after it, where ends are passed
abbrev pub source_token : Bool → (ℕ → Category) → Option Place → List Item → SourceTaken
source_token passes cats place [] = record { got = GotEnd; source = []; place = place }
source_token passes cats place (Pending tok ∷ source) = from_pending tok source place
source_token passes cats place (Text x ∷ source) =
    let t = text_token cats x in
    or_later t.read (from_text x source t) (if passes then source_token passes cats place source else at_text_end x source place t)

-- the codes whose categories are looked at for it
abbrev pub source_examined : Bool → (ℕ → Category) → List Item → List ℕ
source_examined passes cats [] = []
source_examined passes cats (Pending tok ∷ source) = []
source_examined passes cats (Text x ∷ source) =
    let codes = line_examined cats x.state x.rest x.later in
    or_later (text_token cats x).read codes (if passes then codes ++ source_examined passes cats source else codes)

-- ---- Steps and numbers

-- a token takes a step, and so does an invalid character: what is got then, and the steps that are left
abbrev pub stepped : Got → ℕ → Got × ℕ
stepped GotEnd left = (GotEnd, left)
stepped got zero = (GotFault StepLimit, zero)
stepped got (suc left) = (got, left)

-- how many tokens are pending, and how many texts are open
abbrev pub pending : List Item → ℕ
pending [] = 0
pending (Pending tok ∷ source) = suc (pending source)
pending (Text x ∷ source) = pending source

abbrev pub texts : List Item → ℕ
texts [] = 0
texts (Pending tok ∷ source) = texts source
texts (Text x ∷ source) = suc (texts source)

-- the innermost text ends after its present line
abbrev pub ended_early : List Item → List Item
ended_early [] = []
ended_early (Pending tok ∷ source) = Pending tok ∷ ended_early source
ended_early (Text x ∷ source) = Text (record x { later = [] }) ∷ source
