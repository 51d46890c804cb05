-- What the nest adds to the journal, as the appends that are written for it.
use Rattle.std.specs.Prelude.{Bool, true, false, ℕ, List, [], ◌∷◌, if◌then◌else◌}
use Rattle.lb_base.specs.declared.node.Note.{Note}
use Rattle.lb_model.specs.declared.append.Append.{Append}
use Rattle.lb_model.specs.declared.append.Append.TheVariants as append
use Rattle.lb_model_journal.specs.LogLines.{log_line}
use Rattle.lb_model_journal.specs.declared.event.Event.TheVariants as event
use Rattle.lb_model_paper.specs.Fonts.{FontData}
use Rattle.lb_model_nest.specs.Pages.{has_code, note_line}
use Rattle.lb_nest.specs.declared.entries.Entry.{Entry}
use Rattle.lb_nest.specs.declared.entries.Entry.TheVariants as entry

-- the code of a page, the line of a note on a page whose number is shown so, and the line of an event
abbrev pub append_of : Entry → Append
append_of (entry.Page code) = append.Page code
append_of (entry.Note number note) = append.Aux (note_line number note)
append_of (entry.Event event) = append.Log (log_line event)

-- the lines of notes
abbrev pub note_append : List ℕ → Note → Append
note_append number n = append.Aux (note_line number n)

abbrev pub note_appends : List ℕ → List Note → List Append
note_appends number [] = []
note_appends number (n ∷ notes) = note_append number n ∷ note_appends number notes

-- the lines of the characters that a font lacks
abbrev pub missing_append : FontData → ℕ → Append
missing_append font code = append.Log (log_line (event.MissingCharacter code font.id.name))

abbrev pub missing_appends : FontData → List ℕ → List Append
missing_appends font [] = []
missing_appends font (code ∷ text) = if has_code font code then missing_appends font text else missing_append font code ∷ missing_appends font text

abbrev pub has_note : List Note → Bool
has_note [] = false
has_note (n ∷ notes) = true

abbrev pub is_without_appends : List Append → Bool
is_without_appends [] = true
is_without_appends (a ∷ appends) = false
