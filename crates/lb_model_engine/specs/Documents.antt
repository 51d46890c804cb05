-- The class, the chapters that are wanted, and the table of contents (source2e, files ltclass, ltfiles and ltsect).
use Rattle.std.specs.Prelude.{◌++◌, ◌==◌, Bool, true, false, ℕ, pos, int_le, nat_eq, nat_lt, List, [], ◌∷◌, codes, filter, flat_map, Option, Some, None, unwrap_or, if◌then◌else◌}
use Rattle.std.specs.Cmp.Lexicographic.{pointwise}
use Rattle.std.specs.Option.{option_map_or}
use Rattle.lb_base.specs.declared.fault.Kind.TheVariants.{ClassRefused, DepthLimit, NotPreamble}
use Rattle.lb_base.specs.declared.token.Tok.{Tok}
use Rattle.lb_rows.specs.declared.parameter.Parameter.TheVariants.{HSize, TextWidth}
use Rattle.lb_values.specs.declared.cell.Cell.{Cell}
use Rattle.lb_values.specs.declared.cell.Cell.TheVariants as cell
use Rattle.lb_values.specs.declared.reach.Reach.TheVariants.{Global, Local}
use Rattle.lb_values.specs.declared.value.Value.TheVariants as value
use Rattle.lb_model.specs.declared.append.Append.TheVariants as append
use Rattle.lb_model.specs.Kinds.{dimension_of, name_of, number_of, text_of}
use Rattle.lb_model.specs.Sources.{text_of as text_from_start, texts}
use Rattle.lb_model.specs.Sources.Item.{Text}
use Rattle.lb_model_journal.specs.declared.event.Event.TheVariants as event
use Rattle.lb_model_aux.specs.declared.line.Line.{Line}
use Rattle.lb_model_aux.specs.declared.line.Line.TheVariants as line
use Rattle.lb_model_aux.specs.Reading.{read_of, repeated_after}
use Rattle.lb_model_journal.specs.LogLines.{log_line}
use Rattle.lb_model_engine.specs.Counting.{characters_in}
use Rattle.lb_model_engine.specs.Reads.{bracket, characters, reading}
use Rattle.lb_model_nest.specs.Wholes.{Executed, Whole, and_then, appended, change, looking, on, stop, tells, with_feed}

-- ---- Before the text begins

abbrev pub has_begun : Whole → Bool
has_begun w = int_le (pos 1) (number_of (tells w cell.Body))

abbrev pub in_preamble : (Whole → Executed) → Whole → Executed
in_preamble row w = looking (cell.Body ∷ []) (if has_begun w then stop NotPreamble w else row w)

-- `\documentclass`: the class is `book`; its options go to the log
abbrev pub options_to : Option (List Tok) → (Option (List ℕ) → Whole → Executed) → Whole → Executed
options_to None row w = row None w
options_to (Some toks) row w = characters_in toks (λ options v. row (Some options) v) w

abbrev pub options_told : Option (List ℕ) → Whole → Executed
options_told None w = on w
options_told (Some options) w = on (appended (append.Log (log_line (event.Options options))) w)

abbrev pub class_named : Option (List ℕ) → List ℕ → Whole → Executed
class_named options name w = if pointwise nat_eq name (codes "book") then options_told options w else stop ClassRefused w

unfoldable pub documentclass : Whole → Executed
documentclass w =
    in_preamble (λ v. reading bracket (λ toks u. options_to toks (λ options x. characters (class_named options) x) u) v) w

-- `\includeonly`: names between commas, without spaces
abbrev pub onto_first : ℕ → List (List ℕ) → List (List ℕ)
onto_first code [] = (code ∷ []) ∷ []
onto_first code (name ∷ names) = (code ∷ name) ∷ names

abbrev pub names_between : List ℕ → List (List ℕ)
names_between [] = [] ∷ []
names_between (code ∷ text) =
    if code == 44 then [] ∷ names_between text else (if code == 32 then names_between text else onto_first code (names_between text))

unfoldable pub includeonly : Whole → Executed
includeonly w = in_preamble (λ v. characters (λ text u. change Global cell.Only (value.Names (names_between text)) u) v) w

-- ---- `\@toc`: a table of contents is wanted, and the one of the last run is read, where it is there

abbrev pub job : Whole → List ℕ
job w = unwrap_or (name_of (tells w cell.Job)) []

abbrev pub toc_file : Whole → List ℕ
toc_file w = job w ++ codes ".toc"

abbrev pub file_begun : List ℕ → Option (List ℕ) → Whole → Executed
file_begun file None w = on w
file_begun file (Some bytes) w =
    if nat_lt (texts w.feed.source) 101
    then on (with_feed (record w.feed { source = Text (text_from_start file 1 bytes) ∷ w.feed.source }) w)
    else stop DepthLimit w

abbrev pub toc_read : Whole → Executed
toc_read w = looking (cell.Job ∷ cell.File (toc_file w) ∷ []) (file_begun (toc_file w) (text_of (tells w (cell.File (toc_file w)))) w)

unfoldable pub toc_row : Whole → Executed
toc_row w = and_then (change Global cell.Toc (value.Number (pos 1)) w) toc_read

-- ---- `\begin{document}`

-- what the aux file of the last run says, and in its place what an aux file says that it names: there no other file counts
abbrev pub file_lines : Whole → List ℕ → List Line
file_lines w file = option_map_or read_of (text_of (tells w (cell.File file))) []

abbrev pub is_no_input : Line → Bool
is_no_input (line.Input name) = false
is_no_input l = true

abbrev pub lines_named : Whole → Line → List Line
lines_named w (line.Input name) = filter is_no_input (file_lines w name)
lines_named w l = l ∷ []

abbrev pub aux_file : Whole → List ℕ
aux_file w = job w ++ codes ".aux"

abbrev pub aux_lines : Whole → List Line
aux_lines w = flat_map (lines_named w) (file_lines w (aux_file w))

abbrev pub file_named : Line → List Cell
file_named (line.Input name) = cell.File name ∷ []
file_named l = []

abbrev pub aux_cells : Whole → List Cell
aux_cells w = cell.File (aux_file w) ∷ flat_map file_named (file_lines w (aux_file w))

-- labels and checkpoints are kept, one after another
abbrev pub line_kept : Line → Whole → Executed
line_kept (line.Label key pair) w = change Global (cell.Label key) (value.Label pair) w
line_kept (line.Checkpoint name counters) w = change Global (cell.Checkpoint name) (value.Checkpoint counters) w
line_kept l w = on w

abbrev pub lines_kept : List Line → Whole → Executed
lines_kept [] w = on w
lines_kept (l ∷ lines) w = and_then (line_kept l w) (lines_kept lines)

-- each label whose key had one before is told in the log
abbrev pub repeated_told : List (List ℕ) → Whole → Whole
repeated_told [] w = w
repeated_told (key ∷ keys) w = repeated_told keys (appended (append.Log (log_line (event.MultipleLabel key))) w)

abbrev pub aux_kept : List Line → Whole → Executed
aux_kept lines w = and_then (lines_kept lines w) (λ v. on (repeated_told (repeated_after [] lines) v))

abbrev pub aux_read : Whole → Executed
aux_read w = looking (aux_cells w) (aux_kept (aux_lines w) w)

abbrev pub width_set : Whole → Executed
width_set w =
    looking (cell.Par TextWidth ∷ []) (change Local (cell.Par HSize) (value.Dimen (dimension_of (tells w (cell.Par TextWidth)))) w)

-- the text begins: it opens no group
unfoldable pub document_begun : Whole → Executed
document_begun w = looking (cell.Job ∷ []) (and_then (and_then (change Global cell.Body (value.Number (pos 1)) w) width_set) aux_read)
