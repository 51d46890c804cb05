-- The pieces of a book, each from its beginning to its end (source2e, file ltfiles, on `\include` and `\@setckpt`).
use Rattle.std.specs.Prelude.{◌-◌, ◌++◌, false, ℕ, ℤ, List, [], ◌∷◌, codes, drop, length, max, take, Option, Some, None, unwrap_or}
use Rattle.std.specs.Option.{option_map}
use Rattle.lb_base.specs.declared.fault.Fault.{Fault}
use Rattle.lb_base.specs.declared.fault.Kind.{Kind}
use Rattle.lb_base.specs.declared.fault.Kind.TheVariants.{FileMissing}
use Rattle.lb_values.specs.declared.cell.Cell.{Cell}
use Rattle.lb_values.specs.declared.cell.Cell.TheVariants.{Checkpoint, File, Job, Steps}
use Rattle.lb_model.specs.declared.append.Append.{Append}
use Rattle.lb_model.specs.declared.append.Append.TheVariants as append
use Rattle.lb_model.specs.declared.place.Place.{Place}
use Rattle.lb_model.specs.declared.world.World.{World}
use Rattle.lb_model.specs.Kinds.{checkpoint_of, text_of}
use Rattle.lb_model.specs.Settings.{State, look}
use Rattle.lb_model.specs.Sources.{FileText, text_from}
use Rattle.lb_model.specs.Stacked.{Stacked, StackedNotes, looked_all}
use Rattle.lb_model.specs.Tokens.{cut_lines}
use Rattle.lb_values.specs.declared.value.Value.{Value}
use Rattle.lb_model_counters.specs.Counters.{set_counter}
use Rattle.lb_model_counters.specs.Effects.{assigned_by, looked_by}
use Rattle.lb_model_journal.specs.declared.event.Event.TheVariants as event
use Rattle.lb_model_journal.specs.LogLines.{log_line}
use Rattle.lb_model_aux.specs.Checkpoints.{checkpoint_in, looks_of_checkpoint}
use Rattle.lb_model_engine.specs.declared.piece.Piece.{Piece}
use Rattle.lb_model_engine.specs.declared.piece.Piece.TheVariants.{Kernel, Segment, Chapter, Skip}
use Rattle.lb_model_nest.specs.declared.turn.Went.{Went}
use Rattle.lb_model_nest.specs.declared.turn.Went.TheVariants as went
use Rattle.lb_model_engine.specs.Kernel.{kernel_lines}
use Rattle.lb_model_engine.specs.Turns.{begun, open_at, text_set}
use Rattle.lb_model_nest.specs.Wholes.{Executed, Turn, Whole, appended, executed, looking}

-- ---- Texts

-- a text, and the place at which it ends
pub record PieceText : Type 0 where
  pub text : FileText
  pub last : Place

abbrev pub tex_file : List ℕ → List ℕ
tex_file name = name ++ codes ".tex"

abbrev pub piece_text : List ℕ → ℕ → List (List ℕ) → ℕ → PieceText
piece_text file first lines last = record { text = text_from file first lines; last = record { file = file; line = last } }

abbrev pub kernel_text : PieceText
kernel_text = piece_text (codes "kernel") 1 kernel_lines (length kernel_lines)

-- the lines of a file, none where it is not there
abbrev pub lines_in : Option (List ℕ) → List (List ℕ)
lines_in None = []
lines_in (Some bytes) = cut_lines bytes

abbrev pub main_file : World → List ℕ
main_file w = tex_file w.main

abbrev pub file_in : World → State → List ℕ → Option (List ℕ)
file_in w s file = text_of (look w s (File file))

-- lines from one on, up to another one, which is not among them but is where the text ends
abbrev pub segment_text : ℕ → ℕ → World → State → PieceText
segment_text first last w s = piece_text (main_file w) first (take (last - first) (drop (first - 1) (lines_in (file_in w s (main_file w))))) last

-- the whole file of a chapter, which ends at line 1 at least
abbrev pub chapter_text : List ℕ → List ℕ → PieceText
chapter_text name bytes = piece_text (tex_file name) 1 (cut_lines bytes) (max 1 (length (cut_lines bytes)))

-- ---- What is done

abbrev pub text_done : PieceText → World → State → Executed
text_done t w s = text_set t.last (begun t.text w s)

-- a chapter tells its file first, and in the end its checkpoint
abbrev pub file_told : List ℕ → Whole → Whole
file_told file w = appended (append.Log (log_line (event.File file))) w

abbrev pub checkpoint_told : List ℕ → Whole → Executed
checkpoint_told name w =
    looking (looks_of_checkpoint w.feed.world w.feed.cells.now)
    (executed went.Over (appended (append.Aux (checkpoint_in w.feed.world w.feed.cells.now name)) w))

abbrev pub over_as : Went → Executed → Executed → Executed
over_as went.Over e more = record { done = more.done; noted = λ n. more.noted (e.noted n) }
over_as way e more = e

abbrev pub when_over : Executed → (Whole → Executed) → Executed
when_over e more = over_as e.done.went e (more e.done.next)

abbrev pub chapter_done : List ℕ → PieceText → World → State → Executed
chapter_done name t w s = when_over (text_set t.last (file_told (tex_file name) (begun t.text w s))) (checkpoint_told name)

-- ---- What a piece gives

-- what is added to the journal, the fault, the number of steps, and the new state
pub record Outcome : Type 0 where
  pub appends : List Append
  pub fault : Option Fault
  pub steps : ℕ
  pub state : State

abbrev pub fault_at : Kind → Option Place → Option Fault
fault_at kind place = option_map (open_at kind) place

-- a fault has its own place, or that of the last token that was taken from a text
abbrev pub fault_of : Went → Option Place → Option Fault
fault_of (went.Stopped kind) place = fault_at kind place
fault_of (went.StoppedAt fault) place = Some fault
fault_of way place = None

abbrev pub outcome_of : ℕ → Turn → Outcome
outcome_of steps t =
    record {
      appends = t.next.feed.appends;
      fault = fault_of t.went t.next.feed.place;
      steps = steps - t.next.feed.left;
      state = t.next.feed.cells.now;
    }

abbrev pub text_outcome : PieceText → World → State → Outcome
text_outcome t w s = outcome_of (begun t.text w s).feed.left (text_done t w s).done

-- a chapter whose file is not there is a fault at its include line
abbrev pub chapter_outcome : List ℕ → ℕ → Option (List ℕ) → World → State → Outcome
chapter_outcome name line None w s =
    record { appends = []; fault = Some (record { kind = FileMissing; file = main_file w; line = line }); steps = 0; state = s }
chapter_outcome name line (Some bytes) w s =
    let t : PieceText = chapter_text name bytes in outcome_of (begun t.text w s).feed.left (chapter_done name t w s).done

-- a checkpoint sets its counters; one that is not there is passed over
abbrev pub counters_set : List (List ℕ × ℤ) → World → Stacked Value → Stacked Value
counters_set [] w s = s
counters_set (counter ∷ counters) w s = counters_set counters w (assigned_by (set_counter counter.0 counter.1 w s.now) s)

abbrev pub stored : List ℕ → World → State → List (List ℕ × ℤ)
stored name w s = unwrap_or (checkpoint_of (look w s (Checkpoint name))) []

abbrev pub skipped_state : List ℕ → World → State → State
skipped_state name w s = (counters_set (stored name w s) w (record { now = s; earlier = [] })).now

unfoldable pub piece : Piece → World → State → Outcome
piece Kernel w s = text_outcome kernel_text w s
piece (Segment first last) w s = text_outcome (segment_text first last w s) w s
piece (Chapter name line) w s = chapter_outcome name line (file_in w s (tex_file name)) w s
piece (Skip name) w s = record { appends = []; fault = None; steps = 0; state = skipped_state name w s }

-- ---- What a piece looks at

abbrev pub nothing_noted : StackedNotes
nothing_noted = record { told = []; written = record { now = λ c. false; earlier = [] } }

abbrev pub told_of : Option StackedNotes → List Cell
told_of None = []
told_of (Some n) = n.told

-- the cells of its beginning, and those of what is done
abbrev pub looks_from : List Cell → Executed → List Cell
looks_from cells e = told_of (e.noted (Some (looked_all cells nothing_noted)))

abbrev pub chapter_looks : List ℕ → Option (List ℕ) → World → State → List Cell
chapter_looks name None w s = Steps ∷ File (tex_file name) ∷ Job ∷ []
chapter_looks name (Some bytes) w s = looks_from (Steps ∷ File (tex_file name) ∷ []) (chapter_done name (chapter_text name bytes) w s)

abbrev pub counters_noted : List (List ℕ × ℤ) → World → Stacked Value → StackedNotes → StackedNotes
counters_noted [] w s n = n
counters_noted (counter ∷ counters) w s n =
    counters_noted counters w (assigned_by (set_counter counter.0 counter.1 w s.now) s) (looked_by (set_counter counter.0 counter.1 w s.now) n)

abbrev pub skip_looks : List ℕ → World → State → List Cell
skip_looks name w s =
    (counters_noted (stored name w s) w (record { now = s; earlier = [] }) (looked_all (Steps ∷ Checkpoint name ∷ []) nothing_noted)).told

-- the cells that a piece looks at, each once, in order, but for looks at a cell on which a write of its own stands
unfoldable pub looks : Piece → World → State → List Cell
looks Kernel w s = looks_from (Steps ∷ []) (text_done kernel_text w s)
looks (Segment first last) w s = looks_from (Steps ∷ Job ∷ File (main_file w) ∷ []) (text_done (segment_text first last w s) w s)
looks (Chapter name line) w s = chapter_looks name (file_in w s (tex_file name)) w s
looks (Skip name) w s = skip_looks name w s
