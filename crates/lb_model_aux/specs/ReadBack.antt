-- What is written to aux files is read back as it was written.
use Rattle.std.specs.Prelude.{◌≡◌, ℕ, ℤ, ◌==◌, not, true, List, ◌∷◌, ◌++◌, codes}
use Rattle.std.specs.List.{AllByRecursion, list_all}
use Rattle.lb_values.specs.declared.value.LabelPair.{LabelPair}
use Rattle.lb_model.specs.Ranges.{is_number}
use Rattle.lb_model_paper.specs.Texts.{input_line, relax_line}
use Rattle.lb_model_journal.specs.declared.entry.Entry3.{Entry3}
use Rattle.lb_model_aux.specs.declared.line.Line.TheVariants.{Label, Input, Entry, Checkpoint}
use Rattle.lb_model_aux.specs.Groups.{IsBalanced}
use Rattle.lb_model_aux.specs.Reading.{read_of}
use Rattle.lb_model_journal.specs.Written.{checkpoint_lines, contents_entry, contents_line, label_line, written}

-- a text that can be read back: each brace has its other one, and there is no line feed
pub record CanBeReadBack (text : List ℕ) : Type 0 where
  pub balanced : IsBalanced text
  pub one_line : list_all (λ c. not (c == 10)) text ≡ true

-- a counter that can be: its number is one of 32 bits, but not the least
pub record IsCounterReadBack (counter : List ℕ × ℤ) : Type 0 where
  pub name : CanBeReadBack counter.0
  pub number : is_number counter.1 ≡ true

-- whatever stands behind it, a label is read as itself
abbrev pub LabelsAreReadBack : Type 0
LabelsAreReadBack =
    (key : List ℕ) (pair : LabelPair) (text : List ℕ) → CanBeReadBack key → CanBeReadBack pair.text → CanBeReadBack pair.page
    → read_of (label_line key pair ++ text) ≡ Label key pair ∷ read_of text

-- and so is an entry of contents
abbrev pub EntriesAreReadBack : Type 0
EntriesAreReadBack =
    (ext : List ℕ) (entry : Entry3) (text : List ℕ) → CanBeReadBack ext → CanBeReadBack entry.kind → CanBeReadBack (written entry.title)
    → CanBeReadBack (written entry.page) → read_of (contents_line ext entry ++ text) ≡ Entry ext (contents_entry entry) ∷ read_of text

-- and a checkpoint
abbrev pub CheckpointsAreReadBack : Type 0
CheckpointsAreReadBack =
    (chapter : List ℕ) (counters : List (List ℕ × ℤ)) (text : List ℕ) → CanBeReadBack chapter → AllByRecursion IsCounterReadBack counters
    → read_of (checkpoint_lines chapter counters ++ text) ≡ Checkpoint chapter counters ∷ read_of text

-- the first line of an aux file says nothing, and the line of a chapter names its aux file
abbrev pub FirstLinesAreReadBack : Type 0
FirstLinesAreReadBack = (text : List ℕ) → read_of (relax_line ++ text) ≡ read_of text

abbrev pub InputsAreReadBack : Type 0
InputsAreReadBack = (chapter text : List ℕ) → CanBeReadBack chapter → read_of (input_line chapter ++ text) ≡ Input (chapter ++ codes ".aux") ∷ read_of text
