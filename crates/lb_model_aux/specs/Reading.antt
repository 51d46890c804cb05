-- What an old aux file says (source2e, files ltfiles, ltsect and ltxref; that other lines are skipped is this project's own).
use Rattle.std.specs.Prelude.{ℕ, ℤ, zero, suc, nat_eq, nat_lt, List, [], ◌∷◌, drop, take, length, map, Option, None, Some, if◌then◌else◌}
use Rattle.std.specs.Cmp.Lexicographic.{pointwise}
use Rattle.std.specs.List.{cons_option, filter_map, list_any, position_or_len}
use Rattle.lb_values.specs.declared.value.LabelPair.{LabelPair}
use Rattle.lb_model.specs.Lines.{cut_at_feeds}
use Rattle.lb_model_aux.specs.declared.line.Line.{Line}
use Rattle.lb_model_aux.specs.declared.line.Line.TheVariants.{Checkpoint, Label}
use Rattle.lb_model_aux.specs.Forms.{chapter_of, counter_of, is_close, line_of, without_ending}

-- ---- Lines

-- the lines of a text, each without a carriage return at its end
unfoldable pub lines_of : List ℕ → List (List ℕ)
lines_of text = map (without_ending (13 ∷ [])) (cut_at_feeds text)

-- ---- What they say

-- the number of lines before the one that closes a checkpoint, or of all where none does
abbrev pub lines_to_close : List (List ℕ) → ℕ
lines_to_close lines = position_or_len is_close lines

-- the counters of those lines, and the lines behind the one that closes the checkpoint; None where no line does, and the checkpoint is cut
abbrev pub counters_to_close : List (List ℕ) → Option (List (List ℕ × ℤ) × List (List ℕ))
counters_to_close lines =
    if nat_lt (lines_to_close lines) (length lines)
    then Some (filter_map counter_of (take (lines_to_close lines) lines), drop (suc (lines_to_close lines)) lines) else None

-- a chapter's checkpoint takes its counters and no other line. One that is cut is dropped with all its lines
abbrev pub checkpoint_of : List ℕ → Option (List (List ℕ × ℤ) × List (List ℕ)) → List Line → List Line
checkpoint_of chapter None more = []
checkpoint_of chapter (Some parts) more = Checkpoint chapter parts.0 ∷ more

-- what a line says, before what those behind it say, of which so many are passed over
abbrev pub said_by : Option (List ℕ) → Option Line → List (List ℕ) → (ℕ → List Line) → List Line
said_by (Some chapter) said lines more = checkpoint_of chapter (counters_to_close lines) (more (suc (lines_to_close lines)))
said_by None said lines more = cons_option said (more 0)

-- what lines say, of which the first are passed over
unfoldable pub said : ℕ → List (List ℕ) → List Line
said passed [] = []
said (suc passed) (line ∷ lines) = said passed lines
said zero (line ∷ lines) = said_by (chapter_of line) (line_of line) lines (λ n. said n lines)

-- what a text says
unfoldable pub read_of : List ℕ → List Line
read_of text = said 0 (lines_of text)

-- ---- Labels that a key has more than once

-- what the last label of a key stands for
abbrev pub label_in : List ℕ → Option LabelPair → List Line → Option LabelPair
label_in key found [] = found
label_in key found (Label other pair ∷ lines) = label_in key (if pointwise nat_eq other key then Some pair else found) lines
label_in key found (other ∷ lines) = label_in key found lines

-- the keys of the labels whose key had one before, in order: each is told in the log
abbrev pub repeated_after : List (List ℕ) → List Line → List (List ℕ)
repeated_after seen [] = []
repeated_after seen (Label key pair ∷ lines) =
    if list_any (pointwise nat_eq key) seen then key ∷ repeated_after seen lines else repeated_after (key ∷ seen) lines
repeated_after seen (other ∷ lines) = repeated_after seen lines
