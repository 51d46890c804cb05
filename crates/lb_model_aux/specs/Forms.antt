-- The forms of the lines of aux files that are read, as functions. Each is the whole line.
use Rattle.std.specs.Prelude.{ℕ, ℤ, pos, neg_ℤ, ◌-◌, ◌==◌, ◌&&◌, not, nat_eq, nat_le, nat_lt, Bool, false, List, [], ◌∷◌, drop, take, length, map, codes, Option, None, Some, if◌then◌else◌}
use Rattle.std.specs.Cmp.Lexicographic.{pointwise}
use Rattle.std.specs.Int.Digits.{number_from_digits}
use Rattle.std.specs.List.{ends_with, list_all, starts_with}
use Rattle.std.specs.Option.{option_and_then, option_map}
use Rattle.lb_values.specs.declared.value.LabelPair.{LabelPair}
use Rattle.lb_model.specs.Lines.{is_empty}
use Rattle.lb_model_aux.specs.declared.line.Line.{Line}
use Rattle.lb_model_aux.specs.declared.line.Line.TheVariants.{Label, Input, Entry}
use Rattle.lb_model_aux.specs.Groups.{are_groups, group_of}

-- ---- Commands and their arguments

-- what stands behind a word
abbrev pub behind_word : List ℕ → List ℕ → Option (List ℕ)
behind_word word text = if starts_with nat_eq text word then Some (drop (length word) text) else None

-- a value, where nothing stands behind it
abbrev pub alone : {X : Type 0} → X → List ℕ → Option X
alone x rest = if is_empty rest then Some x else None

-- a command with one group, and one with two
abbrev pub argument_of : List ℕ → List ℕ → Option (List ℕ)
argument_of word text = option_and_then (λ rest. option_and_then (λ g. alone g.0 g.1) (group_of rest)) (behind_word word text)

abbrev pub two_groups : List ℕ → Option (List ℕ × List ℕ)
two_groups text = option_and_then (λ g. option_and_then (λ h. alone (g.0, h.0) h.1) (group_of g.1)) (group_of text)

abbrev pub arguments_of : List ℕ → List ℕ → Option (List ℕ × List ℕ)
arguments_of word text = option_and_then two_groups (behind_word word text)

-- ---- Labels

-- a label, where groups alone stand behind it
abbrev pub pair_before : List ℕ → LabelPair → Option LabelPair
pair_before more pair = if are_groups false 0 more then Some pair else None

-- the first two of some groups: the text of a label, and its page
abbrev pub pair_of : List ℕ → Option LabelPair
pair_of value =
    option_and_then (λ g. option_and_then (λ h. pair_before h.1 (record { text = g.0; page = h.0 })) (group_of g.1)) (group_of value)

abbrev pub label_of : List ℕ → Option Line
label_of text = option_and_then (λ a. option_map (Label a.0) (pair_of a.1)) (arguments_of (codes "\\newlabel") text)

-- ---- Other aux files, and entries

abbrev pub input_of : List ℕ → Option Line
input_of text = option_map Input (argument_of (codes "\\@input") text)

-- a text less an ending, where it has it
abbrev pub without_ending : List ℕ → List ℕ → List ℕ
without_ending ending text = if ends_with nat_eq text ending then take (length text - length ending) text else text

-- LaTeX writes a comment character behind each entry, by a command that has a space behind it or none
abbrev pub without_percent : List ℕ → List ℕ
without_percent text =
    if ends_with nat_eq text (codes "\\protected@file@percent ") then without_ending (codes "\\protected@file@percent ") text
    else without_ending (codes "\\protected@file@percent") text

abbrev pub entry_of : List ℕ → Option Line
entry_of text = option_map (λ a. Entry a.0 (without_percent a.1)) (arguments_of (codes "\\@writefile") text)

-- ---- Checkpoints

-- a value, where an opening brace alone stands behind it
abbrev pub before_brace : List ℕ → List ℕ → Option (List ℕ)
before_brace value rest = if pointwise nat_eq rest (123 ∷ []) then Some value else None

-- the chapter of the line that opens a checkpoint
abbrev pub chapter_of : List ℕ → Option (List ℕ)
chapter_of text = option_and_then (λ rest. option_and_then (λ g. before_brace g.0 g.1) (group_of rest)) (behind_word (codes "\\@setckpt") text)

-- the line that closes it
abbrev pub is_close : List ℕ → Bool
is_close text = pointwise nat_eq text (125 ∷ [])

-- decimal digits, at least one, below 2^31
abbrev pub is_digit : ℕ → Bool
is_digit c = nat_le 48 c && nat_le c 57

abbrev pub value_of : List ℕ → ℕ
value_of digits = number_from_digits 10 (map (λ c. c - 48) digits)

abbrev pub magnitude_of : List ℕ → Option ℕ
magnitude_of digits = if not (is_empty digits) && (list_all is_digit digits && nat_lt (value_of digits) 2147483648) then Some (value_of digits) else None

-- an optional minus before them
abbrev pub number_of : List ℕ → Option ℤ
number_of [] = None
number_of (c ∷ rest) = if c == 45 then option_map (λ n. neg_ℤ (pos n)) (magnitude_of rest) else option_map pos (magnitude_of (c ∷ rest))

-- the line of a counter
abbrev pub counter_of : List ℕ → Option (List ℕ × ℤ)
counter_of text = option_and_then (λ a. option_map (λ n. (a.0, n)) (number_of a.1)) (arguments_of (codes "\\setcounter") text)

-- ---- Lines outside of checkpoints

abbrev pub or_else : {X : Type 0} → Option X → Option X → Option X
or_else (Some x) other = Some x
or_else None other = other

-- what a line says by itself
abbrev pub line_of : List ℕ → Option Line
line_of text = or_else (label_of text) (or_else (input_of text) (entry_of text))
