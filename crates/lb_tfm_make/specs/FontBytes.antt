-- The TFM file of a short description, word by word (the TFM format, tex.web, sections 540 to 547).
use Rattle.std.specs.Prelude.{ℕ, ◌+◌, ◌/◌, ◌%◌, Bool, ◌==◌, List, [], ◌∷◌, ◌++◌, length, filter, map, if◌then◌else◌, Option, None, Some, ℤ}
use Rattle.std.specs.List.{concat, flat_map, list_any, position_from, position_or_len}
use Rattle.lb_model_paper.specs.Dvi.{half, int_eq, signed, word}
use Rattle.lb_model_paper.specs.FontFiles.{words}
use Rattle.lb_tfm_make.specs.declared.spec.CharWidth.{CharWidth}
use Rattle.lb_tfm_make.specs.declared.spec.FixParameters.{FixParameters}
use Rattle.lb_tfm_make.specs.declared.spec.FontSpec.{FontSpec}
use Rattle.lb_tfm_make.specs.declared.spec.PairStep.{PairStep}
use Rattle.lb_tfm_make.specs.FontSpecs.{row_of}

-- A word is a list of its four bytes: of a number, of a fix-word in two's complement, or of two counts, the high byte first.
abbrev pub Word : Type 0
Word = List ℕ

unfoldable pub number_word : ℕ → Word
number_word n = word n

unfoldable pub fix_word : ℤ → Word
fix_word fix = signed fix

unfoldable pub count_word : ℕ → ℕ → Word
count_word first second = half first ++ half second

-- ---- widths

-- the distinct widths in the order of their first use
abbrev pub with_width : List ℤ → ℤ → List ℤ
with_width widths width = if list_any (int_eq width) widths then widths else widths ++ width ∷ []

unfoldable pub widths_through : List ℤ → List CharWidth → List ℤ
widths_through widths [] = widths
widths_through widths (row ∷ rows) = widths_through (with_width widths row.width) rows

abbrev pub distinct_widths : List CharWidth → List ℤ
distinct_widths rows = widths_through [] rows

-- behind the first width, which is 0 and stands for no character
unfoldable pub width_index : List ℤ → ℤ → ℕ
width_index widths width = position_or_len (int_eq width) widths + 1

-- ---- codes

-- the first code, and the last behind this one
abbrev pub first_code : List CharWidth → ℕ
first_code [] = 0
first_code (row ∷ rows) = row.code

unfoldable pub last_code : ℕ → List CharWidth → ℕ
last_code code [] = code
last_code code (row ∷ rows) = last_code row.code rows

-- the codes that the file has words for
abbrev pub codes_of : List CharWidth → List ℕ
codes_of rows = words (first_code rows) (last_code 0 rows + 1)

-- ---- ligature programs

abbrev pub is_left : ℕ → PairStep → Bool
is_left code step = step.left == code

-- the steps behind a character
abbrev pub steps_behind : List PairStep → ℕ → List PairStep
steps_behind steps code = filter (is_left code) steps

-- the codes that have steps, in order
unfoldable pub lefts : List PairStep → List ℕ → List ℕ
lefts steps codes = filter (λ code. list_any (is_left code) steps) codes

-- the last step of a program says that it ends, by a skip of 128
abbrev pub skip_before : List PairStep → ℕ
skip_before [] = 128
skip_before (step ∷ steps) = 0

unfoldable pub program_words : List PairStep → List Word
program_words [] = []
program_words (step ∷ steps) = (skip_before steps ∷ step.right ∷ step.op ∷ step.rem ∷ []) ∷ program_words steps

unfoldable pub programs : List PairStep → List ℕ → List Word
programs steps codes = flat_map (λ code. program_words (steps_behind steps code)) codes

-- One step for each code that has steps says at which place its program begins. The skip is over 128, and not 255.
abbrev pub restart : ℕ → Word
restart place = 254 ∷ 0 ∷ place / 256 ∷ place % 256 ∷ []

unfoldable pub restarts : List PairStep → ℕ → List ℕ → List Word
restarts steps place [] = []
restarts steps place (code ∷ codes) = restart place ∷ restarts steps (place + length (steps_behind steps code)) codes

abbrev pub step_words : List PairStep → List ℕ → List Word
step_words steps codes = restarts steps (length codes) codes ++ programs steps codes

-- ---- the sections

-- the tag of a character that has steps is 1, and its remainder is the place of its restart
abbrev pub program_bytes : Option ℕ → List ℕ
program_bytes None = 0 ∷ 0 ∷ []
program_bytes (Some place) = 1 ∷ place ∷ []

abbrev pub place_among : List ℕ → ℕ → Option ℕ
place_among codes code = position_from (λ other. other == code) 0 codes

-- Heights and depths have the index 1, italic corrections 0. A code without a character has a word of zeros.
abbrev pub info_for : List ℤ → List ℕ → ℕ → Option CharWidth → Word
info_for widths starts code None = 0 ∷ 0 ∷ 0 ∷ 0 ∷ []
info_for widths starts code (Some row) = width_index widths row.width ∷ 17 ∷ program_bytes (place_among starts code)

unfoldable pub info_word : List CharWidth → List ℤ → List ℕ → ℕ → Word
info_word rows widths starts code = info_for widths starts code (row_of rows code)

abbrev pub parameter_words : FixParameters → List Word
parameter_words p = fix_word p.slant ∷ fix_word p.space ∷ fix_word p.stretch ∷ fix_word p.shrink ∷ fix_word p.x_height ∷ fix_word p.quad ∷ fix_word p.extra_space ∷ []

-- the codes that have steps
abbrev pub lefts_of : FontSpec → List ℕ
lefts_of spec = lefts spec.steps (codes_of spec.widths)

abbrev pub step_section : FontSpec → List Word
step_section spec = step_words spec.steps (lefts_of spec)

abbrev pub info_section : FontSpec → List Word
info_section spec = map (info_word spec.widths (distinct_widths spec.widths) (lefts_of spec)) (codes_of spec.widths)

abbrev pub width_section : FontSpec → List Word
width_section spec = number_word 0 ∷ map fix_word (distinct_widths spec.widths)

-- The sections behind the counts: the header, the characters, their widths, heights, depths and italic corrections, the
-- steps, and the parameters. There are no kerns and no extensible characters.
abbrev pub sections : FontSpec → List (List Word)
sections spec =
    (number_word spec.check ∷ number_word spec.design ∷ [])
    ∷ info_section spec
    ∷ width_section spec
    ∷ (number_word 0 ∷ fix_word spec.height ∷ [])
    ∷ (number_word 0 ∷ fix_word spec.depth ∷ [])
    ∷ (number_word 0 ∷ [])
    ∷ step_section spec
    ∷ parameter_words spec.params
    ∷ []

abbrev pub joined : List (List Word) → List Word
joined [] = []
joined (section ∷ more) = section ++ joined more

-- lf, lh; bc, ec; nw, nh; nd, ni; nl, nk; ne, np
abbrev pub count_words : FontSpec → List Word
count_words spec =
    count_word (6 + length (joined (sections spec))) 2
    ∷ count_word (first_code spec.widths) (last_code 0 spec.widths)
    ∷ count_word (length (width_section spec)) 2
    ∷ count_word 2 1
    ∷ count_word (length (step_section spec)) 0
    ∷ count_word 0 7
    ∷ []

-- the file
unfoldable pub file_of : FontSpec → List ℕ
file_of spec = concat (joined (count_words spec ∷ sections spec))
