-- The nine rules that a TFM file has to keep, each with the first word that breaks it, and what it is for a file to give a
-- font (sections 560 to 575 of tex.web, and the TFM format, sections 539 to 547).
use Rattle.std.specs.Prelude.{◌≡◌, ℕ, ◌+◌, ◌-◌, ◌*◌, ◌/◌, ◌%◌, Bool, ◌&&◌, ◌||◌, ◌==◌, not, nat_lt, nat_le, List, ◌++◌, length, find, if◌then◌else◌, Option, None, Some, ℤ}
use Rattle.lb_base.specs.declared.font.Counts.{Counts}
use Rattle.lb_model_paper.specs.Fonts.{FontData}
use Rattle.lb_model_paper.specs.FontFiles.{byte_at, counts_of, end_of, exists, first_depth, first_extensible, first_height, first_info, first_italic, first_kern, first_parameter, first_step, first_width, font_of, half_at, named_place, word_at, words}

-- how many whole words there are
abbrev pub whole_words : List ℕ → ℕ
whole_words bytes = length bytes / 4

-- 1. There are at least six whole words. The word named is how many there are.
abbrev pub missing_counts : List ℕ → Option ℕ
missing_counts bytes = if nat_lt (whole_words bytes) 6 then Some (whole_words bytes) else None

-- 2. Every count is below 32768.
abbrev pub has_large_count : List ℕ → ℕ → Bool
has_large_count bytes word = nat_le 32768 (half_at bytes (2 * word)) || nat_le 32768 (half_at bytes (2 * word + 1))

unfoldable pub large_count : List ℕ → Option ℕ
large_count bytes = find (has_large_count bytes) (words 0 6)

-- 3. The header has two words or more; bc is at most ec + 1, and ec at most 255; there are a width, a height, a depth and
-- an italic correction; and the counts add up to the words of the file. They are looked at in this order.
unfoldable pub wrong_count : Counts → Option ℕ
wrong_count c =
    if nat_lt c.lh 2 then Some 0
    else if nat_lt (c.ec + 1) c.bc || nat_lt 255 c.ec then Some 1
    else if c.nw == 0 || c.nh == 0 then Some 2
    else if c.nd == 0 || c.ni == 0 then Some 3
    else if c.lf == end_of c then None
    else Some 0

-- 4. There are as many whole words as the first count says. The word named is how many there are.
abbrev pub missing_words : List ℕ → Counts → Option ℕ
missing_words bytes c = if nat_lt (whole_words bytes) c.lf then Some (whole_words bytes) else None

-- 5. The design size, a fix-word, is not negative, and at least a point.
abbrev pub wrong_design : List ℕ → Option ℕ
wrong_design bytes = if nat_lt (word_at bytes 7) 2147483648 && nat_le 65536 (word_at bytes 7 / 16) then None else Some 7

-- 6. The indices of each character are below the counts of what they index, and so is the place of its program.
abbrev pub is_wrong_info : List ℕ → Counts → ℕ → Bool
is_wrong_info bytes c word =
    nat_le c.nw (byte_at bytes word 0)
    || (nat_le c.nh (byte_at bytes word 1 / 16)
    || (nat_le c.nd (byte_at bytes word 1 % 16)
    || (nat_le c.ni (byte_at bytes word 2 / 4)
    || (byte_at bytes word 2 % 4 == 1 && nat_le c.nl (byte_at bytes word 3)))))

unfoldable pub wrong_info : List ℕ → Counts → Option ℕ
wrong_info bytes c = find (is_wrong_info bytes c) (words (first_info c) (first_width c))

-- 7. A fix-word is below 16 in size where its first byte is 0 or 255. The widths, heights, depths and italic corrections
-- are, and the first of each is 0.
abbrev pub is_large : List ℕ → ℕ → Bool
is_large bytes word = not (byte_at bytes word 0 == 0 || byte_at bytes word 0 == 255)

abbrev pub is_first_of_its_kind : Counts → ℕ → Bool
is_first_of_its_kind c word = word == first_width c || (word == first_height c || (word == first_depth c || word == first_italic c))

abbrev pub is_wrong_dimension : List ℕ → Counts → ℕ → Bool
is_wrong_dimension bytes c word = is_large bytes word || (is_first_of_its_kind c word && not (word_at bytes word == 0))

unfoldable pub wrong_dimension : List ℕ → Counts → Option ℕ
wrong_dimension bytes c = find (is_wrong_dimension bytes c) (words (first_width c) (first_step c))

-- 8. A step with a skip over 128 names a place of the table. Any other has a ligature that exists or a kern of the table,
-- and what it skips to, if it goes on, lies in the table.
abbrev pub is_wrong_action : List ℕ → Counts → ℕ → ℕ → Bool
is_wrong_action bytes c op rest = if nat_lt op 128 then not (exists bytes c rest) else nat_le c.nk (256 * (op - 128) + rest)

abbrev pub is_wrong_step : List ℕ → Counts → ℕ → Bool
is_wrong_step bytes c word =
    if nat_lt 128 (byte_at bytes word 0)
    then nat_le c.nl (named_place bytes word)
    else is_wrong_action bytes c (byte_at bytes word 2) (byte_at bytes word 3)
    || (nat_lt (byte_at bytes word 0) 128 && nat_le c.nl (word - first_step c + byte_at bytes word 0 + 1))

unfoldable pub wrong_step : List ℕ → Counts → Option ℕ
wrong_step bytes c = find (is_wrong_step bytes c) (words (first_step c) (first_kern c))

-- 9. The kerns are below 16 in size, and so are the parameters but the first, which is the slant.
unfoldable pub wrong_length : List ℕ → Counts → Option ℕ
wrong_length bytes c = find (is_large bytes) (words (first_kern c) (first_extensible c) ++ words (first_parameter c + 1) (end_of c))

-- a rule's number with the word that breaks it, or else what the later rules say
abbrev pub broken_or : ℕ → Option ℕ → Option (ℕ × ℕ) → Option (ℕ × ℕ)
broken_or rule (Some word) later = Some (rule, word)
broken_or rule None later = later

-- the rules on the sections behind the counts
abbrev pub broken_section : List ℕ → Counts → Option (ℕ × ℕ)
broken_section bytes c =
    broken_or 5 (wrong_design bytes)
    (broken_or 6 (wrong_info bytes c)
    (broken_or 7 (wrong_dimension bytes c)
    (broken_or 8 (wrong_step bytes c)
    (broken_or 9 (wrong_length bytes c) None))))

abbrev pub broken_with : List ℕ → Counts → Option (ℕ × ℕ)
broken_with bytes c = broken_or 3 (wrong_count c) (broken_or 4 (missing_words bytes c) (broken_section bytes c))

-- the first rule that these bytes break, with the first word that breaks it
unfoldable pub first_broken : List ℕ → Option (ℕ × ℕ)
first_broken bytes = broken_or 1 (missing_counts bytes) (broken_or 2 (large_count bytes) (broken_with bytes (counts_of bytes)))

-- these bytes keep every rule, and give this font at this size
pub record IsFont (bytes : List ℕ) (size : ℤ) (font : FontData) : Type 0 where
  pub kept : first_broken bytes ≡ None
  pub same : font ≡ font_of bytes size
