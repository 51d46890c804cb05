-- What a TFM file says at a size (the TFM format, tex.web, part 30). The file has words of four bytes, which are numbered
-- from 0. Lengths are in scaled points.
use Rattle.std.specs.Prelude.{ℕ, ◌+◌, ◌-◌, ◌*◌, ◌/◌, ◌%◌, Bool, false, ◌&&◌, ◌==◌, nat_lt, nat_le, List, [], map, slice_index, if◌then◌else◌, Option, None, Some, ℤ, pos, ◌+ℤ◌, ◌-ℤ◌, ◌*ℤ◌, ◌≤ℤ◌, ◌<ℤ◌, unsigned_abs}
use Rattle.std.specs.Int.{w32, cast_signed, int_div_euclid}
use Rattle.std.specs.List.{range_with_len}
use Rattle.lb_base.specs.declared.page.FontId.{FontId}
use Rattle.lb_base.specs.declared.font.Metrics.{Metrics}
use Rattle.lb_base.specs.declared.font.Parameters.{Parameters}
use Rattle.lb_base.specs.declared.font.LigStep.{LigStep}
use Rattle.lb_base.specs.declared.font.LigStep.TheVariants.{Nothing, Kern, Lig}
use Rattle.lb_base.specs.declared.font.Step.{Step}
use Rattle.lb_base.specs.declared.font.Counts.{Counts}
use Rattle.lb_model_paper.specs.Fonts.{FontData}

-- ---- numbers

-- two bytes, the high one first, by their place counted in such pairs
unfoldable pub half_at : List ℕ → ℕ → ℕ
half_at bytes k = 256 * slice_index bytes (2 * k) + slice_index bytes (2 * k + 1)

-- the byte `n` of a word, from 0 to 3
unfoldable pub byte_at : List ℕ → ℕ → ℕ → ℕ
byte_at bytes word n = slice_index bytes (4 * word + n)

-- a word as a number, the high byte first
unfoldable pub word_at : List ℕ → ℕ → ℕ
word_at bytes word = 16777216 * byte_at bytes word 0 + 65536 * byte_at bytes word 1 + 256 * byte_at bytes word 2 + byte_at bytes word 3

-- ---- the sections (section 540 of tex.web)

unfoldable pub counts_of : List ℕ → Counts
counts_of bytes = record {
  lf = half_at bytes 0;
  lh = half_at bytes 1;
  bc = half_at bytes 2;
  ec = half_at bytes 3;
  nw = half_at bytes 4;
  nh = half_at bytes 5;
  nd = half_at bytes 6;
  ni = half_at bytes 7;
  nl = half_at bytes 8;
  nk = half_at bytes 9;
  ne = half_at bytes 10;
  np = half_at bytes 11;
}

-- the first word of each section: the counts have six words, then the header follows
abbrev pub first_info : Counts → ℕ
first_info c = 6 + c.lh

abbrev pub first_width : Counts → ℕ
first_width c = first_info c + (c.ec + 1 - c.bc)

abbrev pub first_height : Counts → ℕ
first_height c = first_width c + c.nw

abbrev pub first_depth : Counts → ℕ
first_depth c = first_height c + c.nh

abbrev pub first_italic : Counts → ℕ
first_italic c = first_depth c + c.nd

abbrev pub first_step : Counts → ℕ
first_step c = first_italic c + c.ni

abbrev pub first_kern : Counts → ℕ
first_kern c = first_step c + c.nl

abbrev pub first_extensible : Counts → ℕ
first_extensible c = first_kern c + c.nk

abbrev pub first_parameter : Counts → ℕ
first_parameter c = first_extensible c + c.ne

abbrev pub end_of : Counts → ℕ
end_of c = first_parameter c + c.np

-- the words from one up to another
abbrev pub words : ℕ → ℕ → List ℕ
words start end = range_with_len start (end - start)

-- ---- lengths (sections 571 and 572 of tex.web)

-- The size is halved until it is below 2^23, so it is divided by this power of two; sizes are below 2^27.
abbrev pub divisor : ℕ → ℕ
divisor size = if nat_lt size 8388608 then 1 else if nat_lt size 16777216 then 2 else if nat_lt size 33554432 then 4 else if nat_lt size 67108864 then 8 else 16

-- the product of a halved size and the bytes b, c and d of a fix-word, which stand for b/2^4 + c/2^12 + d/2^20
abbrev pub product : ℕ → ℕ → ℕ → ℕ → ℕ → ℕ
product z beta b c d = ((d * z / 256 + c * z) / 256 + b * z) / beta

-- the fix-word of bytes a, b, c and d at a size: a byte a of 255 stands for -16
unfoldable pub scaled : ℕ → ℕ → ℕ → ℕ → ℕ → ℤ
scaled size a b c d =
    let z : ℕ = size / divisor size in
    if a == 255
    then pos (product z (16 / divisor size) b c d) -ℤ pos (16 * divisor size * z)
    else pos (product z (16 / divisor size) b c d)

abbrev pub scaled_at : List ℕ → ℕ → ℕ → ℤ
scaled_at bytes size word = scaled size (byte_at bytes word 0) (byte_at bytes word 1) (byte_at bytes word 2) (byte_at bytes word 3)

-- What this is in arithmetic: a fix-word is a number of units of 1/2^20, whose first byte is 0 or 255 for its sign; and its
-- value at a size is its product with the size, rounded down, where the size is first rounded down to a multiple of its divisor.
abbrev pub fix_word : ℕ → ℕ → ℕ → ℕ → ℤ
fix_word a b c d = if a == 255 then pos (65536 * b + 256 * c + d) -ℤ pos 16777216 else pos (65536 * b + 256 * c + d)

pub record IsFloor (value numerator : ℤ) (denominator : ℕ) : Type 0 where
  pub low : (value *ℤ pos denominator) ≤ℤ numerator
  pub high : numerator <ℤ ((value +ℤ pos 1) *ℤ pos denominator)

abbrev pub IsScaled : ℕ → ℤ → ℤ → Type 0
IsScaled size fix value = IsFloor value (fix *ℤ pos (divisor size * (size / divisor size))) 1048576

-- A fix-word has 20 binary places. The slant is a pure number, which is rounded down to 16, at every size.
unfoldable pub slant : ℕ → ℤ
slant word = int_div_euclid (cast_signed w32 word) (pos 16)

-- ---- characters (sections 543 and 544 of tex.web)

-- the word of a character, of a code from bc to ec
abbrev pub info_of : Counts → ℕ → ℕ
info_of c code = first_info c + (code - c.bc)

-- a character exists where its width index is not 0
abbrev pub exists : List ℕ → Counts → ℕ → Bool
exists bytes c code = nat_le c.bc code && (nat_le code c.ec && nat_lt 0 (byte_at bytes (info_of c code) 0))

-- its word has eight bits for the width's index, then four for the height's and for the depth's, six for the italic
-- correction's, two for the tag, and eight for the remainder
abbrev pub metrics_in : List ℕ → Counts → ℕ → ℕ → Metrics
metrics_in bytes c size info = record {
  width = scaled_at bytes size (first_width c + byte_at bytes info 0);
  height = scaled_at bytes size (first_height c + byte_at bytes info 1 / 16);
  depth = scaled_at bytes size (first_depth c + byte_at bytes info 1 % 16);
  italic = scaled_at bytes size (first_italic c + byte_at bytes info 2 / 4);
}

abbrev pub metrics_for : List ℕ → Counts → ℕ → ℕ → Option Metrics
metrics_for bytes c size code = if exists bytes c code then Some (metrics_in bytes c size (info_of c code)) else None

-- ---- ligature and kerning programs (section 545 of tex.web)

-- A number 4a + 2b + c, where b and c are 0 or 1 and a is at most b + c, is a kind of ligature. Every other below 128 counts as 0.
abbrev pub is_ligature : ℕ → Bool
is_ligature op = nat_le (op / 4) (op / 2 % 2 + op % 2)

abbrev pub ligature : ℕ → ℕ → LigStep
ligature op code = if is_ligature op then Lig code (op / 2 % 2 == 1) (op % 2 == 1) (op / 4) else Lig code false false 0

-- what a step says by its third and fourth byte: a ligature, or which kern it has
abbrev pub action_at : List ℕ → Counts → ℕ → ℕ → ℕ → LigStep
action_at bytes c size op rest = if nat_lt op 128 then ligature op rest else Kern (scaled_at bytes size (first_kern c + (256 * (op - 128) + rest)))

-- a step that skips more than 128 does nothing
abbrev pub step_at : List ℕ → Counts → ℕ → ℕ → Step
step_at bytes c size word = record {
  skip = byte_at bytes word 0;
  next = byte_at bytes word 1;
  action = if nat_lt 128 (byte_at bytes word 0) then Nothing else action_at bytes c size (byte_at bytes word 2) (byte_at bytes word 3);
}

-- the place that a step with a skip over 128 names
abbrev pub named_place : List ℕ → ℕ → ℕ
named_place bytes word = 256 * byte_at bytes word 2 + byte_at bytes word 3

-- A program begins at this place of the table, or, where the step there skips more than 128, at the place that it names.
abbrev pub restarted : List ℕ → Counts → ℕ → ℕ
restarted bytes c place = if nat_lt 128 (byte_at bytes (first_step c + place) 0) then named_place bytes (first_step c + place) else place

-- A character of tag 1 has a program, and its remainder tells where.
abbrev pub start_for : List ℕ → Counts → ℕ → Option ℕ
start_for bytes c code =
    if exists bytes c code && byte_at bytes (info_of c code) 2 % 4 == 1
    then Some (restarted bytes c (byte_at bytes (info_of c code) 3))
    else None

-- a first step that skips 255 tells the code of the right edge, and a last one where the program of the left edge begins
abbrev pub edge_code_in : List ℕ → Counts → Option ℕ
edge_code_in bytes c = if nat_lt 0 c.nl && byte_at bytes (first_step c) 0 == 255 then Some (byte_at bytes (first_step c) 1) else None

abbrev pub edge_start_in : List ℕ → Counts → Option ℕ
edge_start_in bytes c = if nat_lt 0 c.nl && byte_at bytes (first_kern c - 1) 0 == 255 then Some (named_place bytes (first_kern c - 1)) else None

-- ---- the font

-- parameter k, counted from 0; one that is missing is 0 (section 547 of tex.web)
abbrev pub parameter : List ℕ → Counts → ℕ → ℕ → ℤ
parameter bytes c size k = if nat_lt k c.np then scaled_at bytes size (first_parameter c + k) else pos 0

abbrev pub slant_in : List ℕ → Counts → ℤ
slant_in bytes c = if nat_lt 0 c.np then slant (word_at bytes (first_parameter c)) else pos 0

abbrev pub parameters_in : List ℕ → Counts → ℕ → Parameters
parameters_in bytes c size = record {
  slant = slant_in bytes c;
  space = parameter bytes c size 1;
  stretch = parameter bytes c size 2;
  shrink = parameter bytes c size 3;
  x_height = parameter bytes c size 4;
  quad = parameter bytes c size 5;
  extra_space = parameter bytes c size 6;
}

-- a font has no name yet; its check is the first word of the header, and its design size in scaled points the second by 16
abbrev pub id_in : List ℕ → ℤ → FontId
id_in bytes size = record { name = []; size = size; check = word_at bytes 6; design = word_at bytes 7 / 16 }

-- the codes from this one up to 255
unfoldable pub codes_from : ℕ → List ℕ
codes_from code = words code 256

abbrev pub font_with : List ℕ → Counts → ℤ → FontData
font_with bytes c size = record {
  id = id_in bytes size;
  parameters = parameters_in bytes c (unsigned_abs size);
  metrics = map (metrics_for bytes c (unsigned_abs size)) (codes_from 0);
  steps = map (step_at bytes c (unsigned_abs size)) (words (first_step c) (first_kern c));
  starts = map (start_for bytes c) (codes_from 0);
  edge_start = edge_start_in bytes c;
  edge_code = edge_code_in bytes c;
}

-- the font that these bytes give at a size above 0
unfoldable pub font_of : List ℕ → ℤ → FontData
font_of bytes size = font_with bytes (counts_of bytes) size
