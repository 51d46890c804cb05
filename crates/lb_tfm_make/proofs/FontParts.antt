-- The font of a file that is made: its id, its parameters, and the metrics of its characters.
use Rattle.std.proofs.Common.{◌≡◌, ℕ, ◌+◌, ◌*◌, ◌/◌, ◌<◌, ◌≤◌, Bool, true, false, List, [], length, get_or, map, arith, refl, ap, ◌∙◌, sym, Option, None, Some, ℤ, pos, negsuc, w32}
use Prim.Native.Nat.{zero, suc}
use Rattle.std.specs.Prelude.{slice_index, slice_index_or, ◌&&◌, nat_lt, nat_le, option_map}
use Rattle.std.specs.Int.{cast_signed, cast_unsigned, int_div_euclid}
use Rattle.std.specs.List.{range_with_len}
use Rattle.std.proofs.lemmas.Int.{to_z-of_z}
use mir.Val.{SFits, to_z, of_z}
use Rattle.lb_base.specs.declared.font.Metrics.{Metrics}
use Rattle.lb_model_paper.specs.FontFiles.{byte_at, codes_from, divisor, exists, first_depth, first_height, first_italic, first_parameter, first_width, id_in, info_of, metrics_for, metrics_in, parameters_in, scaled, scaled_at, slant, slant_in, word_at}
use Rattle.lb_tfm_make.specs.declared.spec.CharWidth.{CharWidth}
use Rattle.lb_tfm_make.specs.declared.spec.FontSpec.{FontSpec}
use Rattle.lb_tfm_make.specs.FontBytes.{Word, distinct_widths, file_of, first_code, fix_word, info_word, last_code, lefts_of, number_word, width_index, width_section}
use Rattle.lb_tfm_make.specs.FontSpecs.{are_fix, is_fix, rise_from, row_of}
use Rattle.lb_tfm_make.specs.MadeFonts.{id_at, metrics_at, parameters_at, scaled_bytes, scaled_fix}
use Rattle.lb_tfm_make.proofs.CharacterWords.{code-byte, index-within, width-at, word-right}
use Rattle.lb_tfm_make.proofs.Counts.{length-widths}
use Rattle.lb_tfm_make.proofs.KeptRules.{header-word, word-is}
use Rattle.lb_tfm_make.proofs.StepWords.{first-below, last-above, row-exists}
use Rattle.lb_tfm_make.proofs.Tests.{both, is-above, is-from, is-not-above}
use Rattle.lb_tfm_make.proofs.WholeFiles.{all, depth-byte, height-byte, italic-byte, made_counts, parameter-byte, width-byte}

-- ---- the id

pub id-is : (spec : FontSpec) (size : ℕ) → spec.check < 4294967296 → spec.design < 4294967296 → id_in (file_of spec) (pos size) ≡ id_at spec size
id-is spec size check design =
    rw (header-word spec 0 spec.check (omega arith) check refl, header-word spec 1 spec.design (omega arith) design refl) refl

-- ---- fix-words at a size

scaled-word : (bytes : List ℕ) (word size : ℕ) (w : Word) → ((n : ℕ) → n < 4 → byte_at bytes word n ≡ slice_index w n) → scaled_at bytes size word ≡ scaled_bytes size w
scaled-word bytes word size w is = rw (is 0 (omega arith), is 1 (omega arith), is 2 (omega arith), is 3 (omega arith)) refl

pub scaled-fix : (bytes : List ℕ) (word size : ℕ) (z : ℤ) → ((n : ℕ) → n < 4 → byte_at bytes word n ≡ slice_index (fix_word z) n) → scaled_at bytes size word ≡ scaled_fix size z
unfolding scaled_fix
scaled-fix bytes word size z is = scaled-word bytes word size (fix_word z) is

zero-quotient : (beta : ℕ) → 0 / beta ≡ 0
zero-quotient zero = refl
zero-quotient (suc beta) = omega arith

zero-product : (z beta : ℕ) → ((0 * z / 256 + 0 * z) / 256 + 0 * z) / beta ≡ 0
zero-product z beta = let e : (0 * z / 256 + 0 * z) / 256 + 0 * z ≡ 0 = omega arith in ap (λ x. x / beta) e ∙ zero-quotient beta

pub scaled-zero : (bytes : List ℕ) (word size : ℕ) → ((n : ℕ) → n < 4 → byte_at bytes word n ≡ slice_index (number_word 0) n) → scaled_at bytes size word ≡ pos 0
unfolding scaled number_word
scaled-zero bytes word size is =
    rw (is 0 (omega arith), is 1 (omega arith), is 2 (omega arith), is 3 (omega arith)) (ap pos (zero-product (size / divisor size) (16 / divisor size)))

-- ---- the parameters

param-word : (spec : FontSpec) (k size : ℕ) (z : ℤ) → k < 7 → get_or (get_or (all spec) 8 []) k [] ≡ fix_word z → scaled_at (file_of spec) size (first_parameter (made_counts spec) + k) ≡ scaled_fix size z
param-word spec k size z low is =
    scaled-fix (file_of spec) (first_parameter (made_counts spec) + k) size z (λ n small. parameter-byte spec k n low small ∙ ap (λ (w : Word). slice_index w n) is)

fits : (z : ℤ) → is_fix z ≡ true → SFits w32 z
fits (pos n) h = let low = is-above n 16777216 h in omega arith
fits (negsuc n) h = let low = is-above n 16777215 h in omega arith

unsigned-small : (z : ℤ) → is_fix z ≡ true → cast_unsigned w32 z < 4294967296
unsigned-small (pos n) h = let low = is-above n 16777216 h in omega arith
unsigned-small (negsuc n) h = let low = is-above n 16777215 h in omega arith

slant-word : (spec : FontSpec) → is_fix spec.params.slant ≡ true → word_at (file_of spec) (first_parameter (made_counts spec)) ≡ cast_unsigned w32 spec.params.slant
unfolding word_at fix_word number_word
slant-word spec fix =
    let c = made_counts spec in
    let e : first_parameter c ≡ first_parameter c + 0 = omega arith in
    let s = λ (n : ℕ) (small : n < 4). ap (λ word. byte_at (file_of spec) word n) e ∙ parameter-byte spec 0 n (omega arith) small in
    word-is (cast_unsigned w32 spec.params.slant) _ _ _ _ (unsigned-small spec.params.slant fix) (s 0 (omega arith)) (s 1 (omega arith)) (s 2 (omega arith)) (s 3 (omega arith))

slant-is : (spec : FontSpec) → is_fix spec.params.slant ≡ true → slant_in (file_of spec) (made_counts spec) ≡ int_div_euclid spec.params.slant (pos 16)
unfolding slant
slant-is spec fix =
    ap (λ n. int_div_euclid (cast_signed w32 n) (pos 16)) (slant-word spec fix) ∙ ap (λ z. int_div_euclid z (pos 16)) (to_z-of_z w32 spec.params.slant (fits spec.params.slant fix))

pub parameters-are : (spec : FontSpec) (size : ℕ) → are_fix spec.params ≡ true → parameters_in (file_of spec) (made_counts spec) size ≡ parameters_at spec.params size
parameters-are spec size fix =
    let p = spec.params in
    rw (
      slant-is spec (both (is_fix p.slant) _ fix).0,
      param-word spec 1 size p.space (omega arith) refl,
      param-word spec 2 size p.stretch (omega arith) refl,
      param-word spec 3 size p.shrink (omega arith) refl,
      param-word spec 4 size p.x_height (omega arith) refl,
      param-word spec 5 size p.quad (omega arith) refl,
      param-word spec 6 size p.extra_space (omega arith) refl,
    ) refl

-- ---- the characters

info-bytes : (spec : FontSpec) (code : ℕ) (row : CharWidth) → row_of spec.widths code ≡ Some row
    → (slice_index (info_word spec.widths (distinct_widths spec.widths) (lefts_of spec) code) 0 ≡ width_index (distinct_widths spec.widths) row.width) × (slice_index (info_word spec.widths (distinct_widths spec.widths) (lefts_of spec) code) 1 ≡ 17)
unfolding info_word
info-bytes spec code row h = rw h (refl, refl)

metrics-row : (spec : FontSpec) (size code : ℕ) (row : CharWidth) → first_code spec.widths ≤ code → code ≤ last_code 0 spec.widths → row_of spec.widths code ≡ Some row
    → metrics_in (file_of spec) (made_counts spec) size (info_of (made_counts spec) code) ≡ metrics_at spec size row
metrics-row spec size code row low high h =
    let c = made_counts spec in
    let widths = distinct_widths spec.widths in
    let b = info-bytes spec code row h in
    let index = width_index widths row.width in
    let within : index < length (width_section spec) = omega (arith, index-within spec.widths code row h, length-widths spec) in
    let b0 = code-byte spec code 0 low high (omega arith) ∙ b.0 in
    let b1 = code-byte spec code 1 low high (omega arith) ∙ b.1 in
    let b2 = code-byte spec code 2 low high (omega arith) in
    let right = word-right spec code in
    let italic : slice_index (info_word spec.widths widths (lefts_of spec) code) 2 / 4 ≡ 0 = omega (arith, right.italic) in
    let none : first_italic c + 0 ≡ first_italic c = omega arith in
    let w : scaled_at (file_of spec) size (first_width c + index) ≡ scaled_fix size row.width =
    scaled-fix (file_of spec) (first_width c + index) size row.width (λ n small. width-byte spec index n within small ∙ ap (λ (w : Word). slice_index w n) (width-at spec code row h)) in
    let t : scaled_at (file_of spec) size (first_height c + 1) ≡ scaled_fix size spec.height =
    scaled-fix (file_of spec) (first_height c + 1) size spec.height (λ n small. height-byte spec 1 n (omega arith) small) in
    let d : scaled_at (file_of spec) size (first_depth c + 1) ≡ scaled_fix size spec.depth =
    scaled-fix (file_of spec) (first_depth c + 1) size spec.depth (λ n small. depth-byte spec 1 n (omega arith) small) in
    let i : scaled_at (file_of spec) size (first_italic c + 0) ≡ pos 0 = ap (scaled_at (file_of spec) size) none ∙ scaled-zero (file_of spec) (first_italic c) size (λ n small. italic-byte spec n small) in
    rw (b0, b1, b2, italic) (rw (w, t, d, i) refl)

no-byte : (spec : FontSpec) (code : ℕ) → row_of spec.widths code ≡ None → slice_index (info_word spec.widths (distinct_widths spec.widths) (lefts_of spec) code) 0 ≡ 0
unfolding info_word
no-byte spec code h = rw h refl

missing-cases : (spec : FontSpec) (code : ℕ) (a b : Bool) → nat_le (first_code spec.widths) code ≡ a → nat_le code (last_code 0 spec.widths) ≡ b → row_of spec.widths code ≡ None
    → (a && (b && nat_lt 0 (byte_at (file_of spec) (info_of (made_counts spec) code) 0))) ≡ false
missing-cases spec code false b low high h = refl
missing-cases spec code true false low high h = refl
missing-cases spec code true true low high h =
    rw (code-byte spec code 0 (is-from (first_code spec.widths) code low) (is-from code (last_code 0 spec.widths) high) (omega arith) ∙ no-byte spec code h) refl

pub missing : (spec : FontSpec) (code : ℕ) → row_of spec.widths code ≡ None → exists (file_of spec) (made_counts spec) code ≡ false
missing spec code h = missing-cases spec code (nat_le (first_code spec.widths) code) (nat_le code (last_code 0 spec.widths)) refl refl h

metrics-cases : (spec : FontSpec) (size code : ℕ) (found : Option CharWidth) → rise_from 0 spec.widths ≡ true → row_of spec.widths code ≡ found → metrics_for (file_of spec) (made_counts spec) size code ≡ option_map (metrics_at spec size) found
metrics-cases spec size code None rise is = rw (missing spec code is) refl
metrics-cases spec size code (Some row) rise is =
    rw (row-exists spec code row rise is) (ap (λ (m : Metrics). Some m) (metrics-row spec size code row (first-below spec.widths code row rise is) (last-above spec.widths code row rise is) is))

pub metrics-are : (spec : FontSpec) (size code : ℕ) → rise_from 0 spec.widths ≡ true → metrics_for (file_of spec) (made_counts spec) size code ≡ option_map (metrics_at spec size) (row_of spec.widths code)
metrics-are spec size code rise = metrics-cases spec size code (row_of spec.widths code) rise refl

-- ---- a table of all codes

pub entry-at : {X : Type 0} (f : ℕ → Option X) (n start k : ℕ) → k < n → slice_index_or (map f (range_with_len start n)) k None ≡ f (start + k)
entry-at f zero start k l = absurd (omega arith)
entry-at f (suc n) start zero l = let e : start ≡ start + 0 = omega arith in ap f e
entry-at f (suc n) start (suc k) l =
    let e : start + 1 + k ≡ start + suc k = omega arith in
    let lt : k < n = omega arith in
    entry-at f n (start + 1) k lt ∙ ap f e

entry-past : {X : Type 0} (f : ℕ → Option X) (n start k : ℕ) → n ≤ k → slice_index_or (map f (range_with_len start n)) k None ≡ None
entry-past f zero start k l = refl
entry-past f (suc n) start zero l = absurd (omega arith)
entry-past f (suc n) start (suc k) l = let le : n ≤ k = omega arith in entry-past f n (start + 1) k le

pub code-at : {X : Type 0} (f : ℕ → Option X) (code : ℕ) → code < 256 → slice_index_or (map f (codes_from 0)) code None ≡ f code
unfolding codes_from
code-at f code low = let e : 0 + code ≡ code = omega arith in entry-at f 256 0 code low ∙ ap f e

pub code-past : {X : Type 0} (f : ℕ → Option X) (code : ℕ) → 256 ≤ code → slice_index_or (map f (codes_from 0)) code None ≡ None
unfolding codes_from
code-past f code high = entry-past f 256 0 code high

no-row-past : (rows : List CharWidth) (code : ℕ) (found : Option CharWidth) → rise_from 0 rows ≡ true → last_code 0 rows < code → row_of rows code ≡ found → row_of rows code ≡ None
no-row-past rows code None rise high is = is
no-row-past rows code (Some row) rise high is = absurd (omega (arith, last-above rows code row rise is))

pub row-past : (rows : List CharWidth) (code : ℕ) → rise_from 0 rows ≡ true → last_code 0 rows < code → row_of rows code ≡ None
row-past rows code rise high = no-row-past rows code (row_of rows code) rise high refl

table-cases : {X : Type 0} (f : ℕ → Option X) (code : ℕ) (b : Bool) → nat_lt code 256 ≡ b → (256 ≤ code → f code ≡ None) → slice_index_or (map f (codes_from 0)) code None ≡ f code
table-cases f code true is past = code-at f code (is-above code 256 is)
table-cases f code false is past = let high : 256 ≤ code = is-not-above code 256 is in code-past f code high ∙ sym (past high)

-- the table has what the function gives of each code, where it gives nothing from 256 on
pub table-at : {X : Type 0} (f : ℕ → Option X) (code : ℕ) → (256 ≤ code → f code ≡ None) → slice_index_or (map f (codes_from 0)) code None ≡ f code
table-at f code past = table-cases f code (nat_lt code 256) refl past
