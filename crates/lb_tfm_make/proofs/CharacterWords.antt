-- The words of the characters of a file that is made.
use Rattle.std.proofs.Common.{◌≡◌, ◌≢◌, ℕ, ◌+◌, ◌*◌, ◌-◌, ◌/◌, ◌%◌, ◌<◌, ◌≤◌, Bool, true, false, cond, List, [], ◌∷◌, ◌++◌, length, get_or, map, arith, refl, ap, ◌∙◌, sym, Option, None, Some, ℤ}
use Prim.Native.Nat.{suc}
use Rattle.std.specs.Prelude.{slice_index, ◌==◌, ◌||◌, ◌&&◌, nat_le}
use Rattle.std.specs.List.{position_or_len}
use Rattle.lb_model_paper.specs.Dvi.{int_eq}
use Rattle.lb_model_paper.specs.FontFiles.{byte_at, first_info, first_width}
use Rattle.lb_model_paper.specs.FontRules.{is_wrong_info, wrong_info}
use Rattle.lb_tfm_make.specs.declared.spec.CharWidth.{CharWidth}
use Rattle.lb_tfm_make.specs.declared.spec.FontSpec.{FontSpec}
use Rattle.lb_tfm_make.specs.FontBytes.{Word, codes_of, distinct_widths, file_of, first_code, fix_word, info_for, info_section, info_word, last_code, lefts_of, place_among, step_section, width_index, width_section}
use Rattle.lb_tfm_make.specs.FontSpecs.{row_of}
use Rattle.lb_tfm_make.proofs.Counts.{length-infos, length-range, length-steps, length-widths}
use Rattle.lb_tfm_make.proofs.DistinctWidths.{int_same, width-among}
use Rattle.lb_tfm_make.proofs.Tests.{among-place, none-words, not-from, other, place-within, same}
use Rattle.lb_tfm_make.proofs.WholeFiles.{info-byte, made_counts}
use Rattle.lb_tfm_make.proofs.WordPlaces.{map-at, range-at}

-- ---- the width of a row

pub index-within : (rows : List CharWidth) (code : ℕ) (row : CharWidth) → row_of rows code ≡ Some row → width_index (distinct_widths rows) row.width < length (distinct_widths rows) + 1
unfolding width_index
index-within rows code row h = omega (arith, (among-place (int_eq row.width) (distinct_widths rows) (width-among rows code row h)).0)

pub index-some : (widths : List ℤ) (width : ℤ) → 0 < width_index widths width
unfolding width_index
index-some widths width = omega arith

-- the word at its index is that of the width
pub width-at : (spec : FontSpec) (code : ℕ) (row : CharWidth) → row_of spec.widths code ≡ Some row → get_or (width_section spec) (width_index (distinct_widths spec.widths) row.width) [] ≡ fix_word row.width
unfolding width_index
width-at spec code row h =
    let widths = distinct_widths spec.widths in
    let place = position_or_len (int_eq row.width) widths in
    let there = among-place (int_eq row.width) widths (width-among spec.widths code row h) in
    let e : place + 1 ≡ suc place = omega arith in
    ap (λ k. get_or (width_section spec) k []) e ∙ map-at fix_word widths place (Rattle.std.proofs.Common.pos 0) [] there.0
    ∙ sym (ap fix_word (int_same row.width (get_or widths place (Rattle.std.proofs.Common.pos 0)) (there.1 (Rattle.std.proofs.Common.pos 0))))

-- ---- the word of a code

pub info-at : (spec : FontSpec) (k : ℕ) → k < length (info_section spec) → get_or (info_section spec) k [] ≡ info_word spec.widths (distinct_widths spec.widths) (lefts_of spec) (first_code spec.widths + k)
info-at spec k low =
    let n = last_code 0 spec.widths + 1 - first_code spec.widths in
    let lt : k < n = omega (arith, length-infos spec) in
    let lr : k < length (codes_of spec.widths) = omega (arith, length-range (first_code spec.widths) n) in
    map-at (info_word spec.widths (distinct_widths spec.widths) (lefts_of spec)) (codes_of spec.widths) k 0 [] lr
    ∙ ap (info_word spec.widths (distinct_widths spec.widths) (lefts_of spec)) (range-at n (first_code spec.widths) k 0 lt)

-- the byte of the word of a code in the table
pub code-byte : (spec : FontSpec) (code n : ℕ) → first_code spec.widths ≤ code → code ≤ last_code 0 spec.widths → n < 4
    → byte_at (file_of spec) (8 + (code - first_code spec.widths)) n ≡ slice_index (info_word spec.widths (distinct_widths spec.widths) (lefts_of spec) code) n
code-byte spec code n low high small =
    let k = code - first_code spec.widths in
    let within : k < length (info_section spec) = omega (arith, length-infos spec) in
    let e : first_code spec.widths + k ≡ code = omega arith in
    info-byte spec k n within small ∙ ap (λ (w : Word). slice_index w n) (info-at spec k within ∙ ap (info_word spec.widths (distinct_widths spec.widths) (lefts_of spec)) e)

-- ---- its indices

pub record AreRight (nw nl : ℕ) (w : Word) : Type 0 where
  pub width : slice_index w 0 < nw
  pub height : slice_index w 1 / 16 < 2
  pub depth : slice_index w 1 % 16 < 2
  pub italic : slice_index w 2 / 4 < 1
  pub place : slice_index w 2 % 4 ≡ 1 → slice_index w 3 < nl

for-place : (nw nl : ℕ) (widths : List ℤ) (starts : List ℕ) (code : ℕ) (row : CharWidth) (place : Option ℕ) → place_among starts code ≡ place → width_index widths row.width < nw → length starts ≤ nl
    → AreRight nw nl (info_for widths starts code (Some row))
for-place nw nl widths starts code row None is low few =
    rw is (record { width = low; height = omega arith; depth = omega arith; italic = omega arith; place = λ e. absurd (omega arith) })
for-place nw nl widths starts code row (Some k) is low few =
    rw is (record { width = low; height = omega arith; depth = omega arith; italic = omega arith; place = λ e. omega (arith, place-within (λ o. o == code) 0 k starts is) })

for-row : (nw nl : ℕ) (widths : List ℤ) (starts : List ℕ) (code : ℕ) (found : Option CharWidth) → 0 < nw → ((row : CharWidth) → found ≡ Some row → width_index widths row.width < nw) → length starts ≤ nl
    → AreRight nw nl (info_for widths starts code found)
for-row nw nl widths starts code None some low few = record { width = some; height = omega arith; depth = omega arith; italic = omega arith; place = λ e. absurd (omega arith) }
for-row nw nl widths starts code (Some row) some low few = for-place nw nl widths starts code row (place_among starts code) refl (low row refl) few

pub word-right : (spec : FontSpec) (code : ℕ) → AreRight (length (width_section spec)) (length (step_section spec)) (info_word spec.widths (distinct_widths spec.widths) (lefts_of spec) code)
unfolding info_word
word-right spec code =
    for-row (length (width_section spec)) (length (step_section spec)) (distinct_widths spec.widths) (lefts_of spec) code (row_of spec.widths code) (omega arith)
    (λ row h. omega (arith, length-widths spec, index-within spec.widths code row h)) (omega (arith, length-steps spec))

tag-right : (nl b2 b3 : ℕ) (b : Bool) → (b2 % 4 == 1) ≡ b → (b ≡ true → b3 < nl) → (b && nat_le nl b3) ≡ false
tag-right nl b2 b3 true is h = let low = h refl in not-from nl b3 low
tag-right nl b2 b3 false is h = refl

right-word : (b0 b1 b2 b3 nw nh nd ni nl : ℕ) → b0 < nw → b1 / 16 < nh → b1 % 16 < nd → b2 / 4 < ni → (b2 % 4 ≡ 1 → b3 < nl)
    → (nat_le nw b0 || (nat_le nh (b1 / 16) || (nat_le nd (b1 % 16) || (nat_le ni (b2 / 4) || (b2 % 4 == 1 && nat_le nl b3))))) ≡ false
right-word b0 b1 b2 b3 nw nh nd ni nl h0 h1 h2 h3 h4 =
    rw (not-from nw b0 h0, not-from nh (b1 / 16) h1, not-from nd (b1 % 16) h2, not-from ni (b2 / 4) h3) (tag-right nl b2 b3 (b2 % 4 == 1) refl (λ e. h4 (Rattle.lb_tfm_make.proofs.Tests.is-same (b2 % 4) 1 e)))

pub infos-right : (spec : FontSpec) → wrong_info (file_of spec) (made_counts spec) ≡ None
unfolding wrong_info
infos-right spec =
    none-words (is_wrong_info (file_of spec) (made_counts spec)) (first_info (made_counts spec)) (first_width (made_counts spec)) (length (info_section spec)) (omega (arith, length-infos spec))
    (λ k low.
    let word = info_word spec.widths (distinct_widths spec.widths) (lefts_of spec) (first_code spec.widths + k) in
    let right = word-right spec (first_code spec.widths + k) in
    let s = λ (n : ℕ) (l : n < 4). info-byte spec k n low l ∙ ap (λ (w : Word). slice_index w n) (info-at spec k low) in
    rw (s 0 (omega arith), s 1 (omega arith), s 2 (omega arith), s 3 (omega arith))
    (right-word (slice_index word 0) (slice_index word 1) (slice_index word 2) (slice_index word 3) (length (width_section spec)) 2 2 1 (length (step_section spec)) right.width right.height right.depth right.italic right.place))
