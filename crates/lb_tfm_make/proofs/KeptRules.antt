-- A file that is made keeps the rules on its counts, its header, its characters, and its lengths.
use Rattle.std.proofs.Common.{◌≡◌, ◌≢◌, ℕ, ◌+◌, ◌*◌, ◌-◌, ◌/◌, ◌%◌, ◌<◌, ◌≤◌, Bool, true, false, List, [], length, get_or, arith, refl, ap, ◌∙◌, None, ℤ, pos, negsuc}
use Prim.Native.Nat.{suc}
use Rattle.std.specs.Prelude.{slice_index, ◌==◌, ◌||◌, ◌&&◌, not}
use Rattle.lb_base.specs.declared.font.Counts.{Counts}
use Rattle.lb_model_paper.specs.FontFiles.{byte_at, counts_of, half_at, word_at, first_width, first_height, first_depth, first_italic, end_of}
use Rattle.lb_model_paper.specs.FontRules.{is_first_of_its_kind, is_large, is_wrong_dimension, large_count, missing_counts, missing_words, whole_words, wrong_count, wrong_design}
use Rattle.lb_tfm_make.specs.declared.spec.FontSpec.{FontSpec}
use Rattle.lb_tfm_make.specs.FontBytes.{Word, file_of, fix_word, joined, number_word, sections}
use Rattle.lb_tfm_make.specs.FontSpecs.{is_fix}
use Rattle.lb_tfm_make.proofs.Counts.{length-body, length-infos}
use Rattle.lb_tfm_make.proofs.Tests.{above, from, is-above, not-above, not-from, other, same}
use Rattle.lb_tfm_make.proofs.WholeFiles.{IsMakeable, all, counts-are, header-byte, length-file, made_counts, short-body}

-- ---- the counts

pub counts-there : (spec : FontSpec) → missing_counts (file_of spec) ≡ None
counts-there spec =
    let six : 6 ≤ whole_words (file_of spec) = omega (arith, length-file spec) in
    rw (not-above (whole_words (file_of spec)) 6 six) refl

pub words-there : (spec : FontSpec) → missing_words (file_of spec) (made_counts spec) ≡ None
words-there spec =
    let all-words : 6 + length (joined (sections spec)) ≤ whole_words (file_of spec) = omega (arith, length-file spec) in
    rw (not-above (whole_words (file_of spec)) (6 + length (joined (sections spec))) all-words) refl

small-halves : (bytes : List ℕ) (c : Counts) → counts_of bytes ≡ c → c.lf < 32768 → c.lh < 32768 → c.bc < 32768 → c.ec < 32768 → c.nw < 32768 → c.nh < 32768 → c.nd < 32768 → c.ni < 32768 → c.nl < 32768 → c.nk < 32768 → c.ne < 32768 → c.np < 32768 → large_count bytes ≡ None
unfolding counts_of large_count
small-halves bytes c is h0 h1 h2 h3 h4 h5 h6 h7 h8 h9 h10 h11 =
    let s = λ (n : ℕ) (m : ℕ) (e : n ≡ m) (l : m < 32768). (let small : n < 32768 = omega arith in not-from 32768 n small) in
    rw (
      s (half_at bytes 0) c.lf (ap (λ (x : Counts). x.lf) is) h0,
      s (half_at bytes 1) c.lh (ap (λ (x : Counts). x.lh) is) h1,
      s (half_at bytes 2) c.bc (ap (λ (x : Counts). x.bc) is) h2,
      s (half_at bytes 3) c.ec (ap (λ (x : Counts). x.ec) is) h3,
      s (half_at bytes 4) c.nw (ap (λ (x : Counts). x.nw) is) h4,
      s (half_at bytes 5) c.nh (ap (λ (x : Counts). x.nh) is) h5,
      s (half_at bytes 6) c.nd (ap (λ (x : Counts). x.nd) is) h6,
      s (half_at bytes 7) c.ni (ap (λ (x : Counts). x.ni) is) h7,
      s (half_at bytes 8) c.nl (ap (λ (x : Counts). x.nl) is) h8,
      s (half_at bytes 9) c.nk (ap (λ (x : Counts). x.nk) is) h9,
      s (half_at bytes 10) c.ne (ap (λ (x : Counts). x.ne) is) h10,
      s (half_at bytes 11) c.np (ap (λ (x : Counts). x.np) is) h11,
    ) refl

pub counts-small : (spec : FontSpec) → IsMakeable spec → large_count (file_of spec) ≡ None
counts-small spec m =
    let short = short-body spec m in
    let body = length-body spec in
    let last = m.last in
    let low = m.low in
    small-halves (file_of spec) (made_counts spec) (counts-are spec m)
    (omega arith) (omega arith) (omega arith) (omega arith) (omega arith) (omega arith) (omega arith) (omega arith) (omega arith) (omega arith) (omega arith) (omega arith)

right-count : (c : Counts) → 2 ≤ c.lh → c.bc ≤ c.ec + 1 → c.ec ≤ 255 → 0 < c.nw → 0 < c.nh → 0 < c.nd → 0 < c.ni → c.lf ≡ end_of c → wrong_count c ≡ None
unfolding wrong_count
right-count c h1 h2 h3 h4 h5 h6 h7 h8 =
    let w : c.nw ≢ 0 = omega arith in
    let h : c.nh ≢ 0 = omega arith in
    let d : c.nd ≢ 0 = omega arith in
    let i : c.ni ≢ 0 = omega arith in
    rw (not-above c.lh 2 h1, not-above (c.ec + 1) c.bc h2, not-above 255 c.ec h3, other c.nw 0 w, other c.nh 0 h, other c.nd 0 d, other c.ni 0 i, same c.lf (end_of c) h8) refl

pub counts-right : (spec : FontSpec) → IsMakeable spec → wrong_count (made_counts spec) ≡ None
counts-right spec m =
    let last = m.last in
    let low = m.low in
    right-count (made_counts spec) (omega arith) (omega arith) (omega arith) (omega arith) (omega arith) (omega arith) (omega arith) (omega (arith, length-body spec, length-infos spec))

-- ---- the header

pub word-is : (n a b c d : ℕ) → n < 4294967296 → a ≡ slice_index (number_word n) 0 → b ≡ slice_index (number_word n) 1 → c ≡ slice_index (number_word n) 2 → d ≡ slice_index (number_word n) 3 → 16777216 * a + 65536 * b + 256 * c + d ≡ n
unfolding number_word
word-is n a b c d h ea eb ec ed = omega arith

pub header-word : (spec : FontSpec) (k n : ℕ) → k < 2 → n < 4294967296 → get_or (get_or (all spec) 1 []) k [] ≡ number_word n → word_at (file_of spec) (6 + k) ≡ n
unfolding word_at
header-word spec k n low fits is =
    let s = λ (i : ℕ) (l : i < 4). header-byte spec k i low l ∙ ap (λ (w : Word). slice_index w i) is in
    word-is n _ _ _ _ fits (s 0 (omega arith)) (s 1 (omega arith)) (s 2 (omega arith)) (s 3 (omega arith))

pub design-right : (spec : FontSpec) → 1048576 ≤ spec.design → spec.design < 2147483648 → wrong_design (file_of spec) ≡ None
design-right spec low high =
    let two : 1 < 2 = omega arith in
    let fits : spec.design < 4294967296 = omega arith in
    let is : word_at (file_of spec) 7 ≡ spec.design = header-word spec 1 spec.design two fits refl in
    let point : 65536 ≤ spec.design / 16 = omega arith in
    rw (is, above spec.design 2147483648 high, from 65536 (spec.design / 16) point) refl

-- ---- lengths

first-byte : (z : ℤ) → is_fix z ≡ true → (not (slice_index (fix_word z) 0 == 0 || slice_index (fix_word z) 0 == 255)) ≡ false
unfolding fix_word
first-byte (pos n) h =
    let low : n < 16777216 = is-above n 16777216 h in
    let e : n / 16777216 % 256 ≡ 0 = omega arith in
    rw (same (n / 16777216 % 256) 0 e) refl
first-byte (negsuc n) h =
    let low : n < 16777215 = is-above n 16777215 h in
    let e : (4294967296 - suc n) / 16777216 % 256 ≡ 255 = omega arith in
    let f : (4294967296 - suc n) / 16777216 % 256 ≢ 0 = omega arith in
    rw (same ((4294967296 - suc n) / 16777216 % 256) 255 e, other ((4294967296 - suc n) / 16777216 % 256) 0 f) refl

pub fix-small : (bytes : List ℕ) (word : ℕ) (z : ℤ) → byte_at bytes word 0 ≡ slice_index (fix_word z) 0 → is_fix z ≡ true → is_large bytes word ≡ false
fix-small bytes word z is h = rw is (first-byte z h)

-- a word of 0
pub zero-right : (bytes : List ℕ) (c : Counts) (word : ℕ) → ((n : ℕ) → n < 4 → byte_at bytes word n ≡ slice_index (number_word 0) n) → is_wrong_dimension bytes c word ≡ false
unfolding word_at number_word
zero-right bytes c word is =
    rw (is 0 (omega arith), is 1 (omega arith), is 2 (omega arith), is 3 (omega arith)) (elim (is_first_of_its_kind c word) as (λ (b : Bool). (b && false) ≡ false) [ true ↦ refl | false ↦ refl ])

-- a fix-word that is not the first of its kind
pub later-right : (bytes : List ℕ) (c : Counts) (word : ℕ) (z : ℤ) → byte_at bytes word 0 ≡ slice_index (fix_word z) 0 → is_fix z ≡ true → word ≢ first_width c → word ≢ first_height c → word ≢ first_depth c → word ≢ first_italic c
    → is_wrong_dimension bytes c word ≡ false
later-right bytes c word z is h w1 w2 w3 w4 =
    rw (fix-small bytes word z is h, other word (first_width c) w1, other word (first_height c) w2, other word (first_depth c) w3, other word (first_italic c) w4) refl
