-- The file of a description: its counts, and the bytes of its sections.
use Rattle.std.proofs.Common.{◌≡◌, ℕ, ◌+◌, ◌*◌, ◌/◌, ◌%◌, ◌<◌, ◌≤◌, List, [], ◌∷◌, ◌++◌, length, get_or, drop, arith, refl, ap, ◌∙◌, sym, Option, None, Some, ℤ}
use Rattle.std.specs.Prelude.{slice_index}
use Rattle.std.specs.List.{concat}
use Rattle.lb_base.specs.declared.font.Counts.{Counts}
use Rattle.lb_model_paper.specs.FontFiles.{byte_at, counts_of, half_at, first_width, first_height, first_depth, first_italic, first_step, first_parameter}
use Rattle.lb_tfm_make.specs.declared.spec.CharWidth.{CharWidth}
use Rattle.lb_tfm_make.specs.declared.spec.FontSpec.{FontSpec}
use Rattle.lb_tfm_make.specs.declared.spec.PairStep.{PairStep}
use Rattle.lb_tfm_make.specs.FontBytes.{Word, codes_of, count_word, count_words, distinct_widths, file_of, first_code, fix_word, info_for, info_section, info_word, joined, last_code, lefts_of, number_word, place_among, program_words, programs, restarts, sections, step_section, steps_behind, width_section}
use Rattle.lb_tfm_make.specs.FontSpecs.{row_of}
use Rattle.lb_tfm_make.proofs.Counts.{few-lefts, few-programs, length-body, length-infos, length-steps}
use Rattle.lb_tfm_make.proofs.WordPlaces.{AllFour, concat-append, four-append, four-map, length-concat, section-byte, start}

pub file-from : (spec : FontSpec) (out1 out2 : List ℕ) (body : List Word) → out1 ≡ [] ++ concat (count_words spec) → body ≡ joined (sections spec) → out2 ≡ out1 ++ concat body → out2 ≡ file_of spec
unfolding file_of
file-from spec out1 out2 body e1 e2 e3 =
    e3 ∙ ap (λ x. x ++ concat body) e1 ∙ ap (λ (x : List Word). concat (count_words spec) ++ concat x) e2 ∙ sym (concat-append (count_words spec) (joined (sections spec)))

abbrev pub all : FontSpec → List (List Word)
all spec = count_words spec ∷ sections spec

-- ---- each word has four bytes

number-four : (n : ℕ) → length (number_word n) ≡ 4
unfolding number_word
number-four n = refl

fix-four : (z : ℤ) → length (fix_word z) ≡ 4
unfolding fix_word
fix-four z = refl

count-four : (a b : ℕ) → length (count_word a b) ≡ 4
unfolding count_word
count-four a b = refl

info-four : (widths : List ℤ) (starts : List ℕ) (code : ℕ) (found : Option CharWidth) (place : Option ℕ) → place_among starts code ≡ place → length (info_for widths starts code found) ≡ 4
info-four widths starts code None place is = refl
info-four widths starts code (Some row) None is = rw is refl
info-four widths starts code (Some row) (Some k) is = rw is refl

info-word-four : (rows : List CharWidth) (widths : List ℤ) (starts : List ℕ) (code : ℕ) → length (info_word rows widths starts code) ≡ 4
unfolding info_word
info-word-four rows widths starts code = info-four widths starts code (row_of rows code) (place_among starts code) refl

restarts-four : (steps : List PairStep) (place : ℕ) (codes : List ℕ) → AllFour (restarts steps place codes)
unfolding restarts
restarts-four steps place [] = tt
restarts-four steps place (code ∷ codes) = (refl, restarts-four steps (place + length (steps_behind steps code)) codes)

program-four : (steps : List PairStep) → AllFour (program_words steps)
unfolding program_words
program-four [] = tt
program-four (step ∷ steps) = (refl, program-four steps)

programs-four : (steps : List PairStep) (codes : List ℕ) → AllFour (programs steps codes)
unfolding programs
programs-four steps [] = tt
programs-four steps (code ∷ codes) = four-append (program_words (steps_behind steps code)) (programs steps codes) (program-four (steps_behind steps code)) (programs-four steps codes)

pub all-four : (spec : FontSpec) → AllFour (joined (all spec))
all-four spec =
    let starts = lefts_of spec in
    let params : AllFour (joined (drop 7 (sections spec))) = (fix-four _, (fix-four _, (fix-four _, (fix-four _, (fix-four _, (fix-four _, (fix-four _, tt))))))) in
    let steps : AllFour (step_section spec) = four-append (restarts spec.steps (length starts) starts) (programs spec.steps starts) (restarts-four spec.steps (length starts) starts) (programs-four spec.steps starts) in
    let from-steps : AllFour (joined (drop 6 (sections spec))) = four-append (step_section spec) (joined (drop 7 (sections spec))) steps params in
    let sizes : AllFour (joined (drop 3 (sections spec))) = (number-four 0, (fix-four spec.height, (number-four 0, (fix-four spec.depth, (number-four 0, from-steps))))) in
    let widths : AllFour (width_section spec) = (number-four 0, four-map fix_word fix-four (distinct_widths spec.widths)) in
    let from-widths : AllFour (joined (drop 2 (sections spec))) = four-append (width_section spec) (joined (drop 3 (sections spec))) widths sizes in
    let infos : AllFour (info_section spec) = four-map (info_word spec.widths (distinct_widths spec.widths) starts) (info-word-four spec.widths (distinct_widths spec.widths) starts) (codes_of spec.widths) in
    let from-infos : AllFour (joined (drop 1 (sections spec))) = four-append (info_section spec) (joined (drop 2 (sections spec))) infos from-widths in
    (count-four _ _, (count-four _ _, (count-four _ _, (count-four _ _, (count-four _ _, (count-four _ _, (number-four spec.check, (number-four spec.design, from-infos))))))))

-- ---- the counts

abbrev pub made_counts : FontSpec → Counts
made_counts spec = record {
  lf = 6 + length (joined (sections spec));
  lh = 2;
  bc = first_code spec.widths;
  ec = last_code 0 spec.widths;
  nw = length (width_section spec);
  nh = 2;
  nd = 2;
  ni = 1;
  nl = length (step_section spec);
  nk = 0;
  ne = 0;
  np = 7;
}

half-is : (n : ℕ) → n < 65536 → 256 * (n / 256 % 256) + n % 256 ≡ n
half-is n h = omega arith

-- the first halves of a file that begins with such words
halves : (a b c d e f g h i j k l : ℕ) (rest : List Word) → a < 65536 → b < 65536 → c < 65536 → d < 65536 → e < 65536 → f < 65536 → g < 65536 → h < 65536 → i < 65536 → j < 65536 → k < 65536 → l < 65536
    → counts_of (concat (count_word a b ∷ count_word c d ∷ count_word e f ∷ count_word g h ∷ count_word i j ∷ count_word k l ∷ rest))
    ≡ record { lf = a; lh = b; bc = c; ec = d; nw = e; nh = f; nd = g; ni = h; nl = i; nk = j; ne = k; np = l }
unfolding counts_of half_at count_word
halves a b c d e f g h i j k l rest pa pb pc pd pe pf pg ph pi pj pk pl =
    rw (half-is a pa, half-is b pb, half-is c pc, half-is d pd, half-is e pe, half-is f pf, half-is g pg, half-is h ph, half-is i pi, half-is j pj, half-is k pk, half-is l pl) refl

-- what is known of a description whose file is made
pub record IsMakeable (spec : FontSpec) : Type 0 where
  pub some : 0 < length spec.widths
  pub low : first_code spec.widths ≤ last_code 0 spec.widths
  pub last : last_code 0 spec.widths < 256
  pub few : length spec.steps ≤ 4096
  pub widths : length (width_section spec) ≤ 256

pub short-body : (spec : FontSpec) → IsMakeable spec → length (joined (sections spec)) < 32000
short-body spec m = omega (arith, length-body spec, length-infos spec, length-steps spec, few-lefts spec m.last, few-programs spec)

pub counts-are : (spec : FontSpec) → IsMakeable spec → counts_of (file_of spec) ≡ made_counts spec
unfolding file_of
counts-are spec m =
    let short = short-body spec m in
    let body = length-body spec in
    let last = m.last in
    let low = m.low in
    halves (6 + length (joined (sections spec))) 2 (first_code spec.widths) (last_code 0 spec.widths) (length (width_section spec)) 2 2 1 (length (step_section spec)) 0 0 7 (joined (sections spec))
    (omega arith) (omega arith) (omega arith) (omega arith) (omega arith) (omega arith) (omega arith) (omega arith) (omega arith) (omega arith) (omega arith) (omega arith)

pub length-file : (spec : FontSpec) → length (file_of spec) ≡ 4 * (6 + length (joined (sections spec)))
unfolding file_of
length-file spec =
    let six : 4 * length (joined (all spec)) ≡ 4 * (6 + length (joined (sections spec))) = omega arith in
    length-concat (joined (all spec)) (all-four spec) ∙ six

-- ---- the bytes of the sections

pub file-byte : (spec : FontSpec) (j k n word : ℕ) → k < length (get_or (all spec) j []) → n < 4 → word ≡ start (all spec) j + k → byte_at (file_of spec) word n ≡ slice_index (get_or (get_or (all spec) j []) k []) n
unfolding file_of
file-byte spec j k n word low small is = section-byte (all spec) j k n word (all-four spec) low small is

pub header-byte : (spec : FontSpec) (k n : ℕ) → k < 2 → n < 4 → byte_at (file_of spec) (6 + k) n ≡ slice_index (get_or (get_or (all spec) 1 []) k []) n
header-byte spec k n low small = file-byte spec 1 k n (6 + k) low small (omega arith)

pub info-byte : (spec : FontSpec) (k n : ℕ) → k < length (info_section spec) → n < 4 → byte_at (file_of spec) (8 + k) n ≡ slice_index (get_or (info_section spec) k []) n
info-byte spec k n low small = file-byte spec 2 k n (8 + k) low small (omega arith)

pub width-byte : (spec : FontSpec) (k n : ℕ) → k < length (width_section spec) → n < 4 → byte_at (file_of spec) (first_width (made_counts spec) + k) n ≡ slice_index (get_or (width_section spec) k []) n
width-byte spec k n low small = file-byte spec 3 k n (first_width (made_counts spec) + k) low small (omega (arith, length-infos spec))

pub height-byte : (spec : FontSpec) (k n : ℕ) → k < 2 → n < 4 → byte_at (file_of spec) (first_height (made_counts spec) + k) n ≡ slice_index (get_or (get_or (all spec) 4 []) k []) n
height-byte spec k n low small = file-byte spec 4 k n (first_height (made_counts spec) + k) low small (omega (arith, length-infos spec))

pub depth-byte : (spec : FontSpec) (k n : ℕ) → k < 2 → n < 4 → byte_at (file_of spec) (first_depth (made_counts spec) + k) n ≡ slice_index (get_or (get_or (all spec) 5 []) k []) n
depth-byte spec k n low small = file-byte spec 5 k n (first_depth (made_counts spec) + k) low small (omega (arith, length-infos spec))

pub italic-byte : (spec : FontSpec) (n : ℕ) → n < 4 → byte_at (file_of spec) (first_italic (made_counts spec)) n ≡ slice_index (number_word 0) n
italic-byte spec n small = let low : 0 < 1 = omega arith in file-byte spec 6 0 n (first_italic (made_counts spec)) low small (omega (arith, length-infos spec))

pub step-byte : (spec : FontSpec) (k n : ℕ) → k < length (step_section spec) → n < 4 → byte_at (file_of spec) (first_step (made_counts spec) + k) n ≡ slice_index (get_or (step_section spec) k []) n
step-byte spec k n low small = file-byte spec 7 k n (first_step (made_counts spec) + k) low small (omega (arith, length-infos spec))

pub parameter-byte : (spec : FontSpec) (k n : ℕ) → k < 7 → n < 4 → byte_at (file_of spec) (first_parameter (made_counts spec) + k) n ≡ slice_index (get_or (get_or (all spec) 8 []) k []) n
parameter-byte spec k n low small = file-byte spec 8 k n (first_parameter (made_counts spec) + k) low small (omega (arith, length-infos spec))
