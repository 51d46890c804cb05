-- How many words the sections have.
use Rattle.std.proofs.Common.{◌≡◌, ℕ, ◌+◌, ◌-◌, ◌<◌, ◌≤◌, Bool, true, false, cond, List, [], ◌∷◌, length, filter, arith, refl, ap, ◌∙◌, length-append}
use Prim.Native.Nat.{zero, suc}
use Rattle.std.specs.Prelude.{◌==◌, nat_le}
use Rattle.std.specs.List.{list_any, range_with_len}
use Rattle.std.proofs.lemmas.Bool.Decides.{nat_tests}
use Rattle.std.proofs.lemmas.List.{length-map}
use Rattle.lb_model_paper.specs.FontFiles.{words}
use Rattle.lb_tfm_make.specs.declared.spec.FontSpec.{FontSpec}
use Rattle.lb_tfm_make.specs.declared.spec.PairStep.{PairStep}
use Rattle.lb_tfm_make.specs.FontBytes.{Word, codes_of, distinct_widths, first_code, is_left, info_section, joined, last_code, lefts, lefts_of, program_words, programs, restarts, sections, step_section, steps_behind, width_section}
use Rattle.lb_tfm_make.proofs.ProgramTurns.{length-programs}

pub length-range : (start n : ℕ) → length (range_with_len start n) ≡ n
length-range start zero = refl
length-range start (suc n) = ap suc (length-range (start + 1) n)

pub length-infos : (spec : FontSpec) → length (info_section spec) ≡ last_code 0 spec.widths + 1 - first_code spec.widths
length-infos spec = length-map (codes_of spec.widths) _ ∙ length-range (first_code spec.widths) (last_code 0 spec.widths + 1 - first_code spec.widths)

pub length-restarts : (steps : List PairStep) (place : ℕ) (codes : List ℕ) → length (restarts steps place codes) ≡ length codes
unfolding restarts
length-restarts steps place [] = refl
length-restarts steps place (code ∷ codes) = ap suc (length-restarts steps (place + length (steps_behind steps code)) codes)

pub length-filter-le : (p : ℕ → Bool) (xs : List ℕ) → length (filter p xs) ≤ length xs
length-filter-le p [] = omega arith
length-filter-le p (x ∷ xs) =
    elim (p x) as (λ (b : Bool). length (cond b (x ∷ filter p xs) (filter p xs)) ≤ length (x ∷ xs)) [ true ↦ omega (arith, length-filter-le p xs) | false ↦ omega (arith, length-filter-le p xs) ]

pub length-lefts : (steps : List PairStep) (codes : List ℕ) → length (lefts steps codes) ≤ length codes
unfolding lefts
length-lefts steps codes = length-filter-le (λ code. list_any (is_left code) steps) codes

-- ---- each step is in one program at most

abbrev is_from : ℕ → PairStep → Bool
is_from low step = nat_le low step.left

one-left : (low left a b c : ℕ) → a + b ≤ c → cond (left == low) (suc a) a + cond (nat_le (low + 1) left) (suc b) b ≤ cond (nat_le low left) (suc c) c
one-left low left a b c h = grind (arith, nat_tests)

length-cond : (b : Bool) (x : PairStep) (xs : List PairStep) → length (cond b (x ∷ xs) xs) ≡ cond b (suc (length xs)) (length xs)
length-cond true x xs = refl
length-cond false x xs = refl

one-more : (steps : List PairStep) (low : ℕ) → length (filter (is_left low) steps) + length (filter (is_from (low + 1)) steps) ≤ length (filter (is_from low) steps)
one-more [] low = omega arith
one-more (step ∷ steps) low =
    let h = one-left low step.left (length (filter (is_left low) steps)) (length (filter (is_from (low + 1)) steps)) (length (filter (is_from low) steps)) (one-more steps low) in
    omega (arith, h, length-cond (is_left low step) step (filter (is_left low) steps), length-cond (is_from (low + 1) step) step (filter (is_from (low + 1)) steps), length-cond (is_from low step) step (filter (is_from low) steps))

filter-le : (p : PairStep → Bool) (xs : List PairStep) → length (filter p xs) ≤ length xs
filter-le p [] = omega arith
filter-le p (x ∷ xs) = omega (arith, filter-le p xs, length-cond (p x) x (filter p xs), at-most (p x) (length (filter p xs))) where
  at-most : (b : Bool) (n : ℕ) → cond b (suc n) n ≤ suc n
  at-most true n = omega arith
  at-most false n = omega arith

for-left : (steps : List PairStep) (b : Bool) (code : ℕ) (codes : List ℕ) → length (programs steps (cond b (code ∷ codes) codes)) ≤ length (steps_behind steps code) + length (programs steps codes)
for-left steps true code codes = omega (arith, length-programs steps code codes)
for-left steps false code codes = omega arith

from-low : (steps : List PairStep) (low n : ℕ) → length (programs steps (lefts steps (range_with_len low n))) ≤ length (filter (is_from low) steps)
unfolding lefts programs
from-low steps low zero = omega arith
from-low steps low (suc n) =
    omega (arith, for-left steps (list_any (is_left low) steps) low (lefts steps (range_with_len (low + 1) n)), from-low steps (low + 1) n, one-more steps low)

pub length-all-programs : (steps : List PairStep) (start end : ℕ) → length (programs steps (lefts steps (words start end))) ≤ length steps
length-all-programs steps start end = omega (arith, from-low steps start (end - start), filter-le (is_from start) steps)

-- ---- the file

pub length-steps : (spec : FontSpec) → length (step_section spec) ≡ length (lefts_of spec) + length (programs spec.steps (lefts_of spec))
length-steps spec =
    length-append (restarts spec.steps (length (lefts_of spec)) (lefts_of spec)) (programs spec.steps (lefts_of spec))
    ∙ ap (λ n. n + length (programs spec.steps (lefts_of spec))) (length-restarts spec.steps (length (lefts_of spec)) (lefts_of spec))

pub length-widths : (spec : FontSpec) → length (width_section spec) ≡ length (distinct_widths spec.widths) + 1
length-widths spec = omega (arith, length-map (distinct_widths spec.widths) Rattle.lb_tfm_make.specs.FontBytes.fix_word)

joined-one : (section : List Word) (more : List (List Word)) → length (joined (section ∷ more)) ≡ length section + length (joined more)
joined-one section more = length-append section (joined more)

pub length-body : (spec : FontSpec) → length (joined (sections spec)) ≡ length (info_section spec) + length (width_section spec) + length (step_section spec) + 14
length-body spec = simp length-append (omega arith)

pub few-lefts : (spec : FontSpec) → last_code 0 spec.widths < 256 → length (lefts_of spec) ≤ 256
few-lefts spec low = omega (arith, length-lefts spec.steps (codes_of spec.widths), length-range (first_code spec.widths) (last_code 0 spec.widths + 1 - first_code spec.widths))

pub few-programs : (spec : FontSpec) → length (programs spec.steps (lefts_of spec)) ≤ length spec.steps
few-programs spec = length-all-programs spec.steps (first_code spec.widths) (last_code 0 spec.widths + 1)
