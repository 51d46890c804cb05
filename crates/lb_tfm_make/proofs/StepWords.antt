-- The steps of a file that is made: those that begin programs, and those of the programs.
use Rattle.std.proofs.Common.{◌≡◌, ℕ, ◌+◌, ◌*◌, ◌-◌, ◌/◌, ◌%◌, ◌<◌, ◌≤◌, ◌⊎◌, inl, inr, Bool, true, false, cond, List, [], ◌∷◌, ◌++◌, length, get_or, arith, refl, subst, ◌∙◌, Option, None, Some}
use Prim.Native.Nat.{zero, suc}
use Rattle.std.specs.Prelude.{slice_index, ◌&&◌, ◌||◌, ◌==◌, nat_lt, nat_le, is_some}
use Rattle.std.specs.List.{list_any}
use Rattle.lb_base.specs.declared.font.Counts.{Counts}
use Rattle.lb_model_paper.specs.FontFiles.{byte_at, exists, first_kern, first_step}
use Rattle.lb_model_paper.specs.FontRules.{is_wrong_step, wrong_step}
use Rattle.lb_tfm_make.specs.declared.spec.CharWidth.{CharWidth}
use Rattle.lb_tfm_make.specs.declared.spec.FontSpec.{FontSpec}
use Rattle.lb_tfm_make.specs.declared.spec.PairStep.{PairStep}
use Rattle.lb_tfm_make.specs.FontBytes.{Word, codes_of, distinct_widths, file_of, first_code, info_word, is_left, last_code, lefts, lefts_of, program_words, programs, restarts, skip_before, step_section, steps_behind}
use Rattle.lb_tfm_make.specs.FontSpecs.{are_right_steps, is_code, is_right_step, rise_from, row_of}
use Rattle.lb_tfm_make.proofs.CharacterWords.{code-byte, index-some}
use Rattle.lb_tfm_make.proofs.Counts.{length-restarts, length-steps}
use Rattle.lb_tfm_make.proofs.ProgramTurns.{length-program_words, length-programs}
use Rattle.lb_tfm_make.proofs.Tests.{above, both, from, is-from, is-same, none-words, not-from}
use Rattle.lb_tfm_make.proofs.WholeFiles.{made_counts, step-byte}

-- ---- the codes of rows

last-from : (code : ℕ) (rows : List CharWidth) → rise_from (code + 1) rows ≡ true → code ≤ last_code code rows
unfolding rise_from last_code
last-from code [] h = omega arith
last-from code (row ∷ rows) h =
    let t = both (nat_le (code + 1) row.code) (rise_from (row.code + 1) rows) h in
    let low = is-from (code + 1) row.code t.0 in
    omega (arith, last-from row.code rows t.1)

pub record IsBetween (low code last : ℕ) : Type 0 where
  pub above : low ≤ code
  pub below : code ≤ last

row-cases : (b : Bool) (low code : ℕ) (row found : CharWidth) (rows : List CharWidth) (later : Option CharWidth) → (row.code == code) ≡ b → low ≤ row.code → row.code ≤ last_code row.code rows
    → (later ≡ Some found → IsBetween (row.code + 1) code (last_code row.code rows)) → cond b (Some row) later ≡ Some found → IsBetween low code (last_code row.code rows)
row-cases true low code row found rows later is from last behind h = let e = is-same row.code code is in record { above = omega arith; below = omega arith }
row-cases false low code row found rows later is from last behind h = let t = behind h in record { above = omega (arith, t.above); below = t.below }

row-between : (low start code : ℕ) (rows : List CharWidth) (found : CharWidth) → rise_from low rows ≡ true → row_of rows code ≡ Some found → IsBetween low code (last_code start rows)
unfolding rise_from last_code
row-between low start code [] found h g = absurd cc
row-between low start code (row ∷ rows) found h g =
    let t = both (nat_le low row.code) (rise_from (row.code + 1) rows) h in
    row-cases (row.code == code) low code row found rows (row_of rows code) refl (is-from low row.code t.0) (last-from row.code rows t.1) (row-between (row.code + 1) row.code code rows found t.1) g

first-cases : (b : Bool) (code : ℕ) (row found : CharWidth) (later : Option CharWidth) → (row.code == code) ≡ b → (later ≡ Some found → row.code + 1 ≤ code) → cond b (Some row) later ≡ Some found → row.code ≤ code
first-cases true code row found later is behind h = let e = is-same row.code code is in omega arith
first-cases false code row found later is behind h = omega (arith, behind h)

pub first-below : (rows : List CharWidth) (code : ℕ) (found : CharWidth) → rise_from 0 rows ≡ true → row_of rows code ≡ Some found → first_code rows ≤ code
unfolding rise_from
first-below [] code found h g = absurd cc
first-below (row ∷ rows) code found h g =
    let t = both (nat_le 0 row.code) (rise_from (row.code + 1) rows) h in
    first-cases (row.code == code) code row found (row_of rows code) refl (λ e. (row-between (row.code + 1) row.code code rows found t.1 e).above) g

pub last-above : (rows : List CharWidth) (code : ℕ) (found : CharWidth) → rise_from 0 rows ≡ true → row_of rows code ≡ Some found → code ≤ last_code 0 rows
last-above rows code found h g = (row-between 0 0 code rows found h g).below

pub first-last : (rows : List CharWidth) → rise_from 0 rows ≡ true → 0 < length rows → first_code rows ≤ last_code 0 rows
unfolding rise_from last_code
first-last [] h some = absurd (omega arith)
first-last (row ∷ rows) h some = last-from row.code rows (both (nat_le 0 row.code) (rise_from (row.code + 1) rows) h).1

-- ---- a code with a row has a character

code-some : (spec : FontSpec) (code : ℕ) (row : CharWidth) → row_of spec.widths code ≡ Some row → 0 < slice_index (info_word spec.widths (distinct_widths spec.widths) (lefts_of spec) code) 0
unfolding info_word
code-some spec code row h = rw h (index-some (distinct_widths spec.widths) row.width)

pub row-exists : (spec : FontSpec) (code : ℕ) (row : CharWidth) → rise_from 0 spec.widths ≡ true → row_of spec.widths code ≡ Some row → exists (file_of spec) (made_counts spec) code ≡ true
row-exists spec code row rise h =
    let low = first-below spec.widths code row rise h in
    let high = last-above spec.widths code row rise h in
    let four : 0 < 4 = omega arith in
    rw (from (first_code spec.widths) code low, from code (last_code 0 spec.widths) high, code-byte spec code 0 low high four)
    (above 0 (slice_index (info_word spec.widths (distinct_widths spec.widths) (lefts_of spec) code) 0) (code-some spec code row h))

found-row : (spec : FontSpec) (code : ℕ) (found : Option CharWidth) → rise_from 0 spec.widths ≡ true → row_of spec.widths code ≡ found → is_some found ≡ true → exists (file_of spec) (made_counts spec) code ≡ true
found-row spec code None rise is h = absurd cc
found-row spec code (Some row) rise is h = row-exists spec code row rise is

pub code-exists : (spec : FontSpec) (code : ℕ) → rise_from 0 spec.widths ≡ true → is_code spec.widths code ≡ true → exists (file_of spec) (made_counts spec) code ≡ true
code-exists spec code rise h = found-row spec code (row_of spec.widths code) rise refl h

-- ---- words of steps

pub record IsRestart (nl : ℕ) (w : Word) : Type 0 where
  pub skip : slice_index w 0 ≡ 254
  pub place : 256 * slice_index w 2 + slice_index w 3 < nl

pub record IsStep (rows : List CharWidth) (nl k : ℕ) (w : Word) : Type 0 where
  pub skip : (slice_index w 0 ≡ 128) ⊎ ((slice_index w 0 ≡ 0) × (k + 1 < nl))
  pub op : nat_lt (slice_index w 2) 128 ≡ true
  pub rem : is_code rows (slice_index w 3) ≡ true

-- all of these words, from this place on, are of one kind or the other
abbrev AllGood : List CharWidth → ℕ → ℕ → List Word → Type 0
AllGood rows nl k [] = Unit {0}
AllGood rows nl k (w ∷ ws) = (IsRestart nl w ⊎ IsStep rows nl k w) × AllGood rows nl (k + 1) ws

good-append : (rows : List CharWidth) (nl k m : ℕ) (xs ys : List Word) → m ≡ k + length xs → AllGood rows nl k xs → AllGood rows nl m ys → AllGood rows nl k (xs ++ ys)
good-append rows nl k m [] ys e h g = let s : m ≡ k = omega arith in subst (λ n. AllGood rows nl n ys) s g
good-append rows nl k m (x ∷ xs) ys e h g = let s : m ≡ k + 1 + length xs = omega arith in (h.0, good-append rows nl (k + 1) m xs ys s h.1 g)

good-at : (rows : List CharWidth) (nl k j : ℕ) (ws : List Word) → AllGood rows nl k ws → j < length ws → IsRestart nl (get_or ws j []) ⊎ IsStep rows nl (k + j) (get_or ws j [])
good-at rows nl k j [] h low = absurd (omega arith)
good-at rows nl k zero (w ∷ ws) h low = let e : k ≡ k + 0 = omega arith in subst (λ n. IsRestart nl w ⊎ IsStep rows nl n w) e h.0
good-at rows nl k (suc j) (w ∷ ws) h low =
    let e : k + 1 + j ≡ k + suc j = omega arith in
    let lt : j < length ws = omega arith in
    subst (λ n. IsRestart nl (get_or ws j []) ⊎ IsStep rows nl n (get_or ws j [])) e (good-at rows nl (k + 1) j ws h.1 lt)

-- ---- programs

skip-good : (steps : List PairStep) (k nl : ℕ) → k + suc (length steps) ≤ nl → (skip_before steps ≡ 128) ⊎ ((skip_before steps ≡ 0) × (k + 1 < nl))
skip-good [] k nl h = inl refl
skip-good (step ∷ steps) k nl h = inr (refl, omega arith)

good-program : (rows : List CharWidth) (nl k : ℕ) (steps : List PairStep) → are_right_steps rows steps ≡ true → k + length steps ≤ nl → AllGood rows nl k (program_words steps)
unfolding program_words are_right_steps
good-program rows nl k [] h few = tt
good-program rows nl k (step ∷ steps) h few =
    let t = both (is_right_step rows step) (are_right_steps rows steps) h in
    let left = both (is_code rows step.left) (is_code rows step.rem && nat_lt step.op 128) t.0 in
    let right = both (is_code rows step.rem) (nat_lt step.op 128) left.1 in
    let rest : k + 1 + length steps ≤ nl = omega arith in
    (inr (record { skip = skip-good steps k nl few; op = right.1; rem = right.0 }), good-program rows nl (k + 1) steps t.1 rest)

right-cases : (b : Bool) (rows : List CharWidth) (step : PairStep) (xs : List PairStep) → is_right_step rows step ≡ true → are_right_steps rows xs ≡ true → are_right_steps rows (cond b (step ∷ xs) xs) ≡ true
unfolding are_right_steps
right-cases true rows step xs h g = rw h g
right-cases false rows step xs h g = g

pub right-behind : (rows : List CharWidth) (steps : List PairStep) (code : ℕ) → are_right_steps rows steps ≡ true → are_right_steps rows (steps_behind steps code) ≡ true
unfolding are_right_steps
right-behind rows [] code h = refl
right-behind rows (step ∷ steps) code h =
    let t = both (is_right_step rows step) (are_right_steps rows steps) h in
    right-cases (is_left code step) rows step (steps_behind steps code) t.0 (right-behind rows steps code t.1)

good-programs : (rows : List CharWidth) (nl k : ℕ) (steps : List PairStep) (codes : List ℕ) → are_right_steps rows steps ≡ true → k + length (programs steps codes) ≤ nl → AllGood rows nl k (programs steps codes)
unfolding programs
good-programs rows nl k steps [] h few = tt
good-programs rows nl k steps (code ∷ codes) h few =
    let own = steps_behind steps code in
    let sum = length-programs steps code codes in
    let words = length-program_words own in
    good-append rows nl k (k + length own) (program_words own) (programs steps codes) (omega arith)
    (good-program rows nl k own (right-behind rows steps code h) (omega arith))
    (good-programs rows nl (k + length own) steps codes h (omega arith))

-- ---- restarts

abbrev pub AllHave : List PairStep → List ℕ → Type 0
AllHave steps [] = Unit {0}
AllHave steps (code ∷ codes) = (list_any (is_left code) steps ≡ true) × AllHave steps codes

have-cases : (b : Bool) (steps : List PairStep) (code : ℕ) (codes : List ℕ) → list_any (is_left code) steps ≡ b → AllHave steps codes → AllHave steps (cond b (code ∷ codes) codes)
have-cases true steps code codes is h = (is, h)
have-cases false steps code codes is h = h

pub lefts-have : (steps : List PairStep) (codes : List ℕ) → AllHave steps (lefts steps codes)
unfolding lefts
lefts-have steps [] = tt
lefts-have steps (code ∷ codes) = have-cases (list_any (is_left code) steps) steps code (lefts steps codes) refl (lefts-have steps codes)

behind-cases : (b : Bool) (step : PairStep) (own : List PairStep) (any : Bool) → (b || any) ≡ true → (any ≡ true → 0 < length own) → 0 < length (cond b (step ∷ own) own)
behind-cases true step own any h later = omega arith
behind-cases false step own any h later = later h

pub some-behind : (steps : List PairStep) (code : ℕ) → list_any (is_left code) steps ≡ true → 0 < length (steps_behind steps code)
some-behind [] code h = absurd cc
some-behind (step ∷ steps) code h = behind-cases (is_left code step) step (steps_behind steps code) (list_any (is_left code) steps) h (some-behind steps code)

good-restarts : (rows : List CharWidth) (nl k place : ℕ) (steps : List PairStep) (codes : List ℕ) → AllHave steps codes → place + length (programs steps codes) ≤ nl → AllGood rows nl k (restarts steps place codes)
unfolding restarts
good-restarts rows nl k place steps [] have few = tt
good-restarts rows nl k place steps (code ∷ codes) have few =
    let own = steps_behind steps code in
    let some = some-behind steps code have.0 in
    let sum = length-programs steps code codes in
    let named : 256 * (place / 256) + place % 256 < nl = omega arith in
    (inl (record { skip = refl; place = named }), good-restarts rows nl (k + 1) (place + length own) steps codes have.1 (omega arith))

section-good : (spec : FontSpec) → are_right_steps spec.widths spec.steps ≡ true → AllGood spec.widths (length (step_section spec)) 0 (step_section spec)
section-good spec h =
    let codes = lefts_of spec in
    let n = length codes in
    let sum = length-steps spec in
    good-append spec.widths (length (step_section spec)) 0 n (restarts spec.steps n codes) (programs spec.steps codes) (omega (arith, length-restarts spec.steps n codes))
    (good-restarts spec.widths (length (step_section spec)) 0 n spec.steps codes (lefts-have spec.steps (codes_of spec.widths)) (omega arith))
    (good-programs spec.widths (length (step_section spec)) n spec.steps codes h (omega arith))

pub step-good : (spec : FontSpec) (k : ℕ) → are_right_steps spec.widths spec.steps ≡ true → k < length (step_section spec)
    → IsRestart (length (step_section spec)) (get_or (step_section spec) k []) ⊎ IsStep spec.widths (length (step_section spec)) k (get_or (step_section spec) k [])
step-good spec k h low =
    let e : 0 + k ≡ k = omega arith in
    subst (λ n. IsRestart (length (step_section spec)) (get_or (step_section spec) k []) ⊎ IsStep spec.widths (length (step_section spec)) n (get_or (step_section spec) k [])) e
    (good-at spec.widths (length (step_section spec)) 0 k (step_section spec) (section-good spec h) low)

-- ---- the rule

restart-right : (bytes : List ℕ) (c : Counts) (word : ℕ) → byte_at bytes word 0 ≡ 254 → 256 * byte_at bytes word 2 + byte_at bytes word 3 < c.nl → is_wrong_step bytes c word ≡ false
restart-right bytes c word skip place = rw skip (not-from c.nl (256 * byte_at bytes word 2 + byte_at bytes word 3) place)

step-right : (bytes : List ℕ) (c : Counts) (word k : ℕ) → word ≡ first_step c + k → (byte_at bytes word 0 ≡ 128) ⊎ ((byte_at bytes word 0 ≡ 0) × (k + 1 < c.nl)) → nat_lt (byte_at bytes word 2) 128 ≡ true → exists bytes c (byte_at bytes word 3) ≡ true
    → is_wrong_step bytes c word ≡ false
step-right bytes c word k at (inl skip) op rem = rw (skip, op, rem) refl
step-right bytes c word k at (inr skip) op rem =
    let next : word - first_step c + 0 + 1 < c.nl = omega (arith, skip.1) in
    rw (skip.0, op, rem) (not-from c.nl (word - first_step c + 0 + 1) next)

pub steps-right : (spec : FontSpec) → rise_from 0 spec.widths ≡ true → are_right_steps spec.widths spec.steps ≡ true → wrong_step (file_of spec) (made_counts spec) ≡ None
unfolding wrong_step
steps-right spec rise right =
    let c = made_counts spec in
    none-words (is_wrong_step (file_of spec) c) (first_step c) (first_kern c) (length (step_section spec)) refl
    (λ k low.
    let s = λ (n : ℕ) (l : n < 4). step-byte spec k n low l in
    elim (step-good spec k right low) [
      | inl r ↦ restart-right (file_of spec) c (first_step c + k) (s 0 (omega arith) ∙ r.skip) (rw (s 2 (omega arith), s 3 (omega arith)) r.place)
      | inr r ↦ step-right (file_of spec) c (first_step c + k) k refl (rw (s 0 (omega arith)) r.skip) (rw (s 2 (omega arith)) r.op) (rw (s 3 (omega arith)) (code-exists spec (slice_index (get_or (step_section spec) k []) 3) rise r.rem))
    ])
