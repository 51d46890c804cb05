-- The programs of the font of a file that is made.
use Rattle.std.proofs.Common.{◌≡◌, ℕ, ◌+◌, ◌-◌, ◌<◌, ◌≤◌, Bool, true, false, cond, List, [], ◌∷◌, ◌++◌, length, get_or, drop, map, arith, refl, ap, subst, ◌∙◌, sym, Option, Some}
use Prim.Native.Nat.{zero, suc}
use Rattle.std.specs.Prelude.{slice_index, ◌&&◌, ◌==◌, nat_lt}
use Rattle.std.specs.List.{find, position_from, range_with_len}
use Rattle.lb_base.specs.declared.font.Counts.{Counts}
use Rattle.lb_base.specs.declared.font.Step.{Step}
use Rattle.lb_base.specs.declared.font.LigStep.{LigStep}
use Rattle.lb_base.specs.declared.font.LigStep.TheVariants.{Nothing}
use Rattle.lb_model_paper.specs.Fonts.{action_for, program}
use Rattle.lb_model_paper.specs.FontFiles.{action_at, byte_at, first_kern, first_step, ligature, step_at, words}
use Rattle.lb_tfm_make.specs.declared.spec.CharWidth.{CharWidth}
use Rattle.lb_tfm_make.specs.declared.spec.FontSpec.{FontSpec}
use Rattle.lb_tfm_make.specs.declared.spec.PairStep.{PairStep}
use Rattle.lb_tfm_make.specs.FontBytes.{Word, file_of, is_left, place_among, program_words, programs, restart, restarts, skip_before, step_section, steps_behind}
use Rattle.lb_tfm_make.specs.FontSpecs.{are_right_steps, is_code, is_right_step}
use Rattle.lb_tfm_make.specs.MadeFonts.{action_of, is_between}
use Rattle.lb_tfm_make.proofs.ProgramTurns.{length-program_words}
use Rattle.lb_tfm_make.proofs.Tests.{both, is-same}
use Rattle.lb_tfm_make.proofs.WholeFiles.{made_counts, step-byte}

-- ---- the steps of the font are the words of steps

-- what a word of a step says
abbrev pub step_of_word : List ℕ → Counts → ℕ → Word → Step
step_of_word bytes c size w = record {
  skip = slice_index w 0;
  next = slice_index w 1;
  action = cond (nat_lt 128 (slice_index w 0)) Nothing (action_at bytes c size (slice_index w 2) (slice_index w 3));
}

map-words : {X : Type 0} (f : ℕ → X) (g : Word → X) (start : ℕ) (ws : List Word) → ((k : ℕ) → k < length ws → f (start + k) ≡ g (get_or ws k [])) → map f (range_with_len start (length ws)) ≡ map g ws
map-words f g start [] h = refl
map-words f g start (w ∷ ws) h =
    let e : start + 0 ≡ start = omega arith in
    let low : 0 < length (w ∷ ws) = omega arith in
    let step = λ (k : ℕ) (lt : k < length ws). (let s : start + 1 + k ≡ start + suc k = omega arith in let l : suc k < length (w ∷ ws) = omega arith in ap f s ∙ h (suc k) l) in
    ap (λ x. x ∷ map f (range_with_len (start + 1) (length ws))) (sym (ap f e) ∙ h 0 low) ∙ ap (λ xs. g w ∷ xs) (map-words f g (start + 1) ws step)

step-word : (bytes : List ℕ) (c : Counts) (size word : ℕ) (w : Word) → byte_at bytes word 0 ≡ slice_index w 0 → byte_at bytes word 1 ≡ slice_index w 1 → byte_at bytes word 2 ≡ slice_index w 2 → byte_at bytes word 3 ≡ slice_index w 3
    → step_at bytes c size word ≡ step_of_word bytes c size w
step-word bytes c size word w e0 e1 e2 e3 = rw (e0, e1, e2, e3) refl

pub steps-are : (spec : FontSpec) (size : ℕ) → map (step_at (file_of spec) (made_counts spec) size) (words (first_step (made_counts spec)) (first_kern (made_counts spec))) ≡ map (step_of_word (file_of spec) (made_counts spec) size) (step_section spec)
steps-are spec size =
    let c = made_counts spec in
    let e : first_kern c - first_step c ≡ length (step_section spec) = omega arith in
    ap (λ n. map (step_at (file_of spec) c size) (range_with_len (first_step c) n)) e
    ∙ map-words (step_at (file_of spec) c size) (step_of_word (file_of spec) c size) (first_step c) (step_section spec)
    (λ k low. step-word (file_of spec) c size (first_step c + k) (get_or (step_section spec) k []) (step-byte spec k 0 low (omega arith)) (step-byte spec k 1 low (omega arith)) (step-byte spec k 2 low (omega arith)) (step-byte spec k 3 low (omega arith)))

-- ---- a program behind others

pub program-drop : (steps : List Step) (k n : ℕ) → program (drop k steps) n ≡ program steps (k + n)
unfolding program
program-drop [] zero n = refl
program-drop [] (suc k) n = refl
program-drop (s ∷ steps) zero n = let e : n ≡ 0 + n = omega arith in ap (program (s ∷ steps)) e
program-drop (s ∷ steps) (suc k) n = let e : suc (k + n) ≡ suc k + n = omega arith in program-drop steps k n ∙ ap (program (s ∷ steps)) e

-- the steps of a program that is followed by others
pub one-program : (bytes : List ℕ) (c : Counts) (size : ℕ) (step : PairStep) (steps : List PairStep) (rest : List Step)
    → program (map (step_of_word bytes c size) (program_words (step ∷ steps)) ++ rest) 0 ≡ map (step_of_word bytes c size) (program_words (step ∷ steps))
unfolding program program_words
one-program bytes c size step [] rest = refl
one-program bytes c size step (next ∷ steps) rest =
    ap (λ (xs : List Step). step_of_word bytes c size (0 ∷ step.right ∷ step.op ∷ step.rem ∷ []) ∷ xs) (one-program bytes c size next steps rest)

-- what it does is what its first step for a code says
one-action : (bytes : List ℕ) (c : Counts) (size right skip : ℕ) (step : PairStep) (b : Bool) (later : LigStep) → nat_lt 128 skip ≡ false → nat_lt step.op 128 ≡ true
    → cond b (cond (nat_lt 128 skip) Nothing (action_at bytes c size step.op step.rem)) later ≡ cond b (ligature step.op step.rem) later
one-action bytes c size right skip step b later low op = rw (low, op) refl

skip-low : (steps : List PairStep) → nat_lt 128 (skip_before steps) ≡ false
skip-low [] = refl
skip-low (step ∷ steps) = refl

action-cond : (b : Bool) (step : PairStep) (later : Option PairStep) → cond b (ligature step.op step.rem) (action_of later) ≡ action_of (cond b (Some step) later)
action-cond true step later = refl
action-cond false step later = refl

pub actions : (rows : List CharWidth) (bytes : List ℕ) (c : Counts) (size right : ℕ) (steps : List PairStep) → are_right_steps rows steps ≡ true
    → action_for (map (step_of_word bytes c size) (program_words steps)) right ≡ action_of (find (λ (step : PairStep). step.right == right) steps)
unfolding action_for program_words are_right_steps
actions rows bytes c size right [] h = refl
actions rows bytes c size right (step ∷ steps) h =
    let t = both (is_right_step rows step) (are_right_steps rows steps) h in
    let left = both (is_code rows step.left) (is_code rows step.rem && nat_lt step.op 128) t.0 in
    let op = both (is_code rows step.rem) (nat_lt step.op 128) left.1 in
    one-action bytes c size right (skip_before steps) step (step.right == right) (action_for (map (step_of_word bytes c size) (program_words steps)) right) (skip-low steps) op.1
    ∙ ap (λ (later : LigStep). cond (step.right == right) (ligature step.op step.rem) later) (actions rows bytes c size right steps t.1)
    ∙ action-cond (step.right == right) step (find (λ (step : PairStep). step.right == right) steps)

find-cases : (a b : Bool) (step : PairStep) (own : List PairStep) (right : ℕ) (later : Option PairStep) → (step.right == right) ≡ b → find (λ (s : PairStep). s.right == right) own ≡ later
    → find (λ (s : PairStep). s.right == right) (cond a (step ∷ own) own) ≡ cond (a && b) (Some step) later
find-cases true b step own right later is h = ap (λ (t : Bool). cond t (Some step) (find (λ (s : PairStep). s.right == right) own)) is ∙ ap (λ (o : Option PairStep). cond b (Some step) o) h
find-cases false b step own right later is h = h

pub find-behind : (steps : List PairStep) (left right : ℕ) → find (λ (step : PairStep). step.right == right) (steps_behind steps left) ≡ find (is_between left right) steps
find-behind [] left right = refl
find-behind (step ∷ steps) left right = find-cases (is_left left step) (step.right == right) step (steps_behind steps left) right (find (is_between left right) steps) refl (find-behind steps left right)

-- ---- where a program begins

-- the restart of a code, by its place among the codes that have steps: its program is followed by others
pub record IsBegun (steps : List PairStep) (place code k : ℕ) (codes : List ℕ) : Type 0 where
  pub start : ℕ
  pub from : place ≤ start
  pub word : get_or (restarts steps place codes) k [] ≡ restart start
  pub rest : List Word
  pub words : drop (start - place) (programs steps codes) ≡ program_words (steps_behind steps code) ++ rest

drop-first : (xs ys : List Word) (n : ℕ) → n ≡ length xs → drop n (xs ++ ys) ≡ ys
drop-first [] ys n h = ap (λ m. drop m ys) h
drop-first (x ∷ xs) ys zero h = absurd (omega arith)
drop-first (x ∷ xs) ys (suc n) h = let e : n ≡ length xs = omega arith in drop-first xs ys n e

pub drop-both : (xs ys : List Word) (n m : ℕ) → n ≡ length xs + m → drop n (xs ++ ys) ≡ drop m ys
drop-both [] ys n m h = let e : n ≡ m = omega arith in ap (λ k. drop k ys) e
drop-both (x ∷ xs) ys zero m h = absurd (omega arith)
drop-both (x ∷ xs) ys (suc n) m h = let e : n ≡ length xs + m = omega arith in drop-both xs ys n m e

begun-later : (steps : List PairStep) (place code first k : ℕ) (codes : List ℕ) → IsBegun steps (place + length (steps_behind steps first)) code k codes → IsBegun steps place code (suc k) (first ∷ codes)
unfolding restarts programs
begun-later steps place code first k codes t =
    let own = steps_behind steps first in
    let from = t.from in
    let split : t.start - place ≡ length (program_words own) + (t.start - (place + length own)) = omega (arith, length-program_words own) in
    record {
      start = t.start;
      from = omega arith;
      word = t.word;
      rest = t.rest;
      words = drop-both (program_words own) (programs steps codes) (t.start - place) (t.start - (place + length own)) split ∙ t.words;
    }

begun-first : (steps : List PairStep) (place code : ℕ) (codes : List ℕ) → IsBegun steps place code 0 (code ∷ codes)
unfolding restarts programs
begun-first steps place code codes =
    let none : place - place ≡ 0 = omega arith in
    record { start = place; from = omega arith; word = refl; rest = programs steps codes; words = ap (λ n. drop n (program_words (steps_behind steps code) ++ programs steps codes)) none }

begun-cases : (b : Bool) (steps : List PairStep) (place code first j i : ℕ) (codes : List ℕ) (later : Option ℕ) → (first == code) ≡ b
    → (later ≡ Some i → (k : ℕ) × (i ≡ j + 1 + k) × IsBegun steps (place + length (steps_behind steps first)) code k codes) → cond b (Some j) later ≡ Some i → (k : ℕ) × (i ≡ j + k) × IsBegun steps place code k (first ∷ codes)
begun-cases true steps place code first j i codes later is behind h =
    let at : j ≡ i = cc in
    let e : code ≡ first = sym (is-same first code is) in
    (0, omega arith, subst (λ n. IsBegun steps place n 0 (first ∷ codes)) (sym e) (begun-first steps place first codes))
begun-cases false steps place code first j i codes later is behind h =
    let t = behind h in
    (suc t.0, omega (arith, t.1), begun-later steps place code first t.0 codes t.2)

begun : (steps : List PairStep) (place code j i : ℕ) (codes : List ℕ) → position_from (λ other. other == code) j codes ≡ Some i → (k : ℕ) × (i ≡ j + k) × IsBegun steps place code k codes
begun steps place code j i [] h = absurd cc
begun steps place code j i (first ∷ codes) h =
    begun-cases (first == code) steps place code first j i codes (position_from (λ other. other == code) (j + 1) codes) refl (begun steps (place + length (steps_behind steps first)) code (j + 1) i codes) h

pub begun-at : (steps : List PairStep) (place code i : ℕ) (codes : List ℕ) → place_among codes code ≡ Some i → IsBegun steps place code i codes
begun-at steps place code i codes h =
    let t = begun steps place code 0 i codes h in
    let e : t.0 ≡ i = omega (arith, t.1) in
    subst (λ k. IsBegun steps place code k codes) e t.2
