-- One turn of the loops that write ligature programs.
use Rattle.std.proofs.Common.{◌≡◌, ◌≢◌, ℕ, ◌+◌, ◌<◌, Bool, true, false, cond, List, [], ◌∷◌, ◌++◌, length, get_or, drop, arith, refl, ap, ◌∙◌, sym, append_assoc, length-append}
use Prim.Native.Nat.{suc}
use Rattle.std.specs.Prelude.{◌==◌, if◌then◌else◌}
use Rattle.std.proofs.lemmas.Bool.Decides.{nat_tests}
use Rattle.std.proofs.lemmas.List.{append-nil, at_drop_more}
use Rattle.lb_tfm_make.specs.declared.spec.PairStep.{PairStep}
use Rattle.lb_tfm_make.specs.FontBytes.{Word, is_left, program_words, programs, restart, restarts, skip_before, steps_behind}

pub same : (m n : ℕ) → m ≡ n → (m == n) ≡ true
same m n h = grind (arith, nat_tests)

pub other : (m n : ℕ) → m ≢ n → (m == n) ≡ false
other m n h = grind (arith, nat_tests)

-- ---- the steps of a character

behind-more : (steps : List PairStep) (i code : ℕ) (d : PairStep) (b : Bool) → i < length steps → is_left code (get_or steps i d) ≡ b
    → steps_behind (drop i steps) code ≡ cond b (get_or steps i d ∷ steps_behind (drop (i + 1) steps) code) (steps_behind (drop (i + 1) steps) code)
behind-more steps i code d b lt h =
    at_drop_more (λ (xs : List PairStep). steps_behind xs code) steps i d lt
    ∙ ap (λ (t : Bool). cond t (get_or steps i d ∷ steps_behind (drop (i + 1) steps) code) (steps_behind (drop (i + 1) steps) code)) h

pub behind-own : (steps : List PairStep) (i code : ℕ) (d : PairStep) → i < length steps → (get_or steps i d).left ≡ code → steps_behind (drop i steps) code ≡ get_or steps i d ∷ steps_behind (drop (i + 1) steps) code
behind-own steps i code d lt h = behind-more steps i code d true lt (same (get_or steps i d).left code h)

pub behind-other : (steps : List PairStep) (i code : ℕ) (d : PairStep) → i < length steps → (get_or steps i d).left ≢ code → steps_behind (drop i steps) code ≡ steps_behind (drop (i + 1) steps) code
behind-other steps i code d lt h = behind-more steps i code d false lt (other (get_or steps i d).left code h)

skip-is : (xs : List PairStep) → (if length xs == 0 then 128 else 0) ≡ skip_before xs
skip-is [] = refl
skip-is (x ∷ xs) = let some : length (x ∷ xs) ≢ 0 = omega arith in rw (other (length (x ∷ xs)) 0 some) refl

pub words-own : (W whole : List Word) (step : PairStep) (later : ℕ) (rest : List PairStep) → later ≡ length rest → W ++ program_words (step ∷ rest) ≡ whole
    → (W ++ ((if later == 0 then 128 else 0) ∷ step.right ∷ step.op ∷ step.rem ∷ []) ∷ []) ++ program_words rest ≡ whole
unfolding program_words
words-own W whole step later rest is h =
    append_assoc W _ (program_words rest)
    ∙ ap (λ skip. W ++ (skip ∷ step.right ∷ step.op ∷ step.rem ∷ []) ∷ program_words rest) (ap (λ n. if n == 0 then 128 else 0) is ∙ skip-is rest)
    ∙ h

pub words-end : (W whole : List Word) → W ++ program_words [] ≡ whole → W ≡ whole
unfolding program_words
words-end W whole h = sym (append-nil W) ∙ h

-- ---- the programs, and where they begin

pub length-program_words : (steps : List PairStep) → length (program_words steps) ≡ length steps
unfolding program_words
length-program_words [] = refl
length-program_words (step ∷ steps) = ap suc (length-program_words steps)

pub length-programs : (steps : List PairStep) (code : ℕ) (codes : List ℕ) → length (programs steps (code ∷ codes)) ≡ length (steps_behind steps code) + length (programs steps codes)
unfolding programs
length-programs steps code codes =
    omega (arith, length-append (program_words (steps_behind steps code)) (programs steps codes), length-program_words (steps_behind steps code))

pub programs-turn : (steps : List PairStep) (W whole : List Word) (code : ℕ) (codes : List ℕ) → W ++ programs steps (code ∷ codes) ≡ whole → (W ++ program_words (steps_behind steps code)) ++ programs steps codes ≡ whole
unfolding programs
programs-turn steps W whole code codes h = append_assoc W (program_words (steps_behind steps code)) (programs steps codes) ∙ h

pub programs-end : (steps : List PairStep) (W whole : List Word) → W ++ programs steps [] ≡ whole → W ≡ whole
unfolding programs
programs-end steps W whole h = sym (append-nil W) ∙ h

pub restarts-turn : (steps : List PairStep) (W whole : List Word) (place code : ℕ) (codes : List ℕ) → W ++ restarts steps place (code ∷ codes) ≡ whole
    → (W ++ restart place ∷ []) ++ restarts steps (place + length (steps_behind steps code)) codes ≡ whole
unfolding restarts
restarts-turn steps W whole place code codes h = append_assoc W (restart place ∷ []) (restarts steps (place + length (steps_behind steps code)) codes) ∙ h

pub restarts-end : (steps : List PairStep) (W whole : List Word) (place : ℕ) → W ++ restarts steps place [] ≡ whole → W ≡ whole
unfolding restarts
restarts-end steps W whole place h = sym (append-nil W) ∙ h
