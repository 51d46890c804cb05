-- What a program does, from the place where it stands.
use Rattle.std.proofs.Common.{◌≡◌, ◌≢◌, ℕ, ◌+◌, ◌<◌, ◌≤◌, Bool, true, false, cond, List, [], ◌∷◌, length, drop, get_or, arith, refl, ap, ◌∙◌, sym, Option, None, Some}
use Prim.Native.Nat.{zero, suc}
use Rattle.std.specs.Prelude.{nat_lt, if◌then◌else◌, ◌==◌}
use Rattle.std.proofs.lemmas.Bool.Decides.{nat_tests}
use Rattle.std.proofs.lemmas.List.{drop_all, drop_more}
use Rattle.lb_base.specs.declared.font.Step.{Step}
use Rattle.lb_base.specs.declared.font.LigStep.TheVariants.{Nothing}
use Rattle.lb_base.specs.declared.font.Side.{Side}
use Rattle.lb_model_paper.specs.Fonts.{FontData, action_before, action_for, code_of, program, start_of, step_of}

pub program-drop : (steps : List Step) (k n : ℕ) → program (drop k steps) n ≡ program steps (k + n)
unfolding program
program-drop [] zero n = refl
program-drop [] (suc k) n = refl
program-drop (s ∷ steps) zero n = let e : n ≡ 0 + n = omega arith in ap (program (s ∷ steps)) e
program-drop (s ∷ steps) (suc k) n = let e : suc (k + n) ≡ suc k + n = omega arith in program-drop steps k n ∙ ap (program (s ∷ steps)) e

-- the program whose first step this is, and that goes on at this place
abbrev pub after : List Step → Step → ℕ → List Step
after steps s next = if nat_lt 128 s.skip then [] else if s.skip == 128 then s ∷ [] else s ∷ program steps next

program-turn : (steps : List Step) (place : ℕ) (s d : Step) → place < length steps → get_or steps place d ≡ s → program steps place ≡ after steps s (place + (s.skip + 1))
unfolding program
program-turn steps place s d lt is =
    let here : place + 0 ≡ place = omega arith in
    let there : place + 1 + s.skip ≡ place + (s.skip + 1) = omega arith in
    let rest : program (drop (place + 1) steps) s.skip ≡ program steps (place + (s.skip + 1)) = program-drop steps (place + 1) s.skip ∙ ap (program steps) there in
    let cut : drop place steps ≡ s ∷ drop (place + 1) steps = drop_more steps place d lt ∙ ap (λ (x : Step). x ∷ drop (place + 1) steps) is in
    sym (ap (program steps) here) ∙ sym (program-drop steps place 0) ∙ ap (λ (xs : List Step). program xs 0) cut
    ∙ ap (λ (xs : List Step). cond (nat_lt 128 s.skip) [] (cond (s.skip == 128) (s ∷ []) (s ∷ xs))) rest

is_above : (m n : ℕ) → m < n → nat_lt m n ≡ true
is_above m n h = grind (arith, nat_tests)

is_not_above : (m n : ℕ) → n ≤ m → nat_lt m n ≡ false
is_not_above m n h = grind (arith, nat_tests)

is_same : (m n : ℕ) → m ≡ n → (m == n) ≡ true
is_same m n h = grind (arith, nat_tests)

is_other : (m n : ℕ) → m ≢ n → (m == n) ≡ false
is_other m n h = grind (arith, nat_tests)

-- where its skip is over 128 the program is over
pub halts : (steps : List Step) (place code : ℕ) (d : Step) → place < length steps → 128 < (get_or steps place d).skip → action_for (program steps place) code ≡ Nothing
unfolding action_for
halts steps place code d lt h =
    rw (program-turn steps place (get_or steps place d) d lt refl, is_above 128 (get_or steps place d).skip h) refl

acts-first : (skip : ℕ) (s : Step) (rest : List Step) (code : ℕ) → s.next ≡ code → action_for (cond (skip == 128) (s ∷ []) (s ∷ rest)) code ≡ s.action
unfolding action_for
acts-first skip s rest code same =
    elim (skip == 128) as (λ (b : Bool). action_for (cond b (s ∷ []) (s ∷ rest)) code ≡ s.action) [ true ↦ rw (is_same s.next code same) refl | false ↦ rw (is_same s.next code same) refl ]

-- where it is for this code, it says what is done
pub acts : (steps : List Step) (place code : ℕ) (d : Step) → place < length steps → (get_or steps place d).skip ≤ 128 → (get_or steps place d).next ≡ code
    → action_for (program steps place) code ≡ (get_or steps place d).action
acts steps place code d lt h same =
    rw (program-turn steps place (get_or steps place d) d lt refl, is_not_above 128 (get_or steps place d).skip h)
    (acts-first (get_or steps place d).skip (get_or steps place d) (program steps (place + ((get_or steps place d).skip + 1))) code same)

-- where its skip is 128, nothing is behind it
pub ends : (steps : List Step) (place code : ℕ) (d : Step) → place < length steps → (get_or steps place d).skip ≡ 128 → (get_or steps place d).next ≢ code
    → action_for (program steps place) code ≡ Nothing
unfolding action_for
ends steps place code d lt h other =
    let low : (get_or steps place d).skip ≤ 128 = omega arith in
    rw (program-turn steps place (get_or steps place d) d lt refl, is_not_above 128 (get_or steps place d).skip low, is_same (get_or steps place d).skip 128 h, is_other (get_or steps place d).next code other)
    refl

-- and else the program goes on
pub goes_on : (steps : List Step) (place code : ℕ) (d : Step) → place < length steps → (get_or steps place d).skip ≤ 128 → (get_or steps place d).skip ≢ 128 → (get_or steps place d).next ≢ code
    → action_for (program steps place) code ≡ action_for (program steps (place + ((get_or steps place d).skip + 1))) code
unfolding action_for
goes_on steps place code d lt low h other =
    rw (program-turn steps place (get_or steps place d) d lt refl, is_not_above 128 (get_or steps place d).skip low, is_other (get_or steps place d).skip 128 h, is_other (get_or steps place d).next code other)
    refl

pub program-past : (steps : List Step) (place : ℕ) → length steps ≤ place → program steps place ≡ []
unfolding program
program-past steps place h =
    let e : place + 0 ≡ place = omega arith in
    sym (ap (program steps) e) ∙ sym (program-drop steps place 0) ∙ ap (λ (rest : List Step). program rest 0) (drop_all place steps h)

pub past : (steps : List Step) (place code : ℕ) → length steps ≤ place → action_for (program steps place) code ≡ Nothing
unfolding action_for
past steps place code h = rw (program-past steps place h) refl

nothing-before : (code : ℕ) → action_for [] code ≡ Nothing
unfolding action_for
nothing-before code = refl

-- where no program begins, nothing is done
pub no-program : (font : FontData) (left right : Side) → start_of font left ≡ None → step_of font left right ≡ Nothing
no-program font left right h = rw h (elim (code_of font right) as (λ (o : Option ℕ). action_before [] o ≡ Nothing) [ None ↦ refl | Some code ↦ nothing-before code ])
