-- The characters that ligatures put into words exist.
use Rattle.std.proofs.Common.{◌≡◌, ℕ, ◌+◌, ◌-◌, ◌*◌, ◌/◌, ◌%◌, ◌<◌, Bool, true, false, cond, List, [], ◌∷◌, get_or, map, Option, None, Some, arith, refl, ap, ◌∙◌, Fits, w8, rules}
use Prim.Native.Nat.{zero, suc}
use Rattle.std.specs.Prelude.{nat_lt, nat_le, is_some, slice_index_or, ◌==◌, ◌&&◌, ◌||◌, not}
use Rattle.std.specs.List.{find, range_with_len}
use Rattle.std.proofs.lemmas.Bool.{and_parts}
use Rattle.lb_base.specs.declared.font.Counts.{Counts}
use Rattle.lb_base.specs.declared.font.Metrics.{Metrics}
use Rattle.lb_base.specs.declared.font.Step.{Step}
use Rattle.lb_base.specs.declared.font.LigStep.{LigStep}
use Rattle.lb_base.specs.declared.font.LigStep.TheVariants.{Nothing, Kern, Lig}
use Rattle.lb_model_paper.specs.Fonts.{action_for, are_drawn, is_drawn, program}
use Rattle.lb_model_paper.specs.FontFiles.{action_at, byte_at, codes_from, exists, first_kern, is_ligature, ligature, metrics_for, scaled_at, step_at, first_step, named_place, words}
use Rattle.lb_model_paper.specs.FontRules.{is_wrong_action, is_wrong_step, wrong_step}
use Rattle.lb_tfm.proofs.Searches.{none-first}
use Rattle.lb_tfm.proofs.Tests.{neither}

-- ---- in a font

for_one : (metrics : List (Option Metrics)) (b : Bool) (x y : LigStep) → is_drawn metrics x ≡ true → is_drawn metrics y ≡ true → is_drawn metrics (cond b x y) ≡ true
for_one metrics true x y h g = h
for_one metrics false x y h g = g

of-action : (metrics : List (Option Metrics)) (steps : List Step) (code : ℕ) → are_drawn metrics steps ≡ true → is_drawn metrics (action_for steps code) ≡ true
unfolding are_drawn action_for
of-action metrics [] code h = refl
of-action metrics (s ∷ steps) code h =
    let a = and_parts _ _ h in
    for_one metrics (s.next == code) s.action (action_for steps code) a.0 (of-action metrics steps code a.1)

both : (a b : Bool) → a ≡ true → b ≡ true → (a && b) ≡ true
both true b h g = g
both false b h g = h

kept : (metrics : List (Option Metrics)) (over last : Bool) (s : Step) (rest : List Step) → is_drawn metrics s.action ≡ true → are_drawn metrics rest ≡ true → are_drawn metrics (cond over [] (cond last (s ∷ []) (s ∷ rest))) ≡ true
unfolding are_drawn
kept metrics true last s rest h g = refl
kept metrics false true s rest h g = both _ _ h refl
kept metrics false false s rest h g = both _ _ h g

of-program : (metrics : List (Option Metrics)) (steps : List Step) (place : ℕ) → are_drawn metrics steps ≡ true → are_drawn metrics (program steps place) ≡ true
unfolding are_drawn program
of-program metrics [] place h = refl
of-program metrics (s ∷ steps) (suc place) h = of-program metrics steps place (and_parts _ _ h).1
of-program metrics (s ∷ steps) zero h =
    let a = and_parts _ _ h in
    kept metrics (nat_lt 128 s.skip) (s.skip == 128) s (program steps s.skip) a.0 (of-program metrics steps s.skip a.1)

pub action-drawn : (metrics : List (Option Metrics)) (steps : List Step) (place code : ℕ) → are_drawn metrics steps ≡ true → is_drawn metrics (action_for (program steps place) code) ≡ true
action-drawn metrics steps place code h = of-action metrics (program steps place) code (of-program metrics steps place h)

-- ---- in the font of a file that keeps the rules

entry-at : {X : Type 0} (f : ℕ → Option X) (n start k : ℕ) → k < n → slice_index_or (map f (range_with_len start n)) k None ≡ f (start + k)
entry-at f zero start k l = absurd (omega arith)
entry-at f (suc n) start zero l = let e : start ≡ start + 0 = omega arith in ap f e
entry-at f (suc n) start (suc k) l =
    let e : start + 1 + k ≡ start + suc k = omega arith in
    let lt : k < n = omega arith in
    entry-at f n (start + 1) k lt ∙ ap f e

pub code-at : {X : Type 0} (f : ℕ → Option X) (code : ℕ) → code < 256 → slice_index_or (map f (codes_from 0)) code None ≡ f code
unfolding codes_from
code-at f code l = let e : 0 + code ≡ code = omega arith in entry-at f 256 0 code l ∙ ap f e

exists-some : (b : Bool) (m : Metrics) → is_some (cond b (Some m) None) ≡ b
exists-some true m = refl
exists-some false m = refl

ligature-drawn : (metrics : List (Option Metrics)) (op code : ℕ) → is_some (slice_index_or metrics code None) ≡ true → is_drawn metrics (ligature op code) ≡ true
ligature-drawn metrics op code h = for_one metrics (is_ligature op) (Lig code (op / 2 % 2 == 1) (op % 2 == 1) (op / 4)) (Lig code false false 0) h h

not-false : (b : Bool) → not b ≡ false → b ≡ true
not-false true h = refl
not-false false h = absurd cc

then-part : (b x y : Bool) → cond b x y ≡ false → b ≡ true → x ≡ false
then-part true x y h g = h
then-part false x y h g = absurd cc

op-drawn : (bytes : List ℕ) (c : Counts) (size op rest : ℕ) → rest < 256 → is_wrong_action bytes c op rest ≡ false → is_drawn (map (metrics_for bytes c size) (codes_from 0)) (action_at bytes c size op rest) ≡ true
op-drawn bytes c size op rest l h =
    elim (nat_lt op 128) as (λ (b : Bool). cond b (not (exists bytes c rest)) (nat_le c.nk (256 * (op - 128) + rest)) ≡ false → is_drawn (map (metrics_for bytes c size) (codes_from 0)) (cond b (ligature op rest) (Kern (scaled_at bytes size (first_kern c + (256 * (op - 128) + rest))))) ≡ true) [
      | true ↦ λ g. ligature-drawn (map (metrics_for bytes c size) (codes_from 0)) op rest (ap is_some (code-at (metrics_for bytes c size) rest l) ∙ exists-some (exists bytes c rest) _ ∙ not-false (exists bytes c rest) g)
      | false ↦ λ g. refl
    ] h

step-drawn : (bytes : List ℕ) (c : Counts) (size word : ℕ) → byte_at bytes word 3 < 256 → is_wrong_step bytes c word ≡ false → is_drawn (map (metrics_for bytes c size) (codes_from 0)) (step_at bytes c size word).action ≡ true
step-drawn bytes c size word l h =
    elim (nat_lt 128 (byte_at bytes word 0)) as (λ (b : Bool). cond b (nat_le c.nl (named_place bytes word)) (is_wrong_action bytes c (byte_at bytes word 2) (byte_at bytes word 3) || (nat_lt (byte_at bytes word 0) 128 && nat_le c.nl (word - first_step c + byte_at bytes word 0 + 1))) ≡ false → is_drawn (map (metrics_for bytes c size) (codes_from 0)) (cond b Nothing (action_at bytes c size (byte_at bytes word 2) (byte_at bytes word 3))) ≡ true) [
      | true ↦ λ g. refl
      | false ↦ λ g. op-drawn bytes c size (byte_at bytes word 2) (byte_at bytes word 3) l (neither (is_wrong_action bytes c (byte_at bytes word 2) (byte_at bytes word 3)) _ g).0
    ] h

range-drawn : (bytes : List ℕ) (c : Counts) (size n start : ℕ) → ((word : ℕ) → byte_at bytes word 3 < 256) → find (is_wrong_step bytes c) (range_with_len start n) ≡ None
    → are_drawn (map (metrics_for bytes c size) (codes_from 0)) (map (step_at bytes c size) (range_with_len start n)) ≡ true
unfolding are_drawn
range-drawn bytes c size zero start l h = refl
range-drawn bytes c size (suc n) start l h =
    let a = none-first (is_wrong_step bytes c start) start (find (is_wrong_step bytes c) (range_with_len (start + 1) n)) h in
    both _ _ (step-drawn bytes c size start (l start) a.0) (range-drawn bytes c size n (start + 1) l a.1)

byte-small : (bytes : List ℕ) (word : ℕ) → ((i : ℕ) → Fits w8 (get_or bytes i 0)) → byte_at bytes word 3 < 256
unfolding byte_at
byte-small bytes word h = let g = h (4 * word + 3) in search rules

pub table-drawn : (bytes : List ℕ) (c : Counts) (size : ℕ) (metrics : List (Option Metrics)) (steps : List Step) → ((i : ℕ) → Fits w8 (get_or bytes i 0)) → wrong_step bytes c ≡ None
    → metrics ≡ map (metrics_for bytes c size) (codes_from 0) → steps ≡ map (step_at bytes c size) (words (first_step c) (first_kern c)) → are_drawn metrics steps ≡ true
unfolding wrong_step
table-drawn bytes c size metrics steps small h m s = rw (m, s) (range-drawn bytes c size (first_kern c - first_step c) (first_step c) (λ word. byte-small bytes word small) h)
