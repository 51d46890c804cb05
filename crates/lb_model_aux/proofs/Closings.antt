-- The line that closes a checkpoint, and what lines say one after another.
use Rattle.std.proofs.Common.{◌≡◌, ◌∙◌, ◌+◌, Bool, true, false, ℕ, zero, suc, ℤ, List, [], ◌∷◌, Some, None, refl, ap, take, drop, length, arith}
use Rattle.std.specs.Prelude.{nat_lt, not, cond, Option, if◌then◌else◌}
use Rattle.std.specs.List.{cons_option, filter_map}
use Rattle.std.specs.Option.{option_map}
use Rattle.lb_model_aux.specs.declared.line.Line.{Line}
use Rattle.lb_model_aux.specs.declared.line.Line.TheVariants.{Checkpoint}
use Rattle.lb_model_aux.specs.Forms.{chapter_of, counter_of, is_close, line_of}
use Rattle.lb_model_aux.specs.Reading.{checkpoint_of, counters_to_close, lines_to_close, said, said_by}

-- the counters of a checkpoint, with what a line before them gives
abbrev pub with_counter : Option (List ℕ × ℤ) → Option (List (List ℕ × ℤ) × List (List ℕ)) → Option (List (List ℕ × ℤ) × List (List ℕ))
with_counter counter parts = option_map (λ p. (cons_option counter p.0, p.1)) parts

-- where so many lines stand before the one that closes
abbrev parts_at : ℕ → List (List ℕ) → Option (List (List ℕ × ℤ) × List (List ℕ))
parts_at k ls = if nat_lt k (length ls) then Some (filter_map counter_of (take k ls), drop (suc k) ls) else None

one-more : (n : ℕ) → 1 + n ≡ suc n
one-more n = omega arith

none-before : (n : ℕ) → nat_lt 0 (suc n) ≡ true
none-before n = grind arith

one-before : (k n : ℕ) → nat_lt (suc k) (suc n) ≡ nat_lt k n
one-before k n = by (nat_lt k n) refl where
  by : (b : Bool) → nat_lt k n ≡ b → nat_lt (suc k) (suc n) ≡ b
  by true e = grind (arith, e)
  by false e = grind (arith, e)

parts-here : (l : List ℕ) (ls : List (List ℕ)) → parts_at 0 (l ∷ ls) ≡ Some ([], ls)
parts-here l ls = ap (λ (b : Bool). if b then Some ([], ls) else None) (none-before (length ls))

parts-later : (l : List ℕ) (ls : List (List ℕ)) (k : ℕ) → parts_at (1 + k) (l ∷ ls) ≡ with_counter (counter_of l) (parts_at k ls)
parts-later l ls k =
    ap (λ n. parts_at n (l ∷ ls)) (one-more k)
    ∙ ap (λ (b : Bool). if b then Some (filter_map counter_of (take (suc k) (l ∷ ls)), drop (suc (suc k)) (l ∷ ls)) else None) (one-before k (length ls))
    ∙ by (nat_lt k (length ls))
  where
    by : (b : Bool) → (if b then Some (filter_map counter_of (take (suc k) (l ∷ ls)), drop (suc (suc k)) (l ∷ ls)) else None)
        ≡ with_counter (counter_of l) (if b then Some (filter_map counter_of (take k ls), drop (suc k) ls) else None)
    by true = refl
    by false = refl

pub close-here : (l : List ℕ) (ls : List (List ℕ)) → is_close l ≡ true → counters_to_close (l ∷ ls) ≡ Some ([], ls)
close-here l ls e = ap (λ (b : Bool). parts_at (cond (not b) (1 + lines_to_close ls) 0) (l ∷ ls)) e ∙ parts-here l ls

pub close-later : (l : List ℕ) (ls : List (List ℕ)) → is_close l ≡ false → counters_to_close (l ∷ ls) ≡ with_counter (counter_of l) (counters_to_close ls)
close-later l ls e = ap (λ (b : Bool). parts_at (cond (not b) (1 + lines_to_close ls) 0) (l ∷ ls)) e ∙ parts-later l ls (lines_to_close ls)

-- ---- What lines say

passed : (n : ℕ) (ls : List (List ℕ)) → said n ls ≡ said 0 (drop n ls)
unfolding said
passed zero ls = refl
passed (suc n) [] = refl
passed (suc n) (l ∷ ls) = passed n ls

-- a checkpoint, and what the lines behind it say
abbrev pub checkpoint_said : List ℕ → Option (List (List ℕ × ℤ) × List (List ℕ)) → List Line
checkpoint_said chapter None = []
checkpoint_said chapter (Some parts) = Checkpoint chapter parts.0 ∷ said 0 parts.1

pub said-checkpoint : (l : List ℕ) (ls : List (List ℕ)) (chapter : List ℕ) → chapter_of l ≡ Some chapter → said 0 (l ∷ ls) ≡ checkpoint_said chapter (counters_to_close ls)
unfolding said
said-checkpoint l ls chapter e =
    ap (λ o. said_by o (line_of l) ls (λ n. said n ls)) e
    ∙ ap (λ m. checkpoint_of chapter (counters_to_close ls) m) (passed (suc (lines_to_close ls)) ls)
    ∙ by (nat_lt (lines_to_close ls) (length ls))
  where
    k : ℕ
    k = lines_to_close ls

    by : (b : Bool) → checkpoint_of chapter (if b then Some (filter_map counter_of (take k ls), drop (suc k) ls) else None) (said 0 (drop (suc k) ls))
        ≡ checkpoint_said chapter (if b then Some (filter_map counter_of (take k ls), drop (suc k) ls) else None)
    by true = refl
    by false = refl

pub said-line : (l : List ℕ) (ls : List (List ℕ)) (line : Option Line) → chapter_of l ≡ None → line_of l ≡ line → said 0 (l ∷ ls) ≡ cons_option line (said 0 ls)
unfolding said
said-line l ls line e f = ap (λ o. said_by o (line_of l) ls (λ n. said n ls)) e ∙ ap (λ o. cons_option o (said 0 ls)) f
