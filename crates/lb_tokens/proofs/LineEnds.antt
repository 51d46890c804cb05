-- Spaces at the end of a line.
use Rattle.std.proofs.Common.{◌≡◌, ℕ, ◌+◌, ◌-◌, ◌<◌, ◌≤◌, false, List, [], ◌∷◌, ◌++◌, length, take, get_or, refl, ap, sym, ◌∙◌, arith}
use Rattle.std.specs.Prelude.{◌==◌}
use Rattle.std.proofs.lemmas.Bool.{and_right, ne_eqb}
use Rattle.lb_model.specs.Lines.{trimmed, is_empty}
use Rattle.std.proofs.lemmas.List.{take_more}

trimmed-none : trimmed [] ≡ []
unfolding trimmed
trimmed-none = refl

trimmed-space : (xs : List ℕ) → trimmed (xs ++ 32 ∷ []) ≡ trimmed xs
unfolding trimmed
trimmed-space [] = refl
trimmed-space (c ∷ xs) = rw (trimmed-space xs) refl

is_empty-append : (xs : List ℕ) (c : ℕ) → is_empty (xs ++ c ∷ []) ≡ false
is_empty-append [] c = refl
is_empty-append (x ∷ xs) c = refl

trimmed-other : (xs : List ℕ) (c : ℕ) → (c == 32) ≡ false → trimmed (xs ++ c ∷ []) ≡ xs ++ c ∷ []
unfolding trimmed
trimmed-other [] c h = rw h refl
trimmed-other (x ∷ xs) c h = rw (trimmed-other xs c h, is_empty-append xs c, and_right (x == 32) false refl) refl

last_more : (line : List ℕ) (end : ℕ) → 0 < end → end ≤ length line → take end line ≡ take (end - 1) line ++ get_or line (end - 1) 0 ∷ []
last_more line end above within =
    let inside : end - 1 < length line = omega arith in
    let back : end ≡ end - 1 + 1 = omega arith in
    ap (λ n. take n line) back ∙ take_more line (end - 1) 0 inside

pub trim-space : (line : List ℕ) (end : ℕ) → 0 < end → end ≤ length line → get_or line (end - 1) 0 ≡ 32 → trimmed (take (end - 1) line) ≡ trimmed (take end line)
trim-space line end above within h =
    sym (ap trimmed (last_more line end above within) ∙ ap (λ c. trimmed (take (end - 1) line ++ c ∷ [])) h ∙ trimmed-space (take (end - 1) line))

pub trim-stop : (line : List ℕ) (end : ℕ) → 0 < end → end ≤ length line → (get_or line (end - 1) 0 ≡ 32 → ⊥) → take end line ≡ trimmed (take end line)
trim-stop line end above within h =
    let e = last_more line end above within in
    e ∙ sym (ap trimmed e ∙ trimmed-other (take (end - 1) line) (get_or line (end - 1) 0) (ne_eqb (get_or line (end - 1) 0) 32 h))

pub trim-none : (line : List ℕ) (end : ℕ) → end ≡ 0 → [] ≡ trimmed (take end line)
trim-none line end h = sym (ap (λ n. trimmed (take n line)) h ∙ trimmed-none)
