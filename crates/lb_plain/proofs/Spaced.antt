-- A line of letters, digits and single spaces.
use Rattle.std.proofs.Common.{◌≡◌, ℕ, suc, ◌+◌, ◌<◌, ◌≤◌, Bool, true, false, List, ◌∷◌, length, drop, get_or, refl, ap, sym, ◌∙◌, add-one, drop-cons}
use Rattle.std.specs.Prelude.{◌==◌, ◌&&◌}
use Rattle.std.proofs.lemmas.List.{drop_all}
use Rattle.lb_model_book.specs.PlainForm.{is_spaced}
use Rattle.lb_plain.specs.Parts.{may_follow}

step : (behind : Bool) (c : ℕ) (rest : List ℕ) (b : Bool) → (c == 32) ≡ b → is_spaced behind (c ∷ rest) ≡ (may_follow c behind && is_spaced b rest)
unfolding is_spaced
step behind c rest true e = rw e refl
step behind c rest false e = rw e refl

at : (line : List ℕ) (i : ℕ) (behind : Bool) → i < length line → is_spaced behind (drop i line) ≡ (may_follow (get_or line i 0) behind && is_spaced (get_or line i 0 == 32) (drop (i + 1) line))
at line i behind inside = ap (is_spaced behind) (drop-cons line i 0 inside) ∙ step behind (get_or line i 0) (drop (suc i) line) (get_or line i 0 == 32) refl ∙ ap (λ n. may_follow (get_or line i 0) behind && is_spaced (get_or line i 0 == 32) (drop n line)) (sym (add-one i))

pub spaced-more : (line : List ℕ) (i : ℕ) (behind : Bool) → i < length line → may_follow (get_or line i 0) behind ≡ true → is_spaced (get_or line i 0 == 32) (drop (i + 1) line) ≡ is_spaced behind (drop i line)
spaced-more line i behind inside h = sym (at line i behind inside ∙ ap (λ b. b && is_spaced (get_or line i 0 == 32) (drop (i + 1) line)) h)

pub spaced-stop : (line : List ℕ) (i : ℕ) (behind : Bool) → i < length line → may_follow (get_or line i 0) behind ≡ false → false ≡ is_spaced behind (drop i line)
spaced-stop line i behind inside h = sym (at line i behind inside ∙ ap (λ b. b && is_spaced (get_or line i 0 == 32) (drop (i + 1) line)) h)

pub spaced-end : (line : List ℕ) (i : ℕ) (behind : Bool) → length line ≤ i → true ≡ is_spaced behind (drop i line)
unfolding is_spaced
spaced-end line i behind past = sym (ap (is_spaced behind) (drop_all i line past))
