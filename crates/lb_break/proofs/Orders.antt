-- The order of lists of breaks, and one more line.
use Rattle.std.proofs.Common.{◌≡◌, ℕ, ◌+◌, List, [], ◌∷◌, refl, sym, ◌∙◌, ap, subst, inl, inr, arith, ℤ, ◌+ℤ◌}
use Rattle.std.proofs.lemmas.Int.{ints}
use Rattle.lb_model_paper.specs.BestBreaks.{Paragraph}
use Rattle.lb_model_paper.specs.BestBreaks.{judge_of, extra_of, last_of, fitness_of, line_of, bad_of, demerits_of, bad_in, demerits_in, fitness_in, Below, BelowInt, IsEarlier, IsAsGood}

-- ---- the order, in parts

pub below-trans : {P Q R : Type 0} (a b c : ℕ) → Below a b P → Below b c Q → (P → Q → R) → Below a c R
below-trans a b c h k f =
    elim h [
      | inl l ↦ elim k [ inl m ↦ inl (omega arith) | inr m ↦ let e : b ≡ c = m.0 in inl (omega arith) ]
      | inr l ↦ let d : a ≡ b = l.0 in elim k [ inl m ↦ inl (omega arith) | inr m ↦ let e : b ≡ c = m.0 in inr (d ∙ e, f l.1 m.1) ]
    ]

pub below_int-trans : {P Q R : Type 0} (a b c : ℤ) → BelowInt a b P → BelowInt b c Q → (P → Q → R) → BelowInt a c R
below_int-trans a b c h k f =
    elim h [
      | inl l ↦ elim k [ inl m ↦ inl (omega (arith, ints)) | inr m ↦ let e : b ≡ c = m.0 in inl (omega (arith, ints)) ]
      | inr l ↦ let d : a ≡ b = l.0 in elim k [ inl m ↦ inl (omega (arith, ints)) | inr m ↦ let e : b ≡ c = m.0 in inr (d ∙ e, f l.1 m.1) ]
    ]

pub earlier-trans : (x y z : List ℕ) → IsEarlier x y → IsEarlier y z → IsEarlier x z
earlier-trans [] _ _ _ _ = tt
earlier-trans (i ∷ x) [] _ h _ = absurd h
earlier-trans (i ∷ x) (j ∷ y) [] _ k = absurd k
earlier-trans (i ∷ x) (j ∷ y) (k ∷ z) h g = below-trans i j k h g (earlier-trans x y z)

pub earlier-refl : (x : List ℕ) → IsEarlier x x
earlier-refl [] = tt
earlier-refl (i ∷ x) = inr (refl, earlier-refl x)

pub earlier-antisym : (x y : List ℕ) → IsEarlier x y → IsEarlier y x → x ≡ y
earlier-antisym [] [] _ _ = refl
earlier-antisym [] (j ∷ y) _ k = absurd k
earlier-antisym (i ∷ x) [] h _ = absurd h
earlier-antisym (i ∷ x) (j ∷ y) h k =
    elim h [
      | inl l ↦ elim k [ inl m ↦ absurd (omega arith) | inr m ↦ let e : j ≡ i = m.0 in absurd (omega arith) ]
      | inr l ↦ let d : i ≡ j = l.0 in elim k [ inl m ↦ absurd (omega arith) | inr m ↦ let e : x ≡ y = earlier-antisym x y l.1 m.1 in cc ]
    ]

pub good-trans : (p : Paragraph) (x y z : List ℕ) → IsAsGood p x y → IsAsGood p y z → IsAsGood p x z
good-trans p x y z h k =
    below-trans (bad_of p x) (bad_of p y) (bad_of p z) h k
    (λ h1 k1. below_int-trans (demerits_of p x) (demerits_of p y) (demerits_of p z) h1 k1 (earlier-trans x y z))

-- ---- one more line

-- what a line adds depends on the list before it by its last break and its last fitness alone
pub judge-same : (p : Paragraph) (j : ℕ) (x y : List ℕ) → last_of x ≡ last_of y → line_of p x ≡ line_of p y → judge_of p (line_of p x) (last_of x) j ≡ judge_of p (line_of p y) (last_of y) j
judge-same p j x y e g = ap (λ i. judge_of p (line_of p x) i j) e ∙ ap (λ k. judge_of p k (last_of y) j) g

pub fitness-same : (p : Paragraph) (j : ℕ) (x y : List ℕ) → last_of x ≡ last_of y → line_of p x ≡ line_of p y → fitness_of p (j ∷ x) ≡ fitness_of p (j ∷ y)
fitness-same p j x y e g = ap fitness_in (judge-same p j x y e g)

pub below-add : {P Q : Type 0} (m a b : ℕ) → Below a b P → (P → Q) → Below (m + a) (m + b) Q
below-add m a b h f = elim h [ inl l ↦ inl (omega arith) | inr l ↦ let e : a ≡ b = l.0 in inr (ap (λ n. m + n) e, f l.1) ]

pub below_int-add : {P Q : Type 0} (m a b : ℤ) → BelowInt a b P → (P → Q) → BelowInt (m +ℤ a) (m +ℤ b) Q
below_int-add m a b h f = elim h [ inl l ↦ inl (omega (arith, ints)) | inr l ↦ let e : a ≡ b = l.0 in inr (ap (λ n. m +ℤ n) e, f l.1) ]

-- of two lists to one break with one last fitness, the better one stays better by one more line
pub good-add : (p : Paragraph) (j : ℕ) (x y : List ℕ) → last_of x ≡ last_of y → fitness_of p x ≡ fitness_of p y → line_of p x ≡ line_of p y → IsAsGood p x y → IsAsGood p (j ∷ x) (j ∷ y)
good-add p j x y e f g h =
    let bad : bad_in (judge_of p (line_of p x) (last_of x) j) ≡ bad_in (judge_of p (line_of p y) (last_of y) j) = ap bad_in (judge-same p j x y e g) in
    let own : (demerits_in (judge_of p (line_of p x) (last_of x) j) +ℤ extra_of p (fitness_of p x) (fitness_of p (j ∷ x))) ≡ (demerits_in (judge_of p (line_of p y) (last_of y) j) +ℤ extra_of p (fitness_of p y) (fitness_of p (j ∷ y))) =
    let e1 : demerits_in (judge_of p (line_of p x) (last_of x) j) ≡ demerits_in (judge_of p (line_of p y) (last_of y) j) = ap demerits_in (judge-same p j x y e g) in
    let e2 : extra_of p (fitness_of p x) (fitness_of p (j ∷ x)) ≡ extra_of p (fitness_of p y) (fitness_of p (j ∷ y)) = ap (λ v. extra_of p v (fitness_of p (j ∷ x))) f ∙ ap (λ v. extra_of p (fitness_of p y) v) (fitness-same p j x y e g) in
    ap (λ a. a +ℤ extra_of p (fitness_of p x) (fitness_of p (j ∷ x))) e1 ∙ ap (λ a. demerits_in (judge_of p (line_of p y) (last_of y) j) +ℤ a) e2 in
    let Less : ℕ → ℤ → Type 0 = λ b d. Below (b + bad_of p x) (bad_in (judge_of p (line_of p y) (last_of y) j) + bad_of p y) (BelowInt (d +ℤ demerits_of p x) ((demerits_in (judge_of p (line_of p y) (last_of y) j) +ℤ extra_of p (fitness_of p y) (fitness_of p (j ∷ y))) +ℤ demerits_of p y) (IsEarlier (j ∷ x) (j ∷ y))) in
    let b : ℕ = bad_in (judge_of p (line_of p y) (last_of y) j) in
    let d : ℤ = demerits_in (judge_of p (line_of p y) (last_of y) j) +ℤ extra_of p (fitness_of p y) (fitness_of p (j ∷ y)) in
    let core : Less b d = below-add b (bad_of p x) (bad_of p y) h (λ h1. below_int-add d (demerits_of p x) (demerits_of p y) h1 (λ h2. inr (refl, h2))) in
    subst (λ b1. Less b1 (demerits_in (judge_of p (line_of p x) (last_of x) j) +ℤ extra_of p (fitness_of p x) (fitness_of p (j ∷ x)))) (sym bad) (subst (λ d1. Less b d1) (sym own) core)

-- two bests are one
pub good-antisym : (p : Paragraph) (x y : List ℕ) → IsAsGood p x y → IsAsGood p y x → x ≡ y
good-antisym p x y h k =
    elim h [
      | inl l ↦ elim k [ inl m ↦ absurd (omega arith) | inr m ↦ let e : bad_of p y ≡ bad_of p x = m.0 in absurd (omega arith) ]
      | inr l ↦ let d : bad_of p x ≡ bad_of p y = l.0 in elim k [
        | inl m ↦ absurd (omega arith)
        | inr m ↦ elim (l.1) [
          | inl l2 ↦ elim (m.1) [ inl m2 ↦ absurd (omega (arith, ints)) | inr m2 ↦ let e : demerits_of p y ≡ demerits_of p x = m2.0 in absurd (omega (arith, ints)) ]
          | inr l2 ↦ let e : demerits_of p x ≡ demerits_of p y = l2.0 in elim (m.1) [ inl m2 ↦ absurd (omega (arith, ints)) | inr m2 ↦ earlier-antisym x y l2.1 m2.1 ]
        ]
      ]
    ]
