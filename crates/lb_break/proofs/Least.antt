-- The best list of breaks as a function.
use Rattle.std.proofs.Common.{◌≡◌, ℕ, ◌<◌, ◌≤◌, ◌⊎◌, ◌||◌, ◌&&◌, ◌++◌, zero, suc, List, [], ◌∷◌, map, filter, Bool, true, false, nat_lt, nat_eq, Option, Some, None, is_some, refl, sym, ◌∙◌, ap, subst, inl, inr, arith, true≢false, ℤ, ◌<ℤ◌, int_lt, int_le}
use Rattle.std.proofs.lemmas.Int.{ints}
use Rattle.std.proofs.lemmas.Bool.Decides.{nat_tests}
use Rattle.lb_model_paper.specs.declared.paragraph.Judged.{Judged}
use Rattle.lb_model_paper.specs.BestBreaks.{Paragraph}
use Rattle.lb_model_paper.specs.BestBreaks.{judge_of, last_of, line_of, bad_of, demerits_of, IsAdmitted, Admitted, Below, BelowInt, IsEarlier, IsAsGood, IsBest}
use Rattle.lb_model_paper.specs.BestBreaks.{lists_to, admits, all_of, is_earlier, is_as_good, better_of, least_of, best_of, IsBestOf}
use Rattle.lb_break.proofs.Orders.{good-trans, good-antisym, earlier-refl}
use Rattle.lb_break.proofs.Winners.{cond-elim}

-- ---- tests

and-true : (a b : Bool) → (a && b) ≡ true → (a ≡ true) × (b ≡ true)
and-true true b h = (refl, h)
and-true false b h = absurd (true≢false (sym h))

and-yes : (a b : Bool) → a ≡ true → b ≡ true → (a && b) ≡ true
and-yes true b h k = k
and-yes false b h k = h

-- a test of an order: yes gives it, no gives the other way round
lex-yes : {R : Type 0} (m n : ℕ) (b : Bool) → (b ≡ true → R) → (nat_lt m n || (nat_eq m n && b)) ≡ true → Below m n R
lex-yes m n true f h = let g : (m < n) ⊎ (m ≡ n) = grind (arith, nat_tests) in elim g [ inl l ↦ inl l | inr e ↦ inr (e, f refl) ]
lex-yes m n false f h = inl (grind (arith, nat_tests))

lex-no : {R : Type 0} (m n : ℕ) (b : Bool) → (b ≡ false → R) → (nat_lt m n || (nat_eq m n && b)) ≡ false → Below n m R
lex-no m n true f h = inl (grind (arith, nat_tests))
lex-no m n false f h = let g : (n < m) ⊎ (n ≡ m) = grind (arith, nat_tests) in elim g [ inl l ↦ inl l | inr e ↦ inr (e, f refl) ]

lex_int-yes : {R : Type 0} (m n : ℤ) (b : Bool) → (b ≡ true → R) → (int_lt m n || (int_le m n && b)) ≡ true → BelowInt m n R
lex_int-yes m n true f h = let g : (m <ℤ n) ⊎ (m ≡ n) = grind (arith, ints) in elim g [ inl l ↦ inl l | inr e ↦ inr (e, f refl) ]
lex_int-yes m n false f h = inl (grind (arith, ints))

lex_int-no : {R : Type 0} (m n : ℤ) (b : Bool) → (b ≡ false → R) → (int_lt m n || (int_le m n && b)) ≡ false → BelowInt n m R
lex_int-no m n true f h = inl (grind (arith, ints))
lex_int-no m n false f h = let g : (n <ℤ m) ⊎ (n ≡ m) = grind (arith, ints) in elim g [ inl l ↦ inl l | inr e ↦ inr (e, f refl) ]

earlier-yes : (x y : List ℕ) → is_earlier x y ≡ true → IsEarlier x y
earlier-yes [] y h = tt
earlier-yes (i ∷ x) [] h = absurd (true≢false (sym h))
earlier-yes (i ∷ x) (j ∷ y) h = lex-yes i j (is_earlier x y) (earlier-yes x y) h

earlier-no : (x y : List ℕ) → is_earlier x y ≡ false → IsEarlier y x
earlier-no [] y h = absurd (true≢false h)
earlier-no (i ∷ x) [] h = tt
earlier-no (i ∷ x) (j ∷ y) h = lex-no i j (is_earlier x y) (earlier-no x y) h

good-yes : (p : Paragraph) (x y : List ℕ) → is_as_good p x y ≡ true → IsAsGood p x y
good-yes p x y h = lex-yes (bad_of p x) (bad_of p y) (int_lt (demerits_of p x) (demerits_of p y) || (int_le (demerits_of p x) (demerits_of p y) && is_earlier x y))
    (λ k. lex_int-yes (demerits_of p x) (demerits_of p y) (is_earlier x y) (earlier-yes x y) k) h

good-no : (p : Paragraph) (x y : List ℕ) → is_as_good p x y ≡ false → IsAsGood p y x
good-no p x y h = lex-no (bad_of p x) (bad_of p y) (int_lt (demerits_of p x) (demerits_of p y) || (int_le (demerits_of p x) (demerits_of p y) && is_earlier x y))
    (λ k. lex_int-no (demerits_of p x) (demerits_of p y) (is_earlier x y) (earlier-no x y) k) h

good-refl : (p : Paragraph) (x : List ℕ) → IsAsGood p x x
good-refl p x = inr (refl, inr (refl, earlier-refl x))

judged-yes : (o : Option Judged) → is_some o ≡ true → IsAdmitted o
judged-yes None h = absurd (true≢false (sym h))
judged-yes (Some line) h = tt

judged-in : (o : Option Judged) → IsAdmitted o → is_some o ≡ true
judged-in None h = absurd h
judged-in (Some line) h = refl

lt-yes : (a b : ℕ) → nat_lt a b ≡ true → a < b
lt-yes a b h = grind (arith, nat_tests)

lt-in : (a b : ℕ) → a < b → nat_lt a b ≡ true
lt-in a b h = grind (arith, nat_tests)

eq-yes : (a b : ℕ) → nat_eq a b ≡ true → a ≡ b
eq-yes a b h = grind (arith, nat_tests)

eq-in : (a b : ℕ) → a ≡ b → nat_eq a b ≡ true
eq-in a b h = grind (arith, nat_tests)

admits-yes : (p : Paragraph) (x : List ℕ) → admits p x ≡ true → Admitted p x
admits-yes p [] h = tt
admits-yes p (j ∷ rest) h =
    let a = and-true (nat_lt (last_of rest) j) (is_some (judge_of p (line_of p rest) (last_of rest) j) && admits p rest) h in
    let b = and-true (is_some (judge_of p (line_of p rest) (last_of rest) j)) (admits p rest) a.1 in
    (lt-yes (last_of rest) j a.0, judged-yes (judge_of p (line_of p rest) (last_of rest) j) b.0, admits-yes p rest b.1)

admits-in : (p : Paragraph) (x : List ℕ) → Admitted p x → admits p x ≡ true
admits-in p [] a = refl
admits-in p (j ∷ rest) a =
    and-yes (nat_lt (last_of rest) j) (is_some (judge_of p (line_of p rest) (last_of rest) j) && admits p rest) (lt-in (last_of rest) j a.0)
    (and-yes (is_some (judge_of p (line_of p rest) (last_of rest) j)) (admits p rest) (judged-in (judge_of p (line_of p rest) (last_of rest) j) a.1) (admits-in p rest a.2))

-- ---- elements

abbrev pub Among : {X : Type 0} → List X → X → Type 0
Among [] y = ⊥
Among (x ∷ xs) y = (x ≡ y) ⊎ Among xs y

among-left : {X : Type 0} (xs ys : List X) (y : X) → Among xs y → Among (xs ++ ys) y
among-left [] ys y h = absurd h
among-left (x ∷ xs) ys y h = elim h [ inl e ↦ inl e | inr m ↦ inr (among-left xs ys y m) ]

among-right : {X : Type 0} (xs ys : List X) (y : X) → Among ys y → Among (xs ++ ys) y
among-right [] ys y h = h
among-right (x ∷ xs) ys y h = inr (among-right xs ys y h)

among-map : {X Y : Type 0} (f : X → Y) (xs : List X) (y : X) → Among xs y → Among (map f xs) (f y)
among-map f [] y h = absurd h
among-map f (x ∷ xs) y h = elim h [ inl e ↦ inl (ap f e) | inr m ↦ inr (among-map f xs y m) ]

filter-in : {X : Type 0} (t : X → Bool) (xs : List X) (y : X) → Among xs y → t y ≡ true → Among (filter t xs) y
filter-in t [] y h e = h
filter-in t (x ∷ xs) y h e = elim h [
  | inl d ↦ cond-elim (λ zs. Among zs y) (t x) (x ∷ filter t xs) (filter t xs) (λ _. inl d) (λ f. absurd (true≢false (sym e ∙ sym (ap t d) ∙ f)))
  | inr m ↦ cond-elim (λ zs. Among zs y) (t x) (x ∷ filter t xs) (filter t xs) (λ _. inr (filter-in t xs y m e)) (λ _. filter-in t xs y m e)
]

filter-out : {X : Type 0} (t : X → Bool) (xs : List X) (y : X) → Among (filter t xs) y → Among xs y × (t y ≡ true)
filter-out t [] y = λ h. absurd h
filter-out t (x ∷ xs) y = cond-elim (λ zs. Among zs y → Among (x ∷ xs) y × (t y ≡ true)) (t x) (x ∷ filter t xs) (filter t xs)
    (λ e h. elim h [ inl d ↦ (inl d, sym (ap t d) ∙ e) | inr m ↦ let r = filter-out t xs y m in (inr r.0, r.1) ])
    (λ _ h. let r = filter-out t xs y h in (inr r.0, r.1))

le-cases : (a n : ℕ) → a ≤ suc n → (a ≤ n) ⊎ (suc n ≡ a)
le-cases a n h = grind arith

-- each list that is admitted is one of all lists
in-lists : (p : Paragraph) (n : ℕ) (x : List ℕ) → Admitted p x → last_of x ≤ n → Among (lists_to n) x
in-lists p zero [] a h = inl refl
in-lists p zero (j ∷ rest) a h = absurd (omega (arith, a.0, h))
in-lists p (suc n) [] a h = among-left (lists_to n) (map (λ x. suc n ∷ x) (lists_to n)) [] (in-lists p n [] tt (omega arith))
in-lists p (suc n) (j ∷ rest) a h = elim (le-cases j n h) [
  | inl l ↦ among-left (lists_to n) (map (λ x. suc n ∷ x) (lists_to n)) (j ∷ rest) (in-lists p n (j ∷ rest) a l)
  | inr e ↦ among-right (lists_to n) (map (λ x. suc n ∷ x) (lists_to n)) (j ∷ rest)
      (subst (λ k. Among (map (λ x. suc n ∷ x) (lists_to n)) (k ∷ rest)) e (among-map (λ x. suc n ∷ x) (lists_to n) rest (in-lists p n rest a.2 (omega (arith, a.0)))))
]

in-all : (p : Paragraph) (y : List ℕ) → Admitted p y → last_of y ≡ p.count → Among (all_of p) y
in-all p y a e = filter-in (λ x. admits p x && nat_eq (last_of x) p.count) (lists_to p.count) y (in-lists p p.count y a (omega (arith, e)))
    (and-yes (admits p y) (nat_eq (last_of y) p.count) (admits-in p y a) (eq-in (last_of y) p.count e))

out-all : (p : Paragraph) (y : List ℕ) → Among (all_of p) y → Admitted p y × (last_of y ≡ p.count)
out-all p y h =
    let r = filter-out (λ x. admits p x && nat_eq (last_of x) p.count) (lists_to p.count) y h in
    let b = and-true (admits p y) (nat_eq (last_of y) p.count) r.1 in
    (admits-yes p y b.0, eq-yes (last_of y) p.count b.1)

-- ---- the least

abbrev pub IsLeast : Paragraph → List (List ℕ) → Option (List ℕ) → Type 0
IsLeast p xs None = (y : List ℕ) → Among xs y → ⊥
IsLeast p xs (Some z) = Among xs z × ((y : List ℕ) → Among xs y → IsAsGood p z y)

least-more : (p : Paragraph) (x : List ℕ) (xs : List (List ℕ)) (o : Option (List ℕ)) → IsLeast p xs o → IsLeast p (x ∷ xs) (Some (better_of p x o))
least-more p x xs None n = (inl refl, λ y h. elim h [ inl e ↦ subst (λ w. IsAsGood p x w) e (good-refl p x) | inr m ↦ absurd (n y m) ])
least-more p x xs (Some z) n = cond-elim (λ w. IsLeast p (x ∷ xs) (Some w)) (is_as_good p x z) x z
    (λ t. (inl refl, λ y h. elim h [ inl e ↦ subst (λ w. IsAsGood p x w) e (good-refl p x) | inr m ↦ good-trans p x z y (good-yes p x z t) (n.1 y m) ]))
    (λ t. (inr n.0, λ y h. elim h [ inl e ↦ subst (λ w. IsAsGood p z w) e (good-no p x z t) | inr m ↦ n.1 y m ]))

least-is : (p : Paragraph) (xs : List (List ℕ)) → IsLeast p xs (least_of p xs)
least-is p [] = λ y h. h
least-is p (x ∷ xs) = least-more p x xs (least_of p xs) (least-is p xs)

least-one : (p : Paragraph) (xs : List (List ℕ)) (x : List ℕ) (o : Option (List ℕ)) → IsLeast p xs o → Among xs x → ((y : List ℕ) → Among xs y → IsAsGood p x y) → o ≡ Some x
least-one p xs x None n h l = absurd (n x h)
least-one p xs x (Some z) n h l = ap Some (good-antisym p z x (n.1 x h) (l z n.0))

least-none : (p : Paragraph) (xs : List (List ℕ)) (o : Option (List ℕ)) → IsLeast p xs o → ((y : List ℕ) → Among xs y → ⊥) → o ≡ None
least-none p xs None n h = refl
least-none p xs (Some z) n h = absurd (h z n.0)

-- ---- the laws

pub best-some : (p : Paragraph) (x : List ℕ) → IsBest p x → best_of p ≡ Some x
unfolding best_of
best-some p x b = least-one p (all_of p) x (least_of p (all_of p)) (least-is p (all_of p)) (in-all p x b.admitted b.ends) (λ y h. let a = out-all p y h in b.least y a.0 a.1)

pub best-none : (p : Paragraph) → ((y : List ℕ) → Admitted p y → last_of y ≡ p.count → ⊥) → best_of p ≡ None
unfolding best_of
best-none p n = least-none p (all_of p) (least_of p (all_of p)) (least-is p (all_of p)) (λ y h. let a = out-all p y h in n y a.0 a.1)

best-by : (p : Paragraph) (o : Option (List ℕ)) → IsLeast p (all_of p) o → IsBestOf p o
best-by p None n = λ y a e. n y (in-all p y a e)
best-by p (Some x) n = let a = out-all p x n.0 in record { admitted = a.0; ends = a.1; least = λ y b e. n.1 y (in-all p y b e) }

pub best-law : (p : Paragraph) → IsBestOf p (best_of p)
unfolding best_of
best-law p = best-by p (least_of p (all_of p)) (least-is p (all_of p))
