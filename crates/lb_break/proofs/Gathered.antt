-- The best points at one break as they are gathered.
use Rattle.std.proofs.Common.{◌≡◌, ℕ, ◌+◌, ◌<◌, ◌≤◌, ◌⊎◌, ◌++◌, false, List, [], ◌∷◌, Some, None, length, set, refl, sym, ◌∙◌, ap, subst, inl, inr, arith, below_more, get_or-set_same, get_or-set_other, length-append}
use Rattle.std.proofs.Math.ListN.{length-set}
use Rattle.std.proofs.lemmas.List.{get_or_append_left, get_or-append-add}
use Rattle.std.proofs.lemmas.Int.{ints}
use Rattle.std.specs.List.{All}
use Rattle.std.proofs.lemmas.List.Elements.{All-append, All-push, All-nil}
use Rattle.lb_model_paper.specs.BestBreaks.{Paragraph}
use Rattle.lb_break.specs.declared.point.Breakpoint.{Breakpoint}
use Rattle.lb_break.specs.Points.{extended, point_at, blank, start, KeyLe, IsSmall, AreSmall}
use Rattle.lb_break.specs.Progress.{SameClass, IsBestBelow, IsGathered, cheaper, IsKept, Put}
use Rattle.lb_break.proofs.Winners.{made, IsMade, key-trans, cheaper-yes, cheaper-no}

some-same : {A : Type 0} (x y : A) → Some x ≡ Some y → x ≡ y
some-same x y e = cc

key-self : (a : Breakpoint) → KeyLe a a
key-self a = inr (refl, inr (refl, omega arith))

same-sym : (a b : Breakpoint) → SameClass a b → SameClass b a
same-sym a b h = (sym h.0, sym h.1)

same-trans : (a b c : Breakpoint) → SameClass a b → SameClass b c → SameClass a c
same-trans a b c h k = (h.0 ∙ k.0, h.1 ∙ k.1)

-- one more index: what it makes is of another class, or no better
best-more : (p : Paragraph) (points : List Breakpoint) (j index : ℕ) (point new : Breakpoint) → extended p points j index ≡ Some new → (SameClass new point → KeyLe point new) → IsBestBelow p points j index point → IsBestBelow p points j (index + 1) point
best-more p points j index point new e le b = record {
  within = omega (arith, b.within);
  made = b.made;
  small = b.small;
  least = λ q other h. below_more (λ q. (other : Breakpoint) → extended p points j q ≡ Some other → SameClass other point → KeyLe point other) index
      (λ q h other. b.least q other h)
      (λ other h s. let i : new ≡ other = some-same new other (sym e ∙ h) in subst (λ o. KeyLe point o) i (le (subst (λ o. SameClass o point) (sym i) s)))
      q h other;
}

sure : (p : Paragraph) (points : List Breakpoint) (j index : ℕ) (point : Breakpoint) → extended p points j index ≡ Some point → IsSmall point
    → ((q : ℕ) (other : Breakpoint) → q < index → extended p points j q ≡ Some other → SameClass other point → KeyLe point other) → IsBestBelow p points j (index + 1) point
sure p points j index point e small below =
    let m : IsMade p points j index point = made p points j index point e in
    record {
      within = omega (arith, m.from);
      made = ap (extended p points j) m.from ∙ e;
      small = small;
      least = λ q other h. below_more (λ q. (other : Breakpoint) → extended p points j q ≡ Some other → SameClass other point → KeyLe point other) index
          (λ q h other. below q other h)
          (λ other h _. subst (λ o. KeyLe point o) (some-same point other (sym e ∙ h)) (key-self point))
          q h other;
    }

complete-more : (p : Paragraph) (points : List Breakpoint) (j index : ℕ) (ys : List Breakpoint) (new : Breakpoint) → extended p points j index ≡ Some new
    → ((q : ℕ) (other : Breakpoint) → q < index → extended p points j q ≡ Some other → (k : ℕ) × (k < length ys) × SameClass (point_at ys k) other)
    → (k : ℕ) × (k < length ys) × SameClass (point_at ys k) new
    → (q : ℕ) (other : Breakpoint) → q < index + 1 → extended p points j q ≡ Some other → (k : ℕ) × (k < length ys) × SameClass (point_at ys k) other
complete-more p points j index ys new e below here q other h g =
    below_more (λ q. (other : Breakpoint) → extended p points j q ≡ Some other → (k : ℕ) × (k < length ys) × SameClass (point_at ys k) other) index
    (λ q l o. below q o l)
    (λ o f. subst (λ n. (k : ℕ) × (k < length ys) × SameClass (point_at ys k) n) (some-same new o (sym e ∙ f)) here) q h other g

is-or-not : (a b : ℕ) → (a ≡ b) ⊎ (a ≡ b → ⊥)
is-or-not a b = grind arith

gathered-kept : (p : Paragraph) (points : List Breakpoint) (j index : ℕ) (xs : List Breakpoint) (point : Breakpoint) → extended p points j index ≡ Some point → IsGathered p points j index xs → (t : IsKept xs point xs) → IsGathered p points j (index + 1) xs
gathered-kept p points j index xs point e g t =
    let m : IsMade p points j index point = made p points j index point e in
    let here : KeyLe (point_at xs t.k) point = cheaper-yes (point_at xs t.k) point ((point_at xs t.k).from ≤ point.from) (omega (arith, m.from, (g.each t.k t.within).within)) t.cheaper in
    record {
      each = λ l h. best-more p points j index (point_at xs l) point e
          (λ s. let i : t.k ≡ l = g.distinct t.k l t.within h (same-trans (point_at xs t.k) point (point_at xs l) t.same s) in subst (λ a. KeyLe (point_at xs a) point) i here)
          (g.each l h);
      distinct = g.distinct;
      complete = complete-more p points j index xs point e g.complete (t.k, t.within, t.same);
    }

gathered-replaced : (p : Paragraph) (points : List Breakpoint) (j index : ℕ) (xs : List Breakpoint) (point : Breakpoint) → extended p points j index ≡ Some point → IsSmall point → IsGathered p points j index xs
    → (k : ℕ) → k < length xs → SameClass (point_at xs k) point → cheaper (point_at xs k) point ≡ false → IsGathered p points j (index + 1) (set xs k point)
gathered-replaced p points j index xs point e small g k within same dearer =
    let here : KeyLe point (point_at xs k) = cheaper-no (point_at xs k) point (point.from ≤ (point_at xs k).from) dearer in
    let long : length (set xs k point) ≡ length xs = length-set xs k point in
    let at : point_at (set xs k point) k ≡ point = get_or-set_same xs k point blank within in
    let other_at : (l : ℕ) → (l ≡ k → ⊥) → point_at (set xs k point) l ≡ point_at xs l = λ l ne. get_or-set_other xs k l point blank ne in
    let class : (l : ℕ) → SameClass (point_at (set xs k point) l) (point_at xs l) = λ l. elim (is-or-not l k) [
      | inl i ↦ subst (λ a. SameClass (point_at (set xs k point) a) (point_at xs a)) (sym i) (subst (λ n. SameClass n (point_at xs k)) (sym at) (same-sym (point_at xs k) point same))
      | inr ne ↦ subst (λ n. SameClass n (point_at xs l)) (sym (other_at l ne)) (refl, refl)
    ] in
    record {
      each = λ l h. elim (is-or-not l k) [
        | inl i ↦ subst (λ a. IsBestBelow p points j (index + 1) (point_at (set xs k point) a)) (sym i) (subst (IsBestBelow p points j (index + 1)) (sym at)
            (sure p points j index point e small (λ q other b f s. key-trans point (point_at xs k) other here ((g.each k within).least q other b f (same-trans other point (point_at xs k) s (same-sym (point_at xs k) point same))))))
        | inr ne ↦ subst (IsBestBelow p points j (index + 1)) (sym (other_at l ne))
            (let h1 : l < length xs = omega arith in
            best-more p points j index (point_at xs l) point e (λ s. absurd (ne (g.distinct l k h1 within (same-trans (point_at xs l) point (point_at xs k) (same-sym point (point_at xs l) s) (same-sym (point_at xs k) point same))))) (g.each l h1))
      ];
      distinct = λ a b ha hb s. g.distinct a b (omega arith) (omega arith) (same-trans (point_at xs a) (point_at (set xs k point) a) (point_at xs b) (same-sym (point_at (set xs k point) a) (point_at xs a) (class a)) (same-trans (point_at (set xs k point) a) (point_at (set xs k point) b) (point_at xs b) s (class b)));
      complete = complete-more p points j index (set xs k point) point e
          (λ q other h f. let m = g.complete q other h f in (m.0, omega (arith, m.1), same-trans (point_at (set xs k point) m.0) (point_at xs m.0) other (class m.0) m.2))
          (k, omega arith, subst (λ n. SameClass n point) (sym at) (refl, refl));
    }

split-push : (xs : List Breakpoint) (point : Breakpoint) (l : ℕ) → l < length (xs ++ point ∷ []) → ((l < length xs) × (point_at (xs ++ point ∷ []) l ≡ point_at xs l)) ⊎ ((l ≡ length xs) × (point_at (xs ++ point ∷ []) l ≡ point))
split-push xs point l h =
    let long : length (xs ++ point ∷ []) ≡ length xs + 1 = length-append xs (point ∷ []) in
    elim (is-or-not l (length xs)) [
      | inl i ↦ inr (i, ap (λ a. point_at (xs ++ point ∷ []) a) (let e : l ≡ length xs + 0 = omega arith in e) ∙ get_or-append-add xs (point ∷ []) 0 blank)
      | inr ne ↦ let h1 : l < length xs = omega arith in inl (h1, get_or_append_left xs (point ∷ []) blank l h1)
    ]

gathered-pushed : (p : Paragraph) (points : List Breakpoint) (j index : ℕ) (xs : List Breakpoint) (point : Breakpoint) → extended p points j index ≡ Some point → IsSmall point → IsGathered p points j index xs
    → ((k : ℕ) → k < length xs → SameClass (point_at xs k) point → ⊥) → IsGathered p points j (index + 1) (xs ++ point ∷ [])
gathered-pushed p points j index xs point e small g new =
    let ys : List Breakpoint = xs ++ point ∷ [] in
    let long : length ys ≡ length xs + 1 = length-append xs (point ∷ []) in
    let old : (l : ℕ) → l < length xs → point_at xs l ≡ point_at ys l = λ l h. sym (get_or_append_left xs (point ∷ []) blank l h) in
    let last : point ≡ point_at ys (length xs) = sym (ap (λ a. point_at ys a) (let z : length xs ≡ length xs + 0 = omega arith in z) ∙ get_or-append-add xs (point ∷ []) 0 blank) in
    record {
      each = λ l h. elim (split-push xs point l h) [
        | inl m ↦ subst (IsBestBelow p points j (index + 1)) (sym m.1) (best-more p points j index (point_at xs l) point e (λ s. absurd (new l m.0 (same-sym point (point_at xs l) s))) (g.each l m.0))
        | inr m ↦ subst (IsBestBelow p points j (index + 1)) (sym m.1) (sure p points j index point e small
            (λ q other b f s. let c = g.complete q other b f in absurd (new c.0 c.1 (same-trans (point_at xs c.0) other point c.2 s))))
      ];
      distinct = λ a b ha hb s. elim (split-push xs point a ha) [
        | inl m ↦ elim (split-push xs point b hb) [
          | inl n ↦ g.distinct a b m.0 n.0 (subst (λ u. SameClass u (point_at xs b)) m.1 (subst (λ u. SameClass (point_at ys a) u) n.1 s))
          | inr n ↦ absurd (new a m.0 (subst (λ u. SameClass u point) m.1 (subst (λ u. SameClass (point_at ys a) u) n.1 s)))
        ]
        | inr m ↦ elim (split-push xs point b hb) [
          | inl n ↦ absurd (new b n.0 (same-sym point (point_at xs b) (subst (λ u. SameClass u (point_at xs b)) m.1 (subst (λ u. SameClass (point_at ys a) u) n.1 s))))
          | inr n ↦ m.0 ∙ sym n.0
        ]
      ];
      complete = complete-more p points j index ys point e
          (λ q other h f. let m = g.complete q other h f in (m.0, omega (arith, m.1), subst (λ u. SameClass u other) (old m.0 m.1) m.2))
          (length xs, omega arith, subst (λ u. SameClass u point) last (refl, refl));
    }

pub gathered-put : (p : Paragraph) (points : List Breakpoint) (j index : ℕ) (xs ys : List Breakpoint) (point : Breakpoint) → Some point ≡ extended p points j index → IsSmall point → IsGathered p points j index xs → Put xs point ys → IsGathered p points j (index + 1) ys
gathered-put p points j index xs ys point e small g put = elim put [
  | inl t ↦ subst (IsGathered p points j (index + 1)) (sym t.is) (gathered-kept p points j index xs point (sym e) g (record { k = t.k; within = t.within; same = t.same; cheaper = t.cheaper; is = refl }))
  | inr r ↦ elim r [
    | inl t ↦ subst (IsGathered p points j (index + 1)) (sym t.is) (gathered-replaced p points j index xs point (sym e) small g t.k t.within t.same t.dearer)
    | inr t ↦ subst (IsGathered p points j (index + 1)) (sym t.is) (gathered-pushed p points j index xs point (sym e) small g t.new)
  ]
]

pub gathered-skip : (p : Paragraph) (points : List Breakpoint) (j index : ℕ) (xs : List Breakpoint) → None ≡ extended p points j index → IsGathered p points j index xs → IsGathered p points j (index + 1) xs
gathered-skip p points j index xs e g = record {
  each = λ l h. let b = g.each l h in record {
    within = omega (arith, b.within);
    made = b.made;
    small = b.small;
    least = λ q other h2. below_more (λ q. (other : Breakpoint) → extended p points j q ≡ Some other → SameClass other (point_at xs l) → KeyLe (point_at xs l) other) index (λ q h other. b.least q other h) (λ other f _. absurd (let z : None ≡ Some other = e ∙ f in cc)) q h2 other;
  };
  distinct = g.distinct;
  complete = λ q other h f. below_more (λ q. (other : Breakpoint) → extended p points j q ≡ Some other → (k : ℕ) × (k < length xs) × SameClass (point_at xs k) other) index (λ q l o. g.complete q o l) (λ o f1. absurd (let z : None ≡ Some o = e ∙ f1 in cc)) q h other f;
}

pub gathered-none : (p : Paragraph) (points : List Breakpoint) (j begin : ℕ) → ((q : ℕ) → q < begin → extended p points j q ≡ None) → IsGathered p points j begin []
gathered-none p points j begin closed = record {
  each = λ l h. absurd (let z : l < 0 = h in omega arith);
  distinct = λ k l h _ _. absurd (let z : k < 0 = h in omega arith);
  complete = λ q other h f. absurd (let z : None ≡ Some other = sym (closed q h) ∙ f in cc);
}

start-small : IsSmall start
start-small = record { bad = omega arith; low = omega (arith, ints); high = omega (arith, ints) }

pub small-start : AreSmall (start ∷ []) 1
small-start = record {
  small = All-push IsSmall [] start (All-nil IsSmall) start-small;
  below = All-push (λ n. n.at < 1) [] start (All-nil (λ n. n.at < 1)) (omega arith);
}

pub small-more : (points fresh : List Breakpoint) (j : ℕ) → AreSmall points j → All IsSmall fresh → All (λ n. n.at ≡ j) fresh → AreSmall (points ++ fresh) (j + 1)
small-more points fresh j a s at = record {
  small = All-append IsSmall points fresh a.small s;
  below = All-append (λ n. n.at < j + 1) points fresh (λ k d h. omega (arith, a.below k d h)) (λ k d h. omega (arith, at k d h));
}

pub small-skip : (points : List Breakpoint) (j : ℕ) → AreSmall points j → AreSmall points (j + 1)
small-skip points j a = record { small = a.small; below = λ k d h. omega (arith, a.below k d h) }
