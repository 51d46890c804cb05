-- What a point makes at a further break, and which of two points costs less.
use Rattle.std.proofs.Common.{◌≡◌, ℕ, ◌+◌, ◌<◌, ◌≤◌, ◌⊎◌, ◌||◌, ◌&&◌, Bool, true, false, cond, min, nat_lt, nat_eq, List, Option, Some, None, refl, sym, ap, inl, inr, arith, ℤ, ◌+ℤ◌, ◌<ℤ◌, ◌≤ℤ◌}
use Rattle.std.specs.Int.Signed.{le_z}
use Rattle.std.proofs.lemmas.Int.{ints, by_lt_z}
use Rattle.std.proofs.lemmas.Bool.Decides.{nat_tests}
use Rattle.lb_model_paper.specs.declared.paragraph.Judged.{Judged}
use Rattle.lb_model_paper.specs.BestBreaks.{Paragraph}
use Rattle.lb_break.specs.declared.point.Breakpoint.{Breakpoint}
use Rattle.lb_model_paper.specs.BestBreaks.{judge_of, extra_of, Below, BelowInt}
use Rattle.lb_break.specs.Points.{extended, extended_by, point_at, KeyLe}
use Rattle.lb_break.proofs.Orders.{below-trans, below_int-trans}

pub cond-elim : {A : Type 0} (P : A → Type 0) (b : Bool) (x y : A) → (b ≡ true → P x) → (b ≡ false → P y) → P (cond b x y)
cond-elim P true x y f g = f refl
cond-elim P false x y f g = g refl

-- what an extension is
pub record IsMade (p : Paragraph) (points : List Breakpoint) (j q : ℕ) (point : Breakpoint) : Type 0 where
  pub line : Judged
  pub judged : judge_of p (point_at points q).class (point_at points q).at j ≡ Some line
  pub at : point.at ≡ j
  pub fitness : point.fitness ≡ line.fitness
  pub next : point.class ≡ min ((point_at points q).class + 1) p.first
  pub bad : point.bad ≡ cond line.is_bad 1 0 + (point_at points q).bad
  pub demerits : point.demerits ≡ (line.demerits +ℤ extra_of p (point_at points q).fitness line.fitness) +ℤ (point_at points q).demerits
  pub from : point.from ≡ q

some-inj : {A : Type 0} (x y : A) → Some x ≡ Some y → x ≡ y
some-inj x y e = cc

made-by : (p : Paragraph) (points : List Breakpoint) (j q : ℕ) (point : Breakpoint) (o : Option Judged) → judge_of p (point_at points q).class (point_at points q).at j ≡ o → extended_by p q (point_at points q) j o ≡ Some point → IsMade p points j q point
made-by p points j q point None e h = absurd (cc)
made-by p points j q point (Some line) e h =
    let k : point ≡ record { at = j; fitness = line.fitness; class = min ((point_at points q).class + 1) p.first; bad = cond line.is_bad 1 0 + (point_at points q).bad; demerits = (line.demerits +ℤ extra_of p (point_at points q).fitness line.fitness) +ℤ (point_at points q).demerits; from = q } = sym (some-inj _ _ h) in
    record { line = line; judged = e; at = ap (λ n. n.at) k; fitness = ap (λ n. n.fitness) k; next = ap (λ n. n.class) k; bad = ap (λ n. n.bad) k; demerits = ap (λ n. n.demerits) k; from = ap (λ n. n.from) k }

pub made : (p : Paragraph) (points : List Breakpoint) (j q : ℕ) (point : Breakpoint) → extended p points j q ≡ Some point → IsMade p points j q point
unfolding extended
made p points j q point h = made-by p points j q point (judge_of p (point_at points q).class (point_at points q).at j) refl h

-- an admitted line makes a point
pub makes : (p : Paragraph) (points : List Breakpoint) (j q : ℕ) (line : Judged) → judge_of p (point_at points q).class (point_at points q).at j ≡ Some line → (point : Breakpoint) × (extended p points j q ≡ Some point) × (point.fitness ≡ line.fitness)
unfolding extended
makes p points j q line e = (record { at = j; fitness = line.fitness; class = min ((point_at points q).class + 1) p.first; bad = cond line.is_bad 1 0 + (point_at points q).bad; demerits = (line.demerits +ℤ extra_of p (point_at points q).fitness line.fitness) +ℤ (point_at points q).demerits; from = q }, ap (extended_by p q (point_at points q) j) e, refl)

-- ---- keys

pub key-trans : (a b c : Breakpoint) → KeyLe a b → KeyLe b c → KeyLe a c
key-trans a b c h k = below-trans a.bad b.bad c.bad h k (λ h1 k1. below_int-trans a.demerits b.demerits c.demerits h1 k1 (λ h2 k2. omega arith))

passed : (b c d : Bool) → (b || (c && d)) ≡ true → (b ≡ true) ⊎ ((c ≡ true) × (d ≡ true))
passed true c d h = inl refl
passed false true true h = inr (refl, refl)
passed false true false h = absurd (cc)
passed false false d h = absurd (cc)

failed : (b c d : Bool) → (b || (c && d)) ≡ false → (b ≡ false) × ((c ≡ false) ⊎ (d ≡ false))
failed true c d h = absurd (cc)
failed false true true h = absurd (cc)
failed false true false h = (refl, inr refl)
failed false false d h = (refl, inl refl)

int-split : {P : Type 0} (a b : ℤ) → a ≤ℤ b → P → BelowInt a b P
int-split a b h x = by_lt_z a b (λ l. inl l) (λ g. inr (omega (arith, ints), x))

le-cases : (a b : ℕ) → a ≤ b → (a < b) ⊎ (a ≡ b)
le-cases a b h = grind arith

nat-lt-yes : (a b : ℕ) → nat_lt a b ≡ true → a < b
nat-lt-yes a b h = grind (arith, nat_tests)

nat-lt-no : (a b : ℕ) → nat_lt a b ≡ false → b ≤ a
nat-lt-no a b h = grind (arith, nat_tests)

nat-eq-yes : (a b : ℕ) → nat_eq a b ≡ true → a ≡ b
nat-eq-yes a b h = grind (arith, nat_tests)

nat-eq-no : (a b : ℕ) → nat_eq a b ≡ false → a ≡ b → ⊥
nat-eq-no a b h e = grind (arith, nat_tests)

int-le-yes : (a b : ℤ) → le_z a b ≡ true → a ≤ℤ b
int-le-yes a b h = grind (arith, ints)

int-le-no : (a b : ℤ) → le_z a b ≡ false → b <ℤ a
int-le-no a b h = grind (arith, ints)

nat-split : {P : Type 0} (a b : ℕ) → a ≤ b → P → Below a b P
nat-split a b h x = elim (le-cases a b h) [ inl l ↦ inl l | inr e ↦ inr (e, x) ]

pub cheaper-yes : (a b : Breakpoint) (R : Type 0) → R → (nat_lt a.bad b.bad || (nat_eq a.bad b.bad && le_z a.demerits b.demerits)) ≡ true → Below a.bad b.bad (BelowInt a.demerits b.demerits R)
cheaper-yes a b R f h = elim (passed (nat_lt a.bad b.bad) (nat_eq a.bad b.bad) (le_z a.demerits b.demerits) h) [
  | inl l ↦ inl (nat-lt-yes a.bad b.bad l)
  | inr r ↦ inr (nat-eq-yes a.bad b.bad r.0, int-split a.demerits b.demerits (int-le-yes a.demerits b.demerits r.1) f)
]

pub cheaper-no : (a b : Breakpoint) (R : Type 0) → (nat_lt a.bad b.bad || (nat_eq a.bad b.bad && le_z a.demerits b.demerits)) ≡ false → Below b.bad a.bad (BelowInt b.demerits a.demerits R)
cheaper-no a b R h =
    let f = failed (nat_lt a.bad b.bad) (nat_eq a.bad b.bad) (le_z a.demerits b.demerits) h in
    let ge : b.bad ≤ a.bad = nat-lt-no a.bad b.bad f.0 in
    elim (f.1) [
      | inl r ↦ let ne : a.bad ≡ b.bad → ⊥ = nat-eq-no a.bad b.bad r in inl (omega arith)
      | inr r ↦ let lt : b.demerits <ℤ a.demerits = int-le-no a.demerits b.demerits r in nat-split b.bad a.bad ge (inl lt)
    ]
