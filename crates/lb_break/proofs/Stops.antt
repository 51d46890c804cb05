-- From which points lines still go on.
use Rattle.std.proofs.Common.{◌≡◌, ℕ, ◌+◌, ◌<◌, ◌≤◌, ◌⊎◌, ◌||◌, ◌&&◌, ◌++◌, Bool, true, false, cond, not, nat_lt, zero, suc, ◌-◌, replicate, take, drop, List, [], ◌∷◌, Option, Some, None, length, get_or, refl, sym, ◌∙◌, ap, subst, inl, inr, arith, length-append, add-one}
use Rattle.std.proofs.lemmas.List.{get_or_append_left, get_or-append-add, get_or_default, get_or-replicate, length-replicate}
use Rattle.std.proofs.lemmas.Bool.Decides.{nat_tests}
use Rattle.std.proofs.Math.Seq.{take-append_seam}
use Rattle.std.specs.List.{All, Contains}
use Rattle.lb_model_paper.specs.BestBreaks.{Paragraph}
use Rattle.lb_model_paper.specs.declared.paragraph.Judged.{Judged}
use Rattle.lb_break.specs.declared.point.Breakpoint.{Breakpoint}
use Rattle.lb_model_paper.specs.BestBreaks.{judge_of, is_stopped}
use Rattle.lb_break.specs.Points.{extended, extended_by, point_at, blank, start, IsFresh, IsWinner, IsSmall, IsOpen}
use Rattle.lb_break.specs.Progress.{IsGathered, IsBestBelow}
use Rattle.lb_break.proofs.Winners.{made}

pub judge-open : (p : Paragraph) (k i j : ℕ) → is_stopped p k i j ≡ false → p.line k i j ≡ judge_of p k i j
unfolding judge_of
judge-open p k i j h = sym (ap (λ b. cond b None (p.line k i j)) h)

pub judge-closed : (p : Paragraph) (k i j : ℕ) → is_stopped p k i j ≡ true → None ≡ judge_of p k i j
unfolding judge_of
judge-closed p k i j h = sym (ap (λ b. cond b None (p.line k i j)) h)

pub extended-open : (p : Paragraph) (points : List Breakpoint) (j q : ℕ) → is_stopped p (point_at points q).class (point_at points q).at j ≡ false → extended_by p q (point_at points q) j (p.line (point_at points q).class (point_at points q).at j) ≡ extended p points j q
unfolding extended
extended-open p points j q h = ap (extended_by p q (point_at points q) j) (judge-open p (point_at points q).class (point_at points q).at j h)

pub extended-closed : (p : Paragraph) (points : List Breakpoint) (j q : ℕ) → is_stopped p (point_at points q).class (point_at points q).at j ≡ true → None ≡ extended p points j q
unfolding extended
extended-closed p points j q h = ap (extended_by p q (point_at points q) j) (judge-closed p (point_at points q).class (point_at points q).at j h)

-- ---- what was gathered

pub gathered-winners : (p : Paragraph) (points : List Breakpoint) (j : ℕ) (xs : List Breakpoint) → IsGathered p points j (length points) xs → All (IsWinner p points j) xs
gathered-winners p points j xs g = λ k d h. let b : IsBestBelow p points j (length points) (point_at xs k) = g.each k h in
    subst (IsWinner p points j) (get_or_default xs k blank d h) (record { within = b.within; made = b.made; least = λ q other l e f n. b.least q other l e (f, n) })

pub gathered-small : (p : Paragraph) (points : List Breakpoint) (j index : ℕ) (xs : List Breakpoint) → IsGathered p points j index xs → All IsSmall xs
gathered-small p points j index xs g = λ k d h. subst IsSmall (get_or_default xs k blank d h) (g.each k h).small

pub gathered-at : (p : Paragraph) (points : List Breakpoint) (j index : ℕ) (xs : List Breakpoint) → IsGathered p points j index xs → All (λ n. n.at ≡ j) xs
gathered-at p points j index xs g = λ k d h. let b = g.each k h in
    subst (λ n. n.at ≡ j) (get_or_default xs k blank d h) (made p points j (point_at xs k).from (point_at xs k) b.made).at

pub gathered-complete : (p : Paragraph) (points : List Breakpoint) (j : ℕ) (xs : List Breakpoint) → IsGathered p points j (length points) xs → (q : ℕ) (other : Breakpoint) → q < length points → extended p points j q ≡ Some other → (point : Breakpoint) × Contains xs point × (point.fitness ≡ other.fitness) × (point.class ≡ other.class)
gathered-complete p points j xs g q other h e = let m = g.complete q other h e in (point_at xs m.0, (m.0, m.1, get_or_default xs m.0 (point_at xs m.0) blank m.1), (m.2).0, (m.2).1)

-- ---- what stays open

pub not-true : (b : Bool) → false ≡ not b → b ≡ true
not-true true h = refl
not-true false h = cc

pub not-false : (b : Bool) → true ≡ not b → b ≡ false
not-false true h = cc
not-false false h = refl

-- one more break, which lies after i
stopped-more : (p : Paragraph) (k i j : ℕ) → i < j → is_stopped p k i (j + 1) ≡ (is_stopped p k i j || p.stops k i j)
stopped-more p k i j h = ap (is_stopped p k i) (add-one j) ∙ ap (λ b. is_stopped p k i j || (b && p.stops k i j)) (let t : nat_lt i j ≡ true = grind (arith, nat_tests) in t)

not-or : (a b : Bool) → not (a || b) ≡ (not a && not b)
not-or true b = refl
not-or false true = refl
not-or false false = refl

pub open-step : (p : Paragraph) (k i j : ℕ) (was : Bool) → i < j → was ≡ not (is_stopped p k i j) → (was && not (p.stops k i j)) ≡ not (is_stopped p k i (j + 1))
open-step p k i j was h e = ap (λ b. b && not (p.stops k i j)) e ∙ sym (not-or (is_stopped p k i j) (p.stops k i j)) ∙ ap not (sym (stopped-more p k i j h))

-- what is stopped stays stopped
pub stopped-stays : (p : Paragraph) (k i j : ℕ) → is_stopped p k i j ≡ true → is_stopped p k i (j + 1) ≡ true
stopped-stays p k i j h = ap (is_stopped p k i) (add-one j) ∙ ap (λ b. b || (nat_lt i j && p.stops k i j)) h

-- no break lies between j and the next one
none-between : (p : Paragraph) (k i n : ℕ) → n ≤ i + 1 → is_stopped p k i n ≡ false
none-between p k i zero h = refl
none-between p k i (suc b) h = ap (λ c. c || (nat_lt i b && p.stops k i b)) (none-between p k i b (omega arith)) ∙ ap (λ c. c && p.stops k i b) (let t : nat_lt i b ≡ false = grind (arith, nat_tests) in t)

split : (a b : ℕ) → (a < b) ⊎ (b ≤ a)
split a b = grind arith

place : (points fresh : List Breakpoint) (q : ℕ) → q < length (points ++ fresh) → (q < length points) ⊎ ((k : ℕ) × (k < length fresh) × (length points + k ≡ q))
place points fresh q h =
    let total : length (points ++ fresh) ≡ length points + length fresh = length-append points fresh in
    elim (split q (length points)) [ inl l ↦ inl l | inr g ↦ inr (q - length points, omega arith, omega arith) ]

pub open-more : (p : Paragraph) (points fresh : List Breakpoint) (j begin begin' : ℕ) (live live' old : List Bool)
    → IsOpen p points j begin old → length live ≡ length points
    → ((q : ℕ) → begin ≤ q → q < length points → get_or live q false ≡ not (is_stopped p (point_at points q).class (point_at points q).at (j + 1)))
    → begin ≤ begin' → begin' ≤ length points → ((q : ℕ) → begin ≤ q → q < begin' → get_or live q false ≡ false)
    → All (λ n. n.at ≡ j) fresh → live' ≡ live ++ replicate (length fresh) true
    → IsOpen p (points ++ fresh) (j + 1) begin' live'
open-more p points fresh j begin begin' live live' old o long marked le within passed at is =
    let total : length (points ++ fresh) ≡ length points + length fresh = length-append points fresh in
    let long' : length live' ≡ length live + length fresh = ap length is ∙ length-append live (replicate (length fresh) true) ∙ ap (λ n. length live + n) (length-replicate (length fresh) true) in
    let same : (q : ℕ) → q < length points → point_at points q ≡ point_at (points ++ fresh) q = λ q h. sym (get_or_append_left points fresh blank q h) in
    record {
      long = omega arith;
      closed = λ q h _. let l : q < length points = omega arith in
          subst (λ n. is_stopped p n.class n.at (j + 1) ≡ true) (same q l)
          (elim (split q begin) [
            | inl b ↦ stopped-stays p (point_at points q).class (point_at points q).at j (o.closed q b l)
            | inr g ↦ not-true (is_stopped p (point_at points q).class (point_at points q).at (j + 1)) (sym (passed q g h) ∙ marked q g l)
          ]);
      marked = λ q g h. elim (place points fresh q h) [
        | inl l ↦ subst (λ n. get_or live' q false ≡ not (is_stopped p n.class n.at (j + 1))) (same q l)
            (let l2 : q < length live = omega arith in ap (λ v. get_or v q false) is ∙ get_or_append_left live (replicate (length fresh) true) false q l2 ∙ marked q (omega arith) l)
        | inr m ↦ let k : ℕ = m.0 in
            let n : point_at (points ++ fresh) q ≡ point_at fresh k = ap (λ a. point_at (points ++ fresh) a) (sym m.2) ∙ get_or-append-add points fresh k blank in
            let open_now : is_stopped p (point_at fresh k).class (point_at fresh k).at (j + 1) ≡ false = none-between p (point_at fresh k).class (point_at fresh k).at (j + 1) (omega (arith, at k blank m.1)) in
            let e : q ≡ length live + k = omega (arith, m.2) in
            ap (λ v. get_or v q false) is ∙ ap (λ a. get_or (live ++ replicate (length fresh) true) a false) e ∙ get_or-append-add live (replicate (length fresh) true) k false ∙ get_or-replicate (length fresh) k true false m.1
            ∙ sym (ap not open_now) ∙ sym (ap (λ v. not (is_stopped p v.class v.at (j + 1))) n)
      ];
    }

pub open-start : (p : Paragraph) → IsOpen p (start ∷ []) 1 0 (true ∷ [])
open-start p = record {
  long = refl;
  closed = λ q h _. absurd (omega (arith, h));
  marked = λ q g h. let e : 0 ≡ q = (let l : q < 1 = h in omega arith) in
      subst (λ a. get_or (true ∷ []) a false ≡ not (is_stopped p (point_at (start ∷ []) a).class (point_at (start ∷ []) a).at 1)) e (sym (ap not (none-between p 0 0 1 (omega arith))));
}

-- a slice of all of a vector, written, is the vector
pub whole : (n : ℕ) (l old : List Bool) → n ≡ length old → length l ≡ length old → take n (l ++ drop (length l) old) ≡ l
whole n l old e f =
    ap (λ m. take m (l ++ drop (length l) old)) (e ∙ sym f) ∙ take-append_seam l (drop (length l) old)

-- ---- a break that is none

never_by : (b : Bool) (o : Option Judged) → o ≡ None → cond b None o ≡ None
never_by true o e = refl
never_by false o e = e

or-false : (b : Bool) → (b || false) ≡ b
or-false true = refl
or-false false = refl

pub extended-never : (p : Paragraph) (points : List Breakpoint) (j q : ℕ) → p.line (point_at points q).class (point_at points q).at j ≡ None → extended p points j q ≡ None
unfolding extended judge_of
extended-never p points j q never = ap (extended_by p q (point_at points q) j) (never_by (is_stopped p (point_at points q).class (point_at points q).at j) (p.line (point_at points q).class (point_at points q).at j) never)

pub fresh-none : (p : Paragraph) (points : List Breakpoint) (j : ℕ) → ((k i : ℕ) → p.line k i j ≡ None) → IsFresh p points j []
fresh-none p points j never = record {
  winners = λ k d h. absurd (let l : k < 0 = h in omega arith);
  complete = λ q other h e. absurd (let z : None ≡ Some other = sym (extended-never p points j q (never (point_at points q).class (point_at points q).at)) ∙ e in cc);
  order = λ a b d ab h. absurd (let l : b < 0 = h in omega arith);
}

pub open-skip : (p : Paragraph) (points : List Breakpoint) (j begin : ℕ) (live : List Bool) → All (λ n. n.at < j) points → ((k i : ℕ) → p.stops k i j ≡ false) → IsOpen p points j begin live → IsOpen p points (j + 1) begin live
open-skip p points j begin live below never o =
    let same : (q : ℕ) → q < length points → is_stopped p (point_at points q).class (point_at points q).at (j + 1) ≡ is_stopped p (point_at points q).class (point_at points q).at j =
    λ q h. stopped-more p (point_at points q).class (point_at points q).at j (below q blank h) ∙ ap (λ b. is_stopped p (point_at points q).class (point_at points q).at j || b) (never (point_at points q).class (point_at points q).at) ∙ or-false (is_stopped p (point_at points q).class (point_at points q).at j) in
    record {
      long = o.long;
      closed = λ q b h. same q h ∙ o.closed q b h;
      marked = λ q g h. o.marked q g h ∙ ap not (sym (same q h));
    }
