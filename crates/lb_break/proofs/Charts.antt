-- The table of the best points.
use Rattle.std.proofs.Common.{◌≡◌, ℕ, ◌+◌, ◌-◌, ◌<◌, ◌≤◌, ◌⊎◌, ◌++◌, ◌||◌, ◌&&◌, true, false, cond, min, suc, nat_lt, nat_eq, IfSome, below_more, List, [], ◌∷◌, Option, Some, None, length, refl, sym, ◌∙◌, ap, subst, inl, inr, arith, ℤ, ◌+ℤ◌, ◌<ℤ◌, length-append}
use Rattle.std.proofs.lemmas.List.{get_or_default, get_or_append_left, get_or-append-add}
use Rattle.std.proofs.lemmas.Bool.Decides.{nat_tests}
use Rattle.lb_model_paper.specs.declared.paragraph.Judged.{Judged}
use Rattle.lb_model_paper.specs.BestBreaks.{Paragraph}
use Rattle.lb_break.specs.declared.point.Breakpoint.{Breakpoint}
use Rattle.lb_model_paper.specs.BestBreaks.{judge_of, extra_of, last_of, fitness_of, line_of, bad_of, demerits_of, bad_in, demerits_in, fitness_in, IsAdmitted, Admitted, Below, BelowInt, IsEarlier, IsAsGood, IsBest}
use Rattle.lb_break.specs.Points.{extended, point_at, blank, start, KeyLe, IsWinner, IsFresh, IsBestAt, IsChart, IsEnd, EndLe, EndBelow}
use Rattle.std.specs.Int.Signed.{le_z}
use Rattle.lb_break.specs.Progress.{end_of}
use Rattle.lb_break.proofs.Orders.{good-add, good-trans, below-trans, below_int-trans}
use Rattle.lb_break.proofs.Winners.{made, makes, IsMade, cond-elim, cheaper-yes, cheaper-no}

-- ---- what a point's list and one more line cost

pub record IsCost (p : Paragraph) (j : ℕ) (x : List ℕ) (point : Breakpoint) : Type 0 where
  pub admitted : Admitted p (j ∷ x)
  pub fitness : fitness_of p (j ∷ x) ≡ point.fitness
  pub line : line_of p (j ∷ x) ≡ point.class
  pub bad : bad_of p (j ∷ x) ≡ point.bad
  pub demerits : demerits_of p (j ∷ x) ≡ point.demerits

min-step : (n l : ℕ) → min (suc n) l ≡ min (min n l + 1) l
min-step n l = omega arith

next-line : (x : List ℕ) (l j : ℕ) → min (length (j ∷ x)) l ≡ min (min (length x) l + 1) l
next-line x l j = min-step (length x) l

cost : (p : Paragraph) (points : List Breakpoint) (j : ℕ) (x : ℕ → List ℕ) → IsChart p points j x → (q : ℕ) (point : Breakpoint) → q < length points → extended p points j q ≡ Some point → IsCost p j (x q) point
cost p points j x chart q point h e =
    let m : IsMade p points j q point = made p points j q point e in
    let b : IsBestAt p (point_at points q).at (point_at points q).fitness (point_at points q).class (x q) = chart.best q h in
    let lt : (point_at points q).at < j = chart.below q h in
    let judged : judge_of p (line_of p (x q)) (last_of (x q)) j ≡ Some m.line = ap (λ i. judge_of p (line_of p (x q)) i j) b.ends ∙ ap (λ k. judge_of p k (point_at points q).at j) b.of_line ∙ m.judged in
    let fits : fitness_of p (j ∷ x q) ≡ point.fitness = ap fitness_in judged ∙ sym m.fitness in
    let bad1 : bad_in (judge_of p (line_of p (x q)) (last_of (x q)) j) ≡ cond m.line.is_bad 1 0 = ap bad_in judged in
    let bad2 : bad_of p (x q) ≡ (point_at points q).bad = chart.bad q h in
    let dem1 : demerits_in (judge_of p (line_of p (x q)) (last_of (x q)) j) ≡ m.line.demerits = ap demerits_in judged in
    let dem2 : demerits_of p (x q) ≡ (point_at points q).demerits = chart.demerits q h in
    let ext : extra_of p (fitness_of p (x q)) (fitness_of p (j ∷ x q)) ≡ extra_of p (point_at points q).fitness m.line.fitness = ap (λ g. extra_of p g (fitness_of p (j ∷ x q))) b.fits ∙ ap (λ g. extra_of p (point_at points q).fitness g) (ap fitness_in judged) in
    record {
      admitted = (subst (λ i. i < j) (sym b.ends) lt, subst IsAdmitted (sym judged) tt, b.admitted);
      fitness = fits;
      line = next-line (x q) p.first j ∙ ap (λ k. min (k + 1) p.first) b.of_line ∙ sym m.next;
      bad = ap (λ n. n + bad_of p (x q)) bad1 ∙ ap (λ n. cond m.line.is_bad 1 0 + n) bad2 ∙ sym m.bad;
      demerits = ap (λ d. (d +ℤ extra_of p (fitness_of p (x q)) (fitness_of p (j ∷ x q))) +ℤ demerits_of p (x q)) dem1 ∙ ap (λ d. (m.line.demerits +ℤ d) +ℤ demerits_of p (x q)) ext ∙ ap (λ d. (m.line.demerits +ℤ extra_of p (point_at points q).fitness m.line.fitness) +ℤ d) dem2 ∙ sym m.demerits;
    }

-- the keys decide between lists
below-swap : {P Q : Type 0} (a b c d : ℕ) → a ≡ c → b ≡ d → Below c d P → (P → Q) → Below a b Q
below-swap a b c d e f h k = elim h [ inl l ↦ inl (omega arith) | inr r ↦ let g : c ≡ d = r.0 in inr (e ∙ g ∙ sym f, k r.1) ]

below_int-swap : {P Q : Type 0} (a b c d : ℤ) → a ≡ c → b ≡ d → BelowInt c d P → (P → Q) → BelowInt a b Q
below_int-swap a b c d e f h k = elim h [ inl l ↦ inl (subst (λ y. a <ℤ y) (sym f) (subst (λ y. y <ℤ d) (sym e) l)) | inr r ↦ let g : c ≡ d = r.0 in inr (e ∙ g ∙ sym f, k r.1) ]

key-good : (p : Paragraph) (j : ℕ) (x y : List ℕ) (a b : Breakpoint) → IsCost p j x a → IsCost p j y b → KeyLe a b → (a.from ≤ b.from → IsEarlier x y) → IsAsGood p (j ∷ x) (j ∷ y)
key-good p j x y a b ca cb k order =
    below-swap (bad_of p (j ∷ x)) (bad_of p (j ∷ y)) a.bad b.bad ca.bad cb.bad k
    (λ k1. below_int-swap (demerits_of p (j ∷ x)) (demerits_of p (j ∷ y)) a.demerits b.demerits ca.demerits cb.demerits k1 (λ k2. inr (refl, order k2)))

line-of : (o : Option Judged) → IsAdmitted o → (line : Judged) × (o ≡ Some line)
line-of None h = absurd h
line-of (Some line) h = (line, refl)

-- ---- the optimality principle

-- a list that ends at j with the fitness of a point that wins is no better than the winner's list and one more line
least : (p : Paragraph) (points : List Breakpoint) (j : ℕ) (x : ℕ → List ℕ) → 0 < j → IsChart p points j x → (point : Breakpoint) → IsWinner p points j point
    → (y : List ℕ) → Admitted p y → last_of y ≡ j → fitness_of p y ≡ point.fitness → line_of p y ≡ point.class → IsAsGood p (j ∷ x point.from) y
least p points j x some chart point w [] a e f g = absurd (let z : 0 ≡ j = e in omega arith)
least p points j x some chart point w (i ∷ rest) a e f g =
    let e1 : i ≡ j = e in
    let Goal : ℕ → Type 0 = λ k. Admitted p (k ∷ rest) → fitness_of p (k ∷ rest) ≡ point.fitness → line_of p (k ∷ rest) ≡ point.class → IsAsGood p (j ∷ x point.from) (k ∷ rest) in
    subst Goal (sym e1) (λ a1 f1 g1.
    let here = chart.complete rest a1.2 a1.0 in
    let q : ℕ = here.0 in
    let h : q < length points = here.1 in
    let at : (point_at points q).at ≡ last_of rest = here.2 in
    let fits : (point_at points q).fitness ≡ fitness_of p rest = here.3 in
    let number : (point_at points q).class ≡ line_of p rest = here.4 in
    let line = line-of (judge_of p (line_of p rest) (last_of rest) j) a1.1 in
    let judged : judge_of p (point_at points q).class (point_at points q).at j ≡ Some line.0 = ap (λ k. judge_of p (point_at points q).class k j) at ∙ ap (λ k. judge_of p k (last_of rest) j) number ∙ line.1 in
    let other = makes p points j q line.0 judged in
    let same : (other.0).fitness ≡ point.fitness = other.2 ∙ sym (ap fitness_in line.1) ∙ f1 in
    let same_line : (other.0).class ≡ point.class = (made p points j q other.0 other.1).next ∙ ap (λ k. min (k + 1) p.first) number ∙ sym (next-line rest p.first j) ∙ g1 in
    let key : KeyLe point other.0 = w.least q other.0 h other.1 same same_line in
    let from : (other.0).from ≡ q = (made p points j q other.0 other.1).from in
    let b : IsBestAt p (point_at points q).at (point_at points q).fitness (point_at points q).class (x q) = chart.best q h in
    let first : IsAsGood p (j ∷ x point.from) (j ∷ x q) =
    key-good p j (x point.from) (x q) point other.0 (cost p points j x chart point.from point w.within w.made) (cost p points j x chart q other.0 h other.1) key
    (λ le. chart.order point.from q (subst (λ k. point.from ≤ k) from le) h) in
    let second : IsAsGood p (j ∷ x q) (j ∷ rest) =
    good-add p j (x q) rest (b.ends ∙ at) (b.fits ∙ fits) (b.of_line ∙ number) (b.least rest a1.2 (sym at) (sym fits) (sym number)) in
    good-trans p (j ∷ x point.from) (j ∷ x q) (j ∷ rest) first second)
    a f g

pub winner-best : (p : Paragraph) (points : List Breakpoint) (j : ℕ) (x : ℕ → List ℕ) → 0 < j → IsChart p points j x → (point : Breakpoint) → IsWinner p points j point → IsBestAt p j point.fitness point.class (j ∷ x point.from)
winner-best p points j x some chart point w =
    let c : IsCost p j (x point.from) point = cost p points j x chart point.from point w.within w.made in
    record { admitted = c.admitted; ends = refl; fits = c.fitness; of_line = c.line; least = least p points j x some chart point w }

-- ---- one more break

abbrev pub more_lists : List Breakpoint → List Breakpoint → ℕ → (ℕ → List ℕ) → ℕ → List ℕ
more_lists points fresh j x q = cond (nat_lt q (length points)) (x q) (j ∷ x (point_at fresh (q - length points)).from)

lt-true : (a b : ℕ) → a < b → nat_lt a b ≡ true
lt-true a b h = grind (arith, nat_tests)

lt-false : (a b : ℕ) → b ≤ a → nat_lt a b ≡ false
lt-false a b h = grind (arith, nat_tests)

old-list : (points fresh : List Breakpoint) (j : ℕ) (x : ℕ → List ℕ) (q : ℕ) → q < length points → x q ≡ more_lists points fresh j x q
old-list points fresh j x q h = ap (λ b. cond b (x q) (j ∷ x (point_at fresh (q - length points)).from)) (sym (lt-true q (length points) h))

new-list : (points fresh : List Breakpoint) (j : ℕ) (x : ℕ → List ℕ) (k : ℕ) → j ∷ x (point_at fresh k).from ≡ more_lists points fresh j x (length points + k)
new-list points fresh j x k =
    let ge : length points ≤ length points + k = omega arith in
    let e : k ≡ length points + k - length points = omega arith in
    ap (λ i. j ∷ x (point_at fresh i).from) e ∙ ap (λ b. cond b (x (length points + k)) (j ∷ x (point_at fresh (length points + k - length points)).from)) (sym (lt-false (length points + k) (length points) ge))

lt-or-ge : (a b : ℕ) → (a < b) ⊎ (b ≤ a)
lt-or-ge a b = grind arith

place : (points fresh : List Breakpoint) (q : ℕ) → q < length (points ++ fresh) → (q < length points) ⊎ ((k : ℕ) × (k < length fresh) × (length points + k ≡ q))
place points fresh q h =
    let total : length (points ++ fresh) ≡ length points + length fresh = length-append points fresh in
    elim (lt-or-ge q (length points)) [
      | inl l ↦ inl l
      | inr g ↦ inr (q - length points, omega arith, omega arith)
    ]

-- what holds of the old points with their lists, and of the fresh ones with theirs, holds of all
at-each : (points fresh : List Breakpoint) (j : ℕ) (x : ℕ → List ℕ) (P : ℕ → Breakpoint → List ℕ → Type 0)
    → ((q : ℕ) → q < length points → P q (point_at points q) (x q))
    → ((k : ℕ) → k < length fresh → P (length points + k) (point_at fresh k) (j ∷ x (point_at fresh k).from))
    → (q : ℕ) → q < length (points ++ fresh) → P q (point_at (points ++ fresh) q) (more_lists points fresh j x q)
at-each points fresh j x P old new q h = elim (place points fresh q h) [
  | inl l ↦ subst (λ n. P q n (more_lists points fresh j x q)) (sym (get_or_append_left points fresh blank q l)) (subst (λ y. P q (point_at points q) y) (old-list points fresh j x q l) (old q l))
  | inr r ↦ let k : ℕ = r.0 in
      subst (λ i. P i (point_at (points ++ fresh) i) (more_lists points fresh j x i)) r.2
      (subst (λ n. P (length points + k) n (more_lists points fresh j x (length points + k))) (sym (get_or-append-add points fresh k blank)) (subst (λ y. P (length points + k) (point_at fresh k) y) (new-list points fresh j x k) (new k r.1)))
]

earlier-head : (y z : List ℕ) (j : ℕ) → last_of y < j → IsEarlier y (j ∷ z)
earlier-head [] z j h = tt
earlier-head (i ∷ y) z j h = inl h

-- each list to j has a fresh point
complete-new : (p : Paragraph) (points fresh : List Breakpoint) (j : ℕ) (x : ℕ → List ℕ) → 0 < j → IsChart p points j x → IsFresh p points j fresh → (y : List ℕ) → Admitted p y → last_of y ≡ j
    → (k : ℕ) × (k < length fresh) × ((point_at fresh k).at ≡ last_of y) × ((point_at fresh k).fitness ≡ fitness_of p y) × ((point_at fresh k).class ≡ line_of p y)
complete-new p points fresh j x some chart f [] a e = absurd (let z : 0 ≡ j = e in omega arith)
complete-new p points fresh j x some chart f (i ∷ rest) a e =
    let e1 : i ≡ j = e in
    let Goal : ℕ → Type 0 = λ i1. Admitted p (i1 ∷ rest) → (k : ℕ) × (k < length fresh) × ((point_at fresh k).at ≡ i1) × ((point_at fresh k).fitness ≡ fitness_of p (i1 ∷ rest)) × ((point_at fresh k).class ≡ line_of p (i1 ∷ rest)) in
    subst Goal (sym e1) (λ a1.
    let here = chart.complete rest a1.2 a1.0 in
    let line = line-of (judge_of p (line_of p rest) (last_of rest) j) a1.1 in
    let judged : judge_of p (point_at points here.0).class (point_at points here.0).at j ≡ Some line.0 = ap (λ k. judge_of p (point_at points here.0).class k j) here.2 ∙ ap (λ k. judge_of p k (last_of rest) j) here.4 ∙ line.1 in
    let other = makes p points j here.0 line.0 judged in
    let found = f.complete here.0 other.0 here.1 other.1 in
    let k : ℕ = (found.1).0 in
    let h : k < length fresh = (found.1).1 in
    let is : point_at fresh k ≡ found.0 = get_or_default fresh k blank found.0 h ∙ (found.1).2 in
    let win : IsWinner p points j (point_at fresh k) = f.winners k blank h in (
      k,
      h,
      (made p points j (point_at fresh k).from (point_at fresh k) win.made).at,
      ap (λ n. n.fitness) is ∙ found.2 ∙ other.2 ∙ sym (ap fitness_in line.1),
      ap (λ n. n.class) is ∙ found.3 ∙ (made p points j here.0 other.0 other.1).next ∙ ap (λ k. min (k + 1) p.first) here.4 ∙ sym (next-line rest p.first j),
    ))
    a

pub chart-more : (p : Paragraph) (points fresh : List Breakpoint) (j : ℕ) (x : ℕ → List ℕ) → 0 < j → IsChart p points j x → IsFresh p points j fresh → IsChart p (points ++ fresh) (j + 1) (more_lists points fresh j x)
chart-more p points fresh j x some chart f =
    let x' : ℕ → List ℕ = more_lists points fresh j x in
    let each = at-each points fresh j x in
    let win : (k : ℕ) → k < length fresh → IsWinner p points j (point_at fresh k) = λ k h. f.winners k blank h in
    let new : (k : ℕ) (h : k < length fresh) → IsMade p points j (point_at fresh k).from (point_at fresh k) = λ k h. made p points j (point_at fresh k).from (point_at fresh k) (win k h).made in
    let costs : (k : ℕ) → k < length fresh → IsCost p j (x (point_at fresh k).from) (point_at fresh k) = λ k h. cost p points j x chart (point_at fresh k).from (point_at fresh k) (win k h).within (win k h).made in
    record {
      some = omega (arith, length-append points fresh, chart.some);
      first = sym (old-list points fresh j x 0 chart.some) ∙ chart.first;
      made = λ q z h. each (λ q1 n y. 0 < q1 → (n.from < q1) × (y ≡ n.at ∷ x' n.from))
          (λ q1 h1 z1. let m = chart.made q1 z1 h1 in (m.0, m.1 ∙ ap (λ y. (point_at points q1).at ∷ y) (let l : (point_at points q1).from < length points = omega (arith, m.0) in old-list points fresh j x (point_at points q1).from l)))
          (λ k h1 z1. let l : (point_at fresh k).from < length points = (win k h1).within in
          (omega arith, ap (λ y. j ∷ y) (old-list points fresh j x (point_at fresh k).from l) ∙ ap (λ i. i ∷ x' (point_at fresh k).from) (sym (new k h1).at)))
          q h z;
      best = each (λ q n y. IsBestAt p n.at n.fitness n.class y) (λ q h. chart.best q h) (λ k h. subst (λ i. IsBestAt p i (point_at fresh k).fitness (point_at fresh k).class (j ∷ x (point_at fresh k).from)) (sym (new k h).at) (winner-best p points j x some chart (point_at fresh k) (win k h)));
      bad = each (λ q n y. bad_of p y ≡ n.bad) (λ q h. chart.bad q h) (λ k h. (costs k h).bad);
      demerits = each (λ q n y. demerits_of p y ≡ n.demerits) (λ q h. chart.demerits q h) (λ k h. (costs k h).demerits);
      below = each (λ q n y. n.at < j + 1) (λ q h. omega (arith, chart.below q h)) (λ k h. omega (arith, (new k h).at));
      order = λ q r le hr. each (λ q1 n y. q1 ≤ r → IsEarlier y (x' r))
          (λ q1 h1 le1. each (λ r1 n y. q1 ≤ r1 → IsEarlier (x q1) y)
          (λ r1 h2 le2. chart.order q1 r1 le2 h2)
          (λ l h2 le2. earlier-head (x q1) (x (point_at fresh l).from) j (subst (λ i. i < j) (sym (chart.best q1 h1).ends) (chart.below q1 h1)))
          r hr le1)
          (λ k h1 le1. each (λ r1 n y. length points + k ≤ r1 → IsEarlier (j ∷ x (point_at fresh k).from) y)
          (λ r1 h2 le2. absurd (omega arith))
          (λ l h2 le2. let kl : k ≤ l = omega arith in inr (refl, chart.order (point_at fresh k).from (point_at fresh l).from (f.order k l blank kl h2) (win l h2).within))
          r hr le1)
          q (omega arith) le;
      complete = λ y a h. elim (lt-or-ge (last_of y) j) [
        | inl l ↦ let m = chart.complete y a l in
            let e : point_at (points ++ fresh) m.0 ≡ point_at points m.0 = get_or_append_left points fresh blank m.0 m.1 in
            (m.0, omega (arith, length-append points fresh, m.1), ap (λ n. n.at) e ∙ m.2, ap (λ n. n.fitness) e ∙ m.3, ap (λ n. n.class) e ∙ m.4)
        | inr g ↦ let m = complete-new p points fresh j x some chart f y a (omega arith) in
            let e : point_at (points ++ fresh) (length points + m.0) ≡ point_at fresh m.0 = get_or-append-add points fresh m.0 blank in
            (length points + m.0, omega (arith, length-append points fresh, m.1), ap (λ n. n.at) e ∙ m.2, ap (λ n. n.fitness) e ∙ m.3, ap (λ n. n.class) e ∙ m.4)
      ];
    }

-- ---- the start and the end

start-best : (p : Paragraph) (y : List ℕ) → Admitted p y → last_of y ≡ 0 → IsAsGood p [] y
start-best p [] a e = inr (refl, inr (refl, tt))
start-best p (i ∷ rest) a e = absurd (let z : i ≡ 0 = e in omega (arith, a.0))

min-zero : (l : ℕ) → min 0 l ≡ 0
min-zero l = omega arith

start-complete : (p : Paragraph) (y : List ℕ) → Admitted p y → last_of y < 1 → (q : ℕ) × (q < length (start ∷ [])) × ((point_at (start ∷ []) q).at ≡ last_of y) × ((point_at (start ∷ []) q).fitness ≡ fitness_of p y) × ((point_at (start ∷ []) q).class ≡ line_of p y)
start-complete p [] a h = (0, h, refl, refl, sym (min-zero p.first))
start-complete p (i ∷ rest) a h = absurd (omega (arith, a.0, h))

one : (P : ℕ → Type 0) → P 0 → (q : ℕ) → q < 1 → P q
one P z q h = let e : 0 ≡ q = omega arith in subst P e z

pub chart-start : (p : Paragraph) → IsChart p (start ∷ []) 1 (λ _. [])
chart-start p = record {
  some = omega arith;
  first = refl;
  made = λ q z h. absurd (let l : q < 1 = h in omega arith);
  best = one (λ q. IsBestAt p (point_at (start ∷ []) q).at (point_at (start ∷ []) q).fitness (point_at (start ∷ []) q).class []) (record { admitted = tt; ends = refl; fits = refl; of_line = min-zero p.first; least = λ y a e _ _. start-best p y a e });
  bad = one (λ q. bad_of p [] ≡ (point_at (start ∷ []) q).bad) refl;
  demerits = one (λ q. demerits_of p [] ≡ (point_at (start ∷ []) q).demerits) refl;
  below = one (λ q. (point_at (start ∷ []) q).at < 1) (omega arith);
  order = λ _ _ _ _. tt;
  complete = start-complete p;
}

pub chart-best : (p : Paragraph) (points : List Breakpoint) (x : ℕ → List ℕ) (q : ℕ) → IsChart p points (p.count + 1) x → IsEnd p points (length points) q → IsBest p (x q)
chart-best p points x q chart end =
    let b : IsBestAt p (point_at points q).at (point_at points q).fitness (point_at points q).class (x q) = chart.best q end.within in
    record {
      admitted = b.admitted;
      ends = b.ends ∙ end.at;
      least = λ y a e.
          let m = chart.complete y a (omega arith) in
          let r : ℕ = m.0 in
          let br : IsBestAt p (point_at points r).at (point_at points r).fitness (point_at points r).class (x r) = chart.best r m.1 in
          let le : EndLe points q r = end.least r m.1 (m.2 ∙ e) in
          let first : IsAsGood p (x q) (x r) = below-swap (bad_of p (x q)) (bad_of p (x r)) (point_at points q).bad (point_at points r).bad (chart.bad q end.within) (chart.bad r m.1) le
          (λ k1. below_int-swap (demerits_of p (x q)) (demerits_of p (x r)) (point_at points q).demerits (point_at points r).demerits (chart.demerits q end.within) (chart.demerits r m.1) k1
          (λ k2. chart.order q r k2 m.1)) in
          good-trans p (x q) (x r) y first (br.least y a (sym m.2) (sym m.3) (sym m.4));
    }

pub chart-none : (p : Paragraph) (points : List Breakpoint) (x : ℕ → List ℕ) → IsChart p points (p.count + 1) x → EndBelow p points (length points) None → (y : List ℕ) → Admitted p y → last_of y ≡ p.count → ⊥
chart-none p points x chart end y a e = let m = chart.complete y a (omega arith) in end m.0 m.1 (m.2 ∙ e)

-- ---- the best end

end-trans : (points : List Breakpoint) (a b c : ℕ) → EndLe points a b → EndLe points b c → EndLe points a c
end-trans points a b c h k = below-trans (point_at points a).bad (point_at points b).bad (point_at points c).bad h k (λ h1 k1. below_int-trans (point_at points a).demerits (point_at points b).demerits (point_at points c).demerits h1 k1 (λ h2 k2. omega arith))

end-refl : (points : List Breakpoint) (a : ℕ) → EndLe points a a
end-refl points a = inr (refl, inr (refl, omega arith))

pub end-skip : (p : Paragraph) (points : List Breakpoint) (index : ℕ) (best : Option ℕ) → ((point_at points index).at ≡ p.count → ⊥) → EndBelow p points index best → EndBelow p points (index + 1) best
end-skip p points index None never below = below_more (λ r. (point_at points r).at ≡ p.count → ⊥) index below never
end-skip p points index (Some q) never below = record { within = omega (arith, below.within); at = below.at; least = below_more (λ r. (point_at points r).at ≡ p.count → EndLe points q r) index below.least (λ e. absurd (never e)) }

pub end-more : (p : Paragraph) (points : List Breakpoint) (index : ℕ) (best : Option ℕ) → (point_at points index).at ≡ p.count → EndBelow p points index best → EndBelow p points (index + 1) (Some (end_of points best index))
end-more p points index None e below = record { within = omega arith; at = e; least = below_more (λ r. (point_at points r).at ≡ p.count → EndLe points index r) index (λ r h g. absurd (below r h g)) (λ _. end-refl points index) }
end-more p points index (Some q) e below =
    let a : Breakpoint = point_at points q in
    let b : Breakpoint = point_at points index in
    cond-elim (λ i. IsEnd p points (index + 1) i) (nat_lt a.bad b.bad || (nat_eq a.bad b.bad && le_z a.demerits b.demerits)) q index
    (λ t. let le : EndLe points q index = cheaper-yes a b (q ≤ index) (omega (arith, below.within)) t in record {
      within = omega (arith, below.within);
      at = below.at;
      least = below_more (λ r. (point_at points r).at ≡ p.count → EndLe points q r) index below.least (λ _. le);
    })
    (λ t. let le : EndLe points index q = cheaper-no a b (index ≤ q) t in record {
      within = omega arith;
      at = e;
      least = below_more (λ r. (point_at points r).at ≡ p.count → EndLe points index r) index (λ r h g. end-trans points index q r le (below.least r h g)) (λ _. end-refl points index);
    })

pub end-within : (p : Paragraph) (points : List Breakpoint) (index : ℕ) (best : Option ℕ) → index < length points → EndBelow p points index best → IfSome best (λ q. q < length points)
end-within p points index None h below = tt
end-within p points index (Some q) h below = omega (arith, below.within)
