-- Breakpoints, the lists of breaks that they stand for, and what is kept of them.
use Rattle.std.specs.Prelude.{◌≡◌, ℕ, nat_lt, ◌+◌, ◌-◌, ◌*◌, ◌<◌, ◌≤◌, List, [], ◌∷◌, Bool, true, false, cond, min, not, get_or, Option, Some, None, length, pos, ◌+ℤ◌, ◌≤ℤ◌, slice_index_or}
use Rattle.std.specs.List.{All, Contains}
use Rattle.std.specs.List.Sorted.{IsNonDecreasingBy}
use Rattle.lb_model_paper.specs.declared.paragraph.BreakEnd.{BreakEnd}
use Rattle.lb_model_paper.specs.declared.paragraph.Fitness.{Fitness}
use Rattle.lb_model_paper.specs.declared.paragraph.Fitness.TheVariants.{VeryLoose, Decent}
use Rattle.lb_model_paper.specs.declared.paragraph.Judged.{Judged}
use Rattle.lb_model_paper.specs.BestBreaks.{Paragraph}
use Rattle.lb_break.specs.declared.point.Breakpoint.{Breakpoint}
use Rattle.lb_model_paper.specs.BestBreaks.{judge_of, extra_of, last_of, fitness_of, line_of, is_stopped, bad_of, demerits_of, Admitted, Below, BelowInt, IsEarlier, IsAsGood}

abbrev pub KeyLe : Breakpoint → Breakpoint → Type 0
KeyLe a b = Below a.bad b.bad (BelowInt a.demerits b.demerits (a.from ≤ b.from))

abbrev pub start : Breakpoint
start = record { at = 0; fitness = Decent; class = 0; bad = 0; demerits = pos 0; from = 0 }

abbrev pub blank : Breakpoint
blank = record { at = 0; fitness = VeryLoose; class = 0; bad = 0; demerits = pos 0; from = 0 }

abbrev pub point_at : List Breakpoint → ℕ → Breakpoint
point_at points q = slice_index_or points q blank

-- the point that a line to j makes of the point at an index, where the line is admitted
abbrev pub extended_by : Paragraph → ℕ → Breakpoint → ℕ → Option Judged → Option Breakpoint
extended_by p index point j None = None
extended_by p index point j (Some line) =
    Some (record { at = j; fitness = line.fitness; class = min (point.class + 1) p.first; bad = cond line.is_bad 1 0 + point.bad; demerits = (line.demerits +ℤ extra_of p point.fitness line.fitness) +ℤ point.demerits; from = index })

unfoldable pub extended : Paragraph → List Breakpoint → ℕ → ℕ → Option Breakpoint
extended p points j q = extended_by p q (point_at points q) j (judge_of p (point_at points q).class (point_at points q).at j)

pub record IsWinner (p : Paragraph) (points : List Breakpoint) (j : ℕ) (point : Breakpoint) : Type 0 where
  pub within : point.from < length points
  pub made : extended p points j point.from ≡ Some point
  pub least : (q : ℕ) (other : Breakpoint) → q < length points → extended p points j q ≡ Some other → other.fitness ≡ point.fitness → other.class ≡ point.class → KeyLe point other

pub record IsFresh (p : Paragraph) (points : List Breakpoint) (j : ℕ) (fresh : List Breakpoint) : Type 0 where
  pub winners : All (IsWinner p points j) fresh
  pub complete : (q : ℕ) (other : Breakpoint) → q < length points → extended p points j q ≡ Some other → (point : Breakpoint) × Contains fresh point × (point.fitness ≡ other.fitness) × (point.class ≡ other.class)
  pub order : IsNonDecreasingBy (λ point. point.from) fresh

-- what keeps sums within their types
pub record IsSmall (point : Breakpoint) : Type 0 where
  pub bad : point.bad ≤ point.at
  pub low : pos 0 ≤ℤ (point.demerits +ℤ pos (2000000000000 * point.at))
  pub high : point.demerits ≤ℤ pos (2000000000000 * point.at)

pub record AreSmall (points : List Breakpoint) (j : ℕ) : Type 0 where
  pub small : All IsSmall points
  pub below : All (λ point. point.at < j) points

-- the best of the lists to one break by a last line of one fitness
pub record IsBestAt (p : Paragraph) (i : ℕ) (fitness : Fitness) (line : ℕ) (x : List ℕ) : Type 0 where
  pub admitted : Admitted p x
  pub ends : last_of x ≡ i
  pub fits : fitness_of p x ≡ fitness
  pub of_line : line_of p x ≡ line
  pub least : (y : List ℕ) → Admitted p y → last_of y ≡ i → fitness_of p y ≡ fitness → line_of p y ≡ line → IsAsGood p x y

-- x q is the list that point q stands for; each state below j that some list has, has a point; points stand in the order of their lists
pub record IsChart (p : Paragraph) (points : List Breakpoint) (j : ℕ) (x : ℕ → List ℕ) : Type 0 where
  pub some : 0 < length points
  pub first : x 0 ≡ []
  pub made : (q : ℕ) → 0 < q → q < length points → ((point_at points q).from < q) × (x q ≡ (point_at points q).at ∷ x (point_at points q).from)
  pub best : (q : ℕ) → q < length points → IsBestAt p (point_at points q).at (point_at points q).fitness (point_at points q).class (x q)
  pub bad : (q : ℕ) → q < length points → bad_of p (x q) ≡ (point_at points q).bad
  pub demerits : (q : ℕ) → q < length points → demerits_of p (x q) ≡ (point_at points q).demerits
  pub below : (q : ℕ) → q < length points → (point_at points q).at < j
  pub order : (q r : ℕ) → q ≤ r → r < length points → IsEarlier (x q) (x r)
  pub complete : (y : List ℕ) → Admitted p y → last_of y < j → (q : ℕ) × (q < length points) × ((point_at points q).at ≡ last_of y) × ((point_at points q).fitness ≡ fitness_of p y) × ((point_at points q).class ≡ line_of p y)

abbrev pub HasChart : Paragraph → List Breakpoint → ℕ → Type 0
HasChart p points j = (x : ℕ → List ℕ) × IsChart p points j x

-- the end of the last line of a point that is not the start
abbrev pub end_at : List Breakpoint → ℕ → BreakEnd
end_at points q = record { item = (point_at points q).at - 1; is_bad = nat_lt (point_at points (point_at points q).from).bad (point_at points q).bad }

-- x gives the ends of the lines to each point, the last one first
pub record IsTrail (points : List Breakpoint) (x : ℕ → List BreakEnd) : Type 0 where
  pub first : x 0 ≡ []
  pub made : (q : ℕ) → 0 < q → q < length points → x q ≡ end_at points q ∷ x (point_at points q).from

abbrev pub IsLinked : List Breakpoint → Type 0
IsLinked points = (q : ℕ) → 0 < q → q < length points → ((point_at points q).from < q) × (0 < (point_at points q).at)

-- of the points at the last break, the least, and of several the first
abbrev pub EndLe : List Breakpoint → ℕ → ℕ → Type 0
EndLe points q r = Below (point_at points q).bad (point_at points r).bad (BelowInt (point_at points q).demerits (point_at points r).demerits (q ≤ r))

pub record IsEnd (p : Paragraph) (points : List Breakpoint) (index q : ℕ) : Type 0 where
  pub within : q < index
  pub at : (point_at points q).at ≡ p.count
  pub least : (r : ℕ) → r < index → (point_at points r).at ≡ p.count → EndLe points q r

abbrev pub EndBelow : Paragraph → List Breakpoint → ℕ → Option ℕ → Type 0
EndBelow p points index None = (r : ℕ) → r < index → (point_at points r).at ≡ p.count → ⊥
EndBelow p points index (Some q) = IsEnd p points index q

-- which points still make lines to j: none before an index; from it on those that are marked
pub record IsOpen (p : Paragraph) (points : List Breakpoint) (j begin : ℕ) (open_nodes : List Bool) : Type 0 where
  pub long : length open_nodes ≡ length points
  pub closed : (q : ℕ) → q < begin → q < length points → is_stopped p (point_at points q).class (point_at points q).at j ≡ true
  pub marked : (q : ℕ) → begin ≤ q → q < length points → get_or open_nodes q false ≡ not (is_stopped p (point_at points q).class (point_at points q).at j)
