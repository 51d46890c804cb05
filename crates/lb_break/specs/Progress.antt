-- What is known while the table is filled.
use Rattle.std.specs.Prelude.{◌≡◌, ℕ, ◌<◌, ◌≤◌, ◌⊎◌, ◌||◌, ◌&&◌, ◌++◌, ◌∷◌, [], Bool, true, false, List, length, Option, Some, None, cond, nat_lt, nat_eq, slice_set}
use Rattle.std.specs.Int.Signed.{le_z}
use Rattle.lb_model_paper.specs.BestBreaks.{Paragraph}
use Rattle.lb_break.specs.declared.point.Breakpoint.{Breakpoint}
use Rattle.lb_break.specs.Points.{AreSmall, HasChart, IsOpen, IsSmall, KeyLe, extended, point_at}

abbrev pub cheaper : Breakpoint → Breakpoint → Bool
cheaper a b = nat_lt a.bad b.bad || (nat_eq a.bad b.bad && le_z a.demerits b.demerits)

abbrev pub end_of : List Breakpoint → Option ℕ → ℕ → ℕ
end_of points None index = index
end_of points (Some q) index = cond (cheaper (point_at points q) (point_at points index)) q index

abbrev pub SameClass : Breakpoint → Breakpoint → Type 0
SameClass a b = (a.fitness ≡ b.fitness) × (a.class ≡ b.class)

-- the point is the best of its class among those that the points below an index make
pub record IsBestBelow (p : Paragraph) (points : List Breakpoint) (j index : ℕ) (point : Breakpoint) : Type 0 where
  pub within : point.from < index
  pub made : extended p points j point.from ≡ Some point
  pub small : IsSmall point
  pub least : (q : ℕ) (other : Breakpoint) → q < index → extended p points j q ≡ Some other → SameClass other point → KeyLe point other

pub record IsGathered (p : Paragraph) (points : List Breakpoint) (j index : ℕ) (fresh : List Breakpoint) : Type 0 where
  pub each : (k : ℕ) → k < length fresh → IsBestBelow p points j index (point_at fresh k)
  pub distinct : (k l : ℕ) → k < length fresh → l < length fresh → SameClass (point_at fresh k) (point_at fresh l) → k ≡ l
  pub complete : (q : ℕ) (other : Breakpoint) → q < index → extended p points j q ≡ Some other → (k : ℕ) × (k < length fresh) × SameClass (point_at fresh k) other

-- a list of one point a class, before and after a point is put in
pub record IsKept (xs : List Breakpoint) (point : Breakpoint) (ys : List Breakpoint) : Type 0 where
  pub k : ℕ
  pub within : k < length xs
  pub same : SameClass (point_at xs k) point
  pub cheaper : cheaper (point_at xs k) point ≡ true
  pub is : ys ≡ xs

pub record IsReplaced (xs : List Breakpoint) (point : Breakpoint) (ys : List Breakpoint) : Type 0 where
  pub k : ℕ
  pub within : k < length xs
  pub same : SameClass (point_at xs k) point
  pub dearer : cheaper (point_at xs k) point ≡ false
  pub is : ys ≡ slice_set xs k point

pub record IsPushed (xs : List Breakpoint) (point : Breakpoint) (ys : List Breakpoint) : Type 0 where
  pub new : (k : ℕ) → k < length xs → SameClass (point_at xs k) point → ⊥
  pub is : ys ≡ xs ++ point ∷ []

abbrev pub Put : List Breakpoint → Breakpoint → List Breakpoint → Type 0
Put xs point ys = IsKept xs point ys ⊎ IsReplaced xs point ys ⊎ IsPushed xs point ys

-- the table of all points below a break, with marks on those from which lines still go on, none of which is before an index
pub record IsVisited (p : Paragraph) (points : List Breakpoint) (marks : List Bool) (first j : ℕ) : Type 0 where
  pub chart : HasChart p points j
  pub small : AreSmall points j
  pub live : IsOpen p points j first marks
  pub begin : first ≤ length points
