-- What is measured of a paragraph.
use Rattle.std.specs.Prelude.{◌≡◌, ℕ, zero, suc, ◌+◌, ◌-◌, min, ◌<◌, ◌≤◌, List, [], ◌∷◌, length, take, drop, if◌then◌else◌, pos, neg_ℤ, ◌≤ℤ◌, false, None, slice_index_or}
use Rattle.lb_base.specs.declared.node.Node.{Node}
use Rattle.lb_model_paper.specs.BestBreaks.{Paragraph}
use Rattle.lb_model_paper.specs.Breaks.{Pass, glue_node, is_discardable, is_disc_at, paragraph_of, penalty_at, post_at, pre_at, sums_of}
use Rattle.lb_model_paper.specs.Nodes.{shown}
use Rattle.lb_model_paper.specs.declared.paragraph.BreakRules.{BreakRules}
use Rattle.lb_model_paper.specs.declared.paragraph.Judged.{Judged}
use Rattle.lb_measure.specs.Amounts.{AreNear, nothing}
use Rattle.lb_measure.specs.declared.measured.Measured.{Measured}
use Rattle.lb_measure.specs.declared.places.Place.{Place}

-- how many discardables stand at the start of a list
abbrev pub leading : List Node → ℕ
leading [] = 0
leading (node ∷ nodes) = if is_discardable node then suc (leading nodes) else 0

-- the items before those of the line between two breaks
abbrev pub skipped_to : List Node → ℕ → ℕ → ℕ
skipped_to nodes zero j = 0
skipped_to nodes (suc i) j = suc i + min (leading (drop (suc i) nodes)) (j - 1 - suc i)

-- a break, and what stands before it
pub record IsPlace (rules : BreakRules) (nodes : List Node) (j : ℕ) (place : Place) : Type 0 where
  pub sums : place.sums ≡ sums_of (shown (take j nodes))
  pub pre : place.pre ≡ sums_of (shown (pre_at nodes j))
  pub post : place.post ≡ sums_of (shown (post_at nodes j))
  pub penalty : place.penalty ≡ penalty_at rules nodes j
  pub is_disc : place.is_disc ≡ is_disc_at nodes j
  pub near : AreNear 65536 place.sums
  pub near_pre : AreNear 65536 place.pre
  pub near_post : AreNear 65536 place.post

abbrev pub blank : Place
blank = record { sums = nothing; pre = nothing; post = nothing; penalty = None; is_disc = false }

abbrev pub place_at : List Place → ℕ → Place
place_at places j = slice_index_or places j blank

abbrev pub ArePlaces : BreakRules → List Node → List Place → ℕ → Type 0
ArePlaces rules nodes places k = (j : ℕ) → j < k → IsPlace rules nodes j (place_at places j)

abbrev pub lead_at : List ℕ → ℕ → ℕ
lead_at leads i = slice_index_or leads i 0

-- the discardables from the i-th item on
abbrev pub AreLeads : List Node → List ℕ → ℕ → Type 0
AreLeads nodes leads from = (i : ℕ) → from ≤ i → i ≤ length nodes → lead_at leads i ≡ leading (drop i nodes)

abbrev pub pass_of : Measured → Pass
pass_of m = record { tolerance = m.tolerance; keeps_bad = m.keeps_bad }

-- the paragraph of which this is measured
abbrev pub paragraph_in : Measured → Paragraph
paragraph_in m = paragraph_of m.shape (pass_of m) m.list.now

pub record IsMeasured (m : Measured) : Type 0 where
  pub few : length m.list.now ≤ 65536
  pub ends : m.ends ≡ sums_of (glue_node m.shape.left ∷ glue_node m.shape.right ∷ [])
  pub near : AreNear 2 m.ends
  pub long : length m.places.items ≡ length m.list.now + 1
  pub places : ArePlaces m.shape.rules m.list.now m.places.items (length m.list.now + 1)
  pub leads_long : length m.leads.items ≡ length m.list.now + 1
  pub leads : AreLeads m.list.now m.leads.items 0

-- what a line may add, within the bounds of its numbers
pub record IsLine (line : Judged) : Type 0 where
  pub low : neg_ℤ (pos 1000000000000) ≤ℤ line.demerits
  pub high : line.demerits ≤ℤ pos 1000000000000
