-- Places and marks as the code comes to them.
use Rattle.std.specs.Prelude.{◌≡◌, ◌≤◌, List, length, true, false, ⊤, ℕ, ℤ, ◌+ℤ◌}
use Rattle.std.specs.List.{list_all}
use Rattle.lb_base.specs.declared.fault.Kind.TheVariants.{DimenTooLarge}
use Rattle.lb_base.specs.declared.fault.Stop.{Stop}
use Rattle.lb_base.specs.declared.fault.Stop.TheVariants.{At, Fault, Memory}
use Rattle.lb_base.specs.declared.page.FontId.{FontId}
use Rattle.lb_base.specs.declared.page.Mark.{Mark}
use Rattle.lb_base.specs.declared.page.Mark.TheVariants.{Char, Rule}
use Rattle.lb_marks.specs.declared.place.Spot.{Spot}
use Rattle.lb_model_paper.specs.Marks as marks
use Rattle.lb_model_paper.specs.Nodes as nodes
use Rattle.lb_nodes.specs.declared.sizes.Size.{Size}
use Rattle.lb_model_paper.specs.Dvi.{is_small}
use Rattle.lb_model_paper.specs.Marks.{is_small_mark, spot_along}
use Rattle.lb_marks.specs.declared.drawing.Stand.{Stand}
use Rattle.lb_base.specs.declared.font.Metrics.{Metrics}
use Rattle.lb_base.specs.declared.node.Axis.{Axis}
use Rattle.lb_base.specs.declared.node.Axis.TheVariants.{Horizontal, Vertical}

abbrev pub spot_of : Spot → marks.Spot
spot_of spot = record { h = spot.h; v = spot.v }

abbrev pub size_of_rule : Size → nodes.Size
size_of_rule size = record { width = size.width; height = size.height; depth = size.depth }

-- why some marks are not put behind others: there is not enough memory, or one is not small
abbrev pub IsMarkStop : List Mark → Stop → Type 0
IsMarkStop more Memory = ⊤
IsMarkStop more (Fault kind) = (kind ≡ DimenTooLarge) × (list_all is_small_mark more ≡ false)
IsMarkStop more (At fault) = ⊥

-- the name of a character's font has at most 255 bytes
abbrev pub HasShortName : Mark → Type 0
HasShortName (Char h v font code width) = length font.name ≤ 255
HasShortName (Rule h v height width) = ⊤

-- the room that a character takes along its list
abbrev pub room_of_char : Axis → Metrics → ℤ
room_of_char Horizontal metrics = metrics.width
room_of_char Vertical metrics = metrics.height +ℤ metrics.depth

-- where its baseline begins, if it begins at a spot
abbrev pub baseline_of_char : Axis → marks.Spot → ℤ → marks.Spot
baseline_of_char Horizontal spot height = spot
baseline_of_char Vertical spot height = record { h = spot.h; v = spot.v +ℤ height }

abbrev pub mark_of_char : marks.Spot → FontId → ℕ → ℤ → Mark
mark_of_char spot font code width = Char spot.h spot.v font code width

-- where an item of a horizontal box stands that begins so far along it: the place is small
pub record IsStand (axis : Axis) (height : ℤ) (spot : marks.Spot) (along : ℤ) (at : Stand) : Type 0 where
  pub horizontal : axis ≡ Horizontal
  pub h : at.h ≡ spot.h +ℤ along
  pub v : at.v ≡ spot.v
  pub left : is_small at.h ≡ true
  pub baseline : is_small at.v ≡ true
