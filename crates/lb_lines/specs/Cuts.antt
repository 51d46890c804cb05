-- A list that is cut into lines.
use Rattle.std.specs.Prelude.{◌≡◌, ℕ, ◌+◌, Bool, true, false, List, ◌==◌, take, drop, if◌then◌else◌, reverse, Result, Ok, Err, ⊤}
use Rattle.lb_base.specs.declared.fault.Kind.{Kind}
use Rattle.lb_base.specs.declared.fault.Kind.TheVariants.{DepthLimit, DimenTooLarge}
use Rattle.lb_base.specs.declared.fault.Stop.{Stop}
use Rattle.lb_base.specs.declared.fault.Stop.TheVariants.{At, Fault, Memory}
use Rattle.lb_base.specs.declared.node.Node.{Node}
use Rattle.lb_model_paper.specs.Breaks.{is_disc_at, line_items, post_at, trimmed}
use Rattle.lb_model_paper.specs.Nodes.{shown}
use Rattle.lb_model_paper.specs.declared.paragraph.Shape.{Shape}
use Rattle.lb_lines.specs.declared.cutting.Taken.{Taken}

-- the lines so far, one list a line, of which some were too deep or none
abbrev pub so_far : Bool → List (List Node) → Result (List (List Node)) Kind
so_far true lines = Err DepthLimit
so_far false lines = Ok lines

-- a line that is taken from a list behind break i, to an item, and what is left of the list
pub record IsTaken (shape : Shape) (nodes : List Node) (i item : ℕ) (pending : List Node) (cut : Taken) : Type 0 where
  pub line : shown cut.line ≡ line_items shape nodes i (item + 1)
  pub post : cut.post ≡ post_at nodes (item + 1)
  pub is_broken : cut.is_broken ≡ is_disc_at nodes (item + 1)
  pub left : reverse pending ≡ drop (item + 1) nodes

-- the items of a line from break i, without the discardables at its start
pub record IsSkipped (i count : ℕ) (old : List Node) (left : ℕ) (new : List Node) : Type 0 where
  pub line : take left new ≡ (if i == 0 then take count old else trimmed (take count old))
  pub rest : drop left new ≡ drop count old

-- why no line is added: only where it is too large
abbrev pub IsAddStop : Result (List Node) Kind → Stop → Type 0
IsAddStop meant Memory = ⊤
IsAddStop meant (Fault kind) = (kind ≡ DimenTooLarge) × (meant ≡ Err DimenTooLarge)
IsAddStop meant (At fault) = ⊥
