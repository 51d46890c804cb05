-- Why a word stops, and what calls leave behind.
use Rattle.std.specs.Prelude.{◌≡◌, ℕ, zero, suc, List, ◌++◌, reverse, Option, Some, None, Result, Ok, Err}
use Rattle.lb_base.specs.declared.fault.Kind.TheVariants.{StepLimit}
use Rattle.lb_base.specs.declared.fault.Stop.{Stop}
use Rattle.lb_base.specs.declared.fault.Stop.TheVariants.{Memory, Fault, At}
use Rattle.lb_base.specs.declared.font.LigStep.{LigStep}
use Rattle.lb_base.specs.declared.font.LigStep.TheVariants.{Nothing, Kern, Lig}
use Rattle.lb_base.specs.declared.font.WordPart.{WordPart}
use Rattle.lb_base.specs.declared.node.Node.{Node}
use Rattle.lb_model_paper.specs.Fonts.{FontData}
use Rattle.lb_model_paper.specs.Words.{Cursor, set_from, set_word}

-- the answer of a call that changes a value, as if it gave the new one back
abbrev pub leaving : {T : Type 0} → T → Result (Unit {0}) Stop → Result T Stop
leaving value (Ok none) = Ok value
leaving value (Err stop) = Err stop

-- A word stops for want of memory, or where it needs more steps than may be taken.
abbrev pub IsWordStop : FontData → ℕ → List Node → List ℕ → Stop → Type 0
IsWordStop font steps nodes codes Memory = Unit {0}
IsWordStop font steps nodes codes (Fault kind) = (kind ≡ StepLimit) × (set_word font steps nodes codes ≡ None)
IsWordStop font steps nodes codes (At fault) = ⊥

-- the same from a cursor on
abbrev pub IsCursorStop : FontData → ℕ → Cursor → Stop → Type 0
IsCursorStop font steps cursor Memory = Unit {0}
IsCursorStop font steps cursor (Fault kind) = (kind ≡ StepLimit) × (set_from font steps cursor ≡ None)
IsCursorStop font steps cursor (At fault) = ⊥

-- a list is another with more behind it
abbrev pub Begins : List Node → List Node → Type 0
Begins nodes longer = (more : List Node) × (longer ≡ nodes ++ more)

-- the cursor of a list, the part at its left, and a stack whose top is the part at its right
abbrev pub cursor_of : List Node → WordPart → List WordPart → Cursor
cursor_of made left stack = record { made = made; left = left; right = reverse stack }

-- how many of the steps that may be taken are left after what the font says; none where that is one too many
abbrev pub steps_left : ℕ → LigStep → Option ℕ
steps_left steps Nothing = Some steps
steps_left zero (Kern width) = None
steps_left (suc steps) (Kern width) = Some steps
steps_left zero (Lig code keep_left keep_right pass) = None
steps_left (suc steps) (Lig code keep_left keep_right pass) = Some steps

-- how many parts more than it takes a step of the font may put back
abbrev pub parts_put : LigStep → ℕ
parts_put Nothing = 0
parts_put (Kern width) = 0
parts_put (Lig code keep_left keep_right pass) = 2
