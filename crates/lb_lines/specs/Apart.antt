-- The lines of a paragraph one by one (The TeXbook, chapter 14; tex.web, part 39).
use Rattle.std.specs.Prelude.{◌≡◌, ℕ, ◌+◌, List, [], ◌∷◌, ◌++◌, length, Result, Ok, Err}
use Rattle.std.specs.List.{flat_map}
use Rattle.lb_base.specs.declared.fault.Kind.{Kind}
use Rattle.lb_base.specs.declared.node.Node.{Node}
use Rattle.lb_model_paper.specs.Lines.{set_line, worse}
use Rattle.lb_model_paper.specs.declared.paragraph.BreakEnd.{BreakEnd}
use Rattle.lb_model_paper.specs.declared.paragraph.Shape.{Shape}

-- two lists one behind the other, or why there are none
abbrev pub joined_of : {T : Type 0} → Result (List T) Kind → Result (List T) Kind → Result (List T) Kind
joined_of (Ok items) (Ok more) = Ok (items ++ more)
joined_of (Ok items) (Err kind) = Err kind
joined_of (Err kind) (Ok more) = Err kind
joined_of (Err kind) (Err other) = Err (worse kind other)

-- a line as the only one
abbrev pub alone : Result (List Node) Kind → Result (List (List Node)) Kind
alone (Ok line) = Ok (line ∷ [])
alone (Err kind) = Err kind

-- the lines from break i on, each as a list of its own: its box, then what moves out of it and the penalty behind it
abbrev pub lines_apart_from : Shape → List Node → ℕ → List BreakEnd → Result (List (List Node)) Kind
lines_apart_from shape nodes i [] = Ok []
lines_apart_from shape nodes i (end ∷ ends) =
    joined_of (alone (set_line shape nodes i (end.item + 1) (length ends))) (lines_apart_from shape nodes (end.item + 1) ends)

-- the lines that end at these items, or why there are none
unfoldable pub lines_apart_of : Shape → List Node → List BreakEnd → Result (List (List Node)) Kind
lines_apart_of shape nodes ends = lines_apart_from shape nodes 0 ends

-- lines one behind another
abbrev pub together : List (List Node) → List Node
together lines = flat_map (λ (line : List Node). line) lines

abbrev pub lines_together : Result (List (List Node)) Kind → Result (List Node) Kind
lines_together (Ok lines) = Ok (together lines)
lines_together (Err kind) = Err kind

-- these are the lines from break i on that end at these items, one for each end
abbrev pub AreLines : Shape → List Node → ℕ → List BreakEnd → List (List Node) → Type 0
AreLines shape nodes i [] [] = Unit {0}
AreLines shape nodes i [] (line ∷ lines) = ⊥
AreLines shape nodes i (end ∷ ends) [] = ⊥
AreLines shape nodes i (end ∷ ends) (line ∷ lines) =
    (set_line shape nodes i (end.item + 1) (length ends) ≡ Ok line) × AreLines shape nodes (end.item + 1) ends lines
