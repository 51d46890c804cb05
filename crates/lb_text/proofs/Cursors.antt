-- How the setting of a word goes on from a cursor.
use Rattle.std.proofs.Common.{◌≡◌, ℕ, zero, suc, ◌-◌, ◌<◌, arith, reverse, List, [], ◌∷◌, ◌++◌, Option, Some, None, refl, ap, ◌∙◌, sym}
use Rattle.std.proofs.lemmas.List.{append_assoc, reverse-append}
use Rattle.lb_base.specs.declared.font.LigStep.{LigStep}
use Rattle.lb_base.specs.declared.font.LigStep.TheVariants.{Nothing, Kern, Lig}
use Rattle.lb_base.specs.declared.fault.Stop.{Stop}
use Rattle.lb_base.specs.declared.fault.Stop.TheVariants.{Memory, Fault, At as AtPlace}
use Rattle.lb_base.specs.declared.font.WordPart.{WordPart}
use Rattle.lb_base.specs.declared.node.Node.{Node}
use Rattle.lb_model_paper.specs.Fonts.{FontData, step_of}
use Rattle.lb_model_paper.specs.Words.{Cursor, At, End, Found, found_at, nodes_of, passed, passed_one, set_from, set_word, side_of, sought, stepped, word_start}
use Rattle.lb_text.specs.Stops.{Begins, IsCursorStop, IsWordStop, cursor_of, steps_left}

-- what comes of a cursor with so many steps, if that many are left
abbrev pub set_with : Option ℕ → FontData → Cursor → Option (List Node × ℕ)
set_with None font cursor = None
set_with (Some steps) font cursor = set_from font steps cursor

abbrev pub here : List Node → WordPart → WordPart → List WordPart → Cursor
here made left next right = record { made = made; left = left; right = next ∷ right }

-- what is sought, by what the font says
abbrev pub sought_by : FontData → LigStep → List Node → WordPart → WordPart → List WordPart → Found
sought_by font step made left next right =
    found_at step (At (stepped font step (here made left next right) next right)) (sought font (made ++ nodes_of font left) next right)

pub sought_is : (font : FontData) (made : List Node) (left next : WordPart) (right : List WordPart) →
    sought font made left (next ∷ right) ≡ sought_by font (step_of font (side_of left) (side_of next)) made left next right
unfolding sought
sought_is font made left next right = refl

-- the setting by what is found
abbrev pub by_found : FontData → ℕ → Found → Option (List Node × ℕ)
by_found font zero found = elim found [ End nodes ↦ Some (nodes, 0) | At next ↦ None ]
by_found font (suc steps) found = elim found [ End nodes ↦ Some (nodes, suc steps) | At next ↦ set_from font steps next ]

pub set_is : (font : FontData) (steps : ℕ) (cursor : Cursor) → set_from font steps cursor ≡ by_found font steps (sought font cursor.made cursor.left cursor.right)
unfolding set_from
set_is font zero cursor = refl
set_is font (suc steps) cursor = refl

by_step : (font : FontData) (steps : ℕ) (step : LigStep) (made : List Node) (left next : WordPart) (right : List WordPart) →
    by_found font steps (sought_by font step made left next right) ≡ set_with (steps_left steps step) font (stepped font step (here made left next right) next right)
by_step font steps Nothing made left next right = sym (set_is font steps (stepped font Nothing (here made left next right) next right))
by_step font zero (Kern width) made left next right = refl
by_step font (suc steps) (Kern width) made left next right = refl
by_step font zero (Lig code keep_left keep_right pass) made left next right = refl
by_step font (suc steps) (Lig code keep_left keep_right pass) made left next right = refl

-- one turn: what the font says of the part at the left and the next one
pub turn : (font : FontData) (steps : ℕ) (step : LigStep) (made : List Node) (left next : WordPart) (right : List WordPart) →
    step ≡ step_of font (side_of left) (side_of next) →
    set_from font steps (here made left next right) ≡ set_with (steps_left steps step) font (stepped font step (here made left next right) next right)
turn font steps step made left next right e =
    set_is font steps (here made left next right)
    ∙ ap (by_found font steps) (sought_is font made left next right ∙ ap (λ s. sought_by font s made left next right) (sym e))
    ∙ by_step font steps step made left next right

-- at the end
pub ended : (font : FontData) (steps : ℕ) (made : List Node) (left : WordPart) →
    set_from font steps (record { made = made; left = left; right = [] }) ≡ Some (made ++ nodes_of font left, steps)
unfolding set_from sought
ended font zero made left = refl
ended font (suc steps) made left = refl

-- a word with characters is set from its start, and one without has nothing
pub word_is : (font : FontData) (steps : ℕ) (nodes : List Node) (codes : List ℕ) → (codes ≡ [] → ⊥) →
    set_word font steps nodes codes ≡ set_from font steps (word_start nodes codes)
unfolding set_word
word_is font steps nodes [] some = absurd (some refl)
word_is font steps nodes (code ∷ codes) some = refl

pub word_of_none : (font : FontData) (steps : ℕ) (nodes : List Node) → set_word font steps nodes [] ≡ Some (nodes, steps)
unfolding set_word
word_of_none font steps nodes = refl

-- ---- a stack, whose top is at the right of the cursor

pub popped : (made : List Node) (left next : WordPart) (stack rest : List WordPart) → stack ≡ rest ++ next ∷ [] →
    cursor_of made left stack ≡ here made left next (reverse rest)
popped made left next stack rest e =
    let r : reverse stack ≡ next ∷ reverse rest = ap reverse e ∙ reverse-append rest (next ∷ []) in
    ap (λ right. record { made = made; left = left; right = right }) r

-- ---- going over parts

pub passed_more : (font : FontData) (count : ℕ) (cursor : Cursor) → 0 < count →
    passed font count cursor ≡ passed font (count - 1) (passed_one font cursor cursor.right)
passed_more font zero cursor some = let none : ⊥ = omega arith in absurd none
passed_more font (suc count) cursor some = let e : suc count - 1 ≡ count = omega arith in rw e refl

pub begins_on : (nodes more most : List Node) → Begins nodes more → Begins more most → Begins nodes most
begins_on nodes more most b c = (b.0 ++ c.0, c.1 ∙ ap (λ ns. ns ++ c.0) b.1 ∙ append_assoc nodes b.0 c.0)

-- ---- why a word stops

pub stop_of_word : (font : FontData) (steps : ℕ) (nodes : List Node) (codes : List ℕ) (stop : Stop) → (codes ≡ [] → ⊥) →
    IsCursorStop font steps (word_start nodes codes) stop → IsWordStop font steps nodes codes stop
stop_of_word font steps nodes codes Memory some h = tt
stop_of_word font steps nodes codes (Fault kind) some h = (h.0, word_is font steps nodes codes some ∙ h.1)
stop_of_word font steps nodes codes (AtPlace fault) some h = h
