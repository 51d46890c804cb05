-- Laws of words: what is left of the steps, and what the nodes stand for.
use Rattle.std.proofs.Common.{◌≡◌, ℕ, zero, suc, ◌+◌, ◌≤◌, arith, List, [], ◌∷◌, ◌++◌, map, Option, Some, None, refl, ap, ◌∙◌, sym, subst}
use Rattle.std.specs.List.{flat_map}
use Rattle.std.proofs.lemmas.List.{append_assoc, append-nil}
use Rattle.lb_base.specs.declared.font.LigStep.TheVariants.{Nothing}
use Rattle.lb_base.specs.declared.font.Side.{Side}
use Rattle.lb_base.specs.declared.font.WordPart.{WordPart}
use Rattle.lb_base.specs.declared.font.WordPart.TheVariants.{Edge, Letter}
use Rattle.lb_base.specs.declared.node.Node.{Node}
use Rattle.lb_model_paper.specs.Fonts.{FontData, step_of}
use Rattle.lb_model_paper.specs.Words.{At, characters_of, Cursor, End, Found, nodes_of, set_from, set_word, side_of, sought, word_start}
use Rattle.lb_text.proofs.Cursors.{by_found, set_is, sought_by, sought_is, word_is, word_of_none}

-- ---- lists made part by part

pub flat-append : {X Y : Type 0} (f : X → List Y) (xs ys : List X) → flat_map f (xs ++ ys) ≡ flat_map f xs ++ flat_map f ys
flat-append f [] ys = refl
flat-append f (x ∷ xs) ys = ap (λ zs. f x ++ zs) (flat-append f xs ys) ∙ sym (append_assoc (f x) (flat_map f xs) (flat_map f ys))

-- ---- what is found at the end

pub ended_found : (font : FontData) (steps : ℕ) (nodes : List Node) → by_found font steps (End nodes) ≡ Some (nodes, steps)
ended_found font zero nodes = refl
ended_found font (suc steps) nodes = refl

abbrev pub done : List Node → ℕ → Option (List Node × ℕ)
done nodes steps = Some (nodes, steps)

pub same_pair : (nodes made : List Node) (steps left : ℕ) → done nodes steps ≡ done made left → (nodes ≡ made) × (steps ≡ left)
same_pair nodes made steps left is =
    let first : List Node × ℕ = (nodes, steps) in
    let second : List Node × ℕ = (made, left) in
    let F : Option (List Node × ℕ) → List Node × ℕ = λ o. elim o [ None ↦ first | Some pair ↦ pair ] in
    let pair : first ≡ second = ap F is in
    (ap (λ (p : List Node × ℕ). p.0) pair, ap (λ (p : List Node × ℕ). p.1) pair)

-- the steps that are left, and so many more
ended_more : (font : FontData) (steps more left : ℕ) (nodes made : List Node) → by_found font steps (End nodes) ≡ Some (made, left) → by_found font (steps + more) (End nodes) ≡ Some (made, left + more)
ended_more font steps more left nodes made is =
    let same = same_pair nodes made steps left (sym (ended_found font steps nodes) ∙ is) in
    ended_found font (steps + more) nodes ∙ ap (λ ns. Some (ns, steps + more)) same.0 ∙ ap (λ n. Some (made, n + more)) same.1

-- ---- how many steps are left

found_more : (font : FontData) (steps more left : ℕ) (made : List Node) (found : Found) → ((next : Cursor) (few : ℕ) → suc few ≡ steps → set_from font few next ≡ Some (made, left) → set_from font (few + more) next ≡ Some (made, left + more)) → by_found font steps found ≡ Some (made, left) → by_found font (steps + more) found ≡ Some (made, left + more)
found_more font zero more left made (At next) before is = let no : ⊥ = cc in absurd no
found_more font zero more left made (End nodes) before is = ended_more font 0 more left nodes made is
found_more font (suc steps) more left made (End nodes) before is = ended_more font (suc steps) more left nodes made is
found_more font (suc steps) more left made (At next) before is =
    let same : suc steps + more ≡ suc (steps + more) = omega arith in
    ap (λ n. by_found font n (At next)) same ∙ before next steps refl is

pub set_from-more : (font : FontData) (steps more left : ℕ) (made : List Node) (cursor : Cursor) → set_from font steps cursor ≡ Some (made, left) → set_from font (steps + more) cursor ≡ Some (made, left + more)
set_from-more font zero more left made cursor is =
    set_is font (0 + more) cursor
    ∙ found_more font 0 more left made (sought font cursor.made cursor.left cursor.right) (λ next few past set. (let no : ⊥ = omega arith in absurd no)) (sym (set_is font 0 cursor) ∙ is)
set_from-more font (suc steps) more left made cursor is =
    set_is font (suc steps + more) cursor
    ∙ found_more font (suc steps) more left made (sought font cursor.made cursor.left cursor.right)
    (λ next few past set. (
    let same : few ≡ steps = omega arith in
    let P : ℕ → Type 0 = λ n. set_from font (n + more) next ≡ Some (made, left + more) in
    let Q : ℕ → Type 0 = λ n. set_from font n next ≡ Some (made, left) in
    subst P (sym same) (set_from-more font steps more left made next (subst Q same set))))
    (sym (set_is font (suc steps) cursor) ∙ is)

ended_fewer : (font : FontData) (steps left : ℕ) (nodes made : List Node) → by_found font steps (End nodes) ≡ Some (made, left) → left ≤ steps
ended_fewer font steps left nodes made is = let same = same_pair nodes made steps left (sym (ended_found font steps nodes) ∙ is) in let e = same.1 in omega arith

found_fewer : (font : FontData) (steps left : ℕ) (made : List Node) (found : Found) → ((next : Cursor) (few : ℕ) → suc few ≡ steps → set_from font few next ≡ Some (made, left) → left ≤ few) → by_found font steps found ≡ Some (made, left) → left ≤ steps
found_fewer font zero left made (At next) before is = let no : ⊥ = cc in absurd no
found_fewer font zero left made (End nodes) before is = ended_fewer font 0 left nodes made is
found_fewer font (suc steps) left made (End nodes) before is = ended_fewer font (suc steps) left nodes made is
found_fewer font (suc steps) left made (At next) before is = let less = before next steps refl is in omega arith

pub set_from-fewer : (font : FontData) (steps left : ℕ) (made : List Node) (cursor : Cursor) → set_from font steps cursor ≡ Some (made, left) → left ≤ steps
set_from-fewer font zero left made cursor is =
    found_fewer font 0 left made (sought font cursor.made cursor.left cursor.right) (λ next few past set. (let no : ⊥ = omega arith in absurd no)) (sym (set_is font 0 cursor) ∙ is)
set_from-fewer font (suc steps) left made cursor is =
    found_fewer font (suc steps) left made (sought font cursor.made cursor.left cursor.right)
    (λ next few past set. (
    let same : few ≡ steps = omega arith in
    let P : ℕ → Type 0 = λ n. left ≤ n in
    let Q : ℕ → Type 0 = λ n. set_from font n next ≡ Some (made, left) in
    subst P (sym same) (set_from-fewer font steps left made next (subst Q same set))))
    (sym (set_is font (suc steps) cursor) ∙ is)

-- ---- a font without steps

abbrev HasNoSteps : FontData → Type 0
HasNoSteps font = (left right : Side) → step_of font left right ≡ Nothing

sought-none : (font : FontData) (made : List Node) (left : WordPart) (right : List WordPart) → HasNoSteps font → sought font made left right ≡ End (made ++ (nodes_of font left ++ flat_map (nodes_of font) right))
unfolding sought
sought-none font made left [] none = ap (λ ns. End (made ++ ns)) (sym (append-nil (nodes_of font left)))
sought-none font made left (next ∷ right) none =
    sought_is font made left next right
    ∙ ap (λ step. sought_by font step made left next right) (none (side_of left) (side_of next))
    ∙ sought-none font (made ++ nodes_of font left) next right none
    ∙ ap End (append_assoc made (nodes_of font left) (nodes_of font next ++ flat_map (nodes_of font) right))

characters_are : (font : FontData) (codes : List ℕ) → flat_map (nodes_of font) (map Letter codes ++ Edge ∷ []) ≡ characters_of font codes
characters_are font [] = refl
characters_are font (code ∷ codes) = ap (λ ns. nodes_of font (Letter code) ++ ns) (characters_are font codes)

pub word-characters : (font : FontData) (steps : ℕ) (nodes : List Node) (codes : List ℕ) → HasNoSteps font → set_word font steps nodes codes ≡ Some (nodes ++ characters_of font codes, steps)
word-characters font steps nodes [] none = word_of_none font steps nodes ∙ ap (λ ns. Some (ns, steps)) (sym (append-nil nodes))
word-characters font steps nodes (code ∷ codes) none =
    let all : List ℕ = code ∷ codes in
    word_is font steps nodes all (λ e. cc)
    ∙ set_is font steps (word_start nodes all)
    ∙ ap (by_found font steps) (sought-none font nodes Edge (map Letter all ++ Edge ∷ []) none)
    ∙ ended_found font steps (nodes ++ flat_map (nodes_of font) (map Letter all ++ Edge ∷ []))
    ∙ ap (λ ns. Some (nodes ++ ns, steps)) (characters_are font all)

-- ---- words of any characters

pub word-more : (font : FontData) (steps more left : ℕ) (nodes made : List Node) (codes : List ℕ) → set_word font steps nodes codes ≡ Some (made, left) → set_word font (steps + more) nodes codes ≡ Some (made, left + more)
word-more font steps more left nodes made [] is =
    let same = same_pair nodes made steps left (sym (word_of_none font steps nodes) ∙ is) in
    word_of_none font (steps + more) nodes ∙ ap (λ ns. Some (ns, steps + more)) same.0 ∙ ap (λ n. Some (made, n + more)) same.1
word-more font steps more left nodes made (code ∷ codes) is =
    let all : List ℕ = code ∷ codes in
    word_is font (steps + more) nodes all (λ e. cc)
    ∙ set_from-more font steps more left made (word_start nodes all) (sym (word_is font steps nodes all (λ e. cc)) ∙ is)

pub word-fewer : (font : FontData) (steps left : ℕ) (nodes made : List Node) (codes : List ℕ) → set_word font steps nodes codes ≡ Some (made, left) → left ≤ steps
word-fewer font steps left nodes made [] is = let same = same_pair nodes made steps left (sym (word_of_none font steps nodes) ∙ is) in let e = same.1 in omega arith
word-fewer font steps left nodes made (code ∷ codes) is =
    let all : List ℕ = code ∷ codes in
    set_from-fewer font steps left made (word_start nodes all) (sym (word_is font steps nodes all (λ e. cc)) ∙ is)
