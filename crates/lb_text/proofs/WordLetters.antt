-- What the nodes of a word stand for.
use Rattle.std.proofs.Common.{◌≡◌, ℕ, zero, suc, Bool, true, false, arith, List, [], ◌∷◌, ◌++◌, map, Some, refl, ap, ◌∙◌, sym, subst, ℤ}
use Rattle.std.specs.Prelude.{◌==◌}
use Rattle.std.specs.List.{flat_map}
use Rattle.std.proofs.lemmas.List.{append_assoc, append-nil}
use Rattle.lb_base.specs.declared.font.LigStep.{LigStep}
use Rattle.lb_base.specs.declared.font.LigStep.TheVariants.{Nothing, Kern, Lig}
use Rattle.lb_base.specs.declared.font.WordPart.{WordPart}
use Rattle.lb_base.specs.declared.font.WordPart.TheVariants.{Edge, Letter, Ligature}
use Rattle.lb_base.specs.declared.font.Metrics.{Metrics}
use Rattle.lb_base.specs.declared.node.Discretionary.{Discretionary, roll-Discretionary}
use Rattle.lb_base.specs.declared.node.KernOrigin.TheVariants.{Font}
use Rattle.lb_base.specs.declared.node.Ligature.{Ligature as Ligatured}
use Rattle.lb_base.specs.declared.node.Node.{Node, Char as CharNode, Lig as LigNode, Kern as KernNode, Disc}
use Rattle.lb_base.specs.declared.node.Node.TheVariants.{outs-Char, outs-Lig, outs-Kern, outs-Disc}
use Rattle.lb_base.specs.declared.page.FontId.{FontId}
use Rattle.lb_model_paper.specs.Fonts.{FontData, metrics_of, step_of}
use Rattle.lb_model_paper.specs.Words.{known, letters_in, At, behind_ligature, break_behind, Cursor, End, Found, is_hyphen_last, joined, letters_of, letters_of_list, letters_of_node, nodes_of, passed, passed_one, set_from, set_word, side_of, sought, with_ligature, word_start}
use Rattle.lb_text.proofs.Cursors.{by_found, set_is, sought_by, sought_is, word_is, word_of_none}
use Rattle.lb_text.proofs.WordLaws.{ended_found, flat-append, same_pair}

-- ---- the nodes of a part

char_letters : (code : ℕ) (metrics : Metrics) (font : FontId) → letters_of_node (CharNode code metrics font) ≡ code ∷ []
unfolding letters_of_node
char_letters code metrics font = ap letters_in (outs-Char code metrics font)

lig_letters : (ligature : Ligatured) → letters_of_node (LigNode ligature) ≡ ligature.letters
unfolding letters_of_node
lig_letters ligature = ap letters_in (outs-Lig ligature)

disc_letters : (parts : Discretionary) → letters_of_node (Disc parts) ≡ []
unfolding letters_of_node
disc_letters parts = ap letters_in (outs-Disc parts)

kern_letters : (width : ℤ) → letters_of_node (KernNode width Font) ≡ []
unfolding letters_of_node
kern_letters width = ap letters_in (outs-Kern width Font)

break_none : (hyphen : Bool) → letters_of_list (break_behind hyphen) ≡ []
break_none true = ap (λ ls. ls ++ []) (disc_letters (roll-Discretionary (record { pre_break = []; post_break = []; no_break = [] })))
break_none false = refl

part_letters : (font : FontData) (part : WordPart) → letters_of_list (nodes_of font part) ≡ letters_of part
part_letters font Edge = refl
part_letters font (Letter code) =
    ap (λ ls. ls ++ letters_of_list (break_behind (code == 45))) (char_letters code (known (metrics_of font code)) font.id)
    ∙ ap (λ ls. code ∷ ls) (break_none (code == 45))
part_letters font (Ligature code letters) =
    ap (λ ls. ls ++ letters_of_list (break_behind (is_hyphen_last letters))) (lig_letters (record { font = font.id; code = code; metrics = known (metrics_of font code); letters = letters }))
    ∙ ap (λ ls. letters ++ ls) (break_none (is_hyphen_last letters))
    ∙ append-nil letters

-- ---- a cursor

-- what stands in some nodes, in the part at the left and in those at the right
abbrev all_letters : List Node → WordPart → List WordPart → List ℕ
all_letters made left right = letters_of_list made ++ (letters_of left ++ flat_map letters_of right)

abbrev letters_of_cursor : Cursor → List ℕ
letters_of_cursor cursor = all_letters cursor.made cursor.left cursor.right

abbrev letters_of_found : Found → List ℕ
letters_of_found (End nodes) = letters_of_list nodes
letters_of_found (At cursor) = letters_of_cursor cursor

gone : (font : FontData) (made : List Node) (left : WordPart) (rest : List ℕ) → letters_of_list (made ++ nodes_of font left) ++ rest ≡ letters_of_list made ++ (letters_of left ++ rest)
gone font made left rest =
    ap (λ ls. ls ++ rest) (flat-append letters_of_node made (nodes_of font left) ∙ ap (λ ls. letters_of_list made ++ ls) (part_letters font left))
    ∙ append_assoc (letters_of_list made) (letters_of left) rest

kern_none : (width : ℤ) → letters_of_list (KernNode width Font ∷ []) ≡ []
kern_none width = ap (λ ls. ls ++ []) (kern_letters width)

gone_kern : (font : FontData) (width : ℤ) (made : List Node) (left : WordPart) (rest : List ℕ) → letters_of_list (made ++ (nodes_of font left ++ KernNode width Font ∷ [])) ++ rest ≡ letters_of_list made ++ (letters_of left ++ rest)
gone_kern font width made left rest =
    let behind : letters_of_list (nodes_of font left ++ KernNode width Font ∷ []) ≡ letters_of left =
    flat-append letters_of_node (nodes_of font left) (KernNode width Font ∷ []) ∙ ap (λ ls. letters_of_list (nodes_of font left) ++ ls) (kern_none width) ∙ append-nil (letters_of_list (nodes_of font left)) ∙ part_letters font left in
    ap (λ ls. ls ++ rest) (flat-append letters_of_node made (nodes_of font left ++ KernNode width Font ∷ []) ∙ ap (λ ls. letters_of_list made ++ ls) behind)
    ∙ append_assoc (letters_of_list made) (letters_of left) rest

one : (font : FontData) (cursor : Cursor) (right : List WordPart) → cursor.right ≡ right → letters_of_cursor (passed_one font cursor right) ≡ letters_of_cursor cursor
one font cursor [] is = refl
one font cursor (next ∷ right) is = gone font cursor.made cursor.left (letters_of next ++ flat_map letters_of right) ∙ ap (λ ps. all_letters cursor.made cursor.left ps) (sym is)

passed_letters : (font : FontData) (count : ℕ) (cursor : Cursor) → letters_of_cursor (passed font count cursor) ≡ letters_of_cursor cursor
passed_letters font zero cursor = refl
passed_letters font (suc more) cursor = passed_letters font more (passed_one font cursor cursor.right) ∙ one font cursor cursor.right refl

put : (code : ℕ) (keep_left keep_right : Bool) (made : List Node) (left next : WordPart) (right : List WordPart) → letters_of_cursor (with_ligature keep_left made left (joined code keep_left keep_right left next) (behind_ligature keep_right next right)) ≡ all_letters made left (next ∷ right)
put code true true made left next right = refl
put code true false made left next right = refl
put code false true made left next right = ap (λ ls. letters_of_list made ++ (ls ++ (letters_of next ++ flat_map letters_of right))) (append-nil (letters_of left))
put code false false made left next right = ap (λ ls. letters_of_list made ++ ls) (append_assoc (letters_of left) (letters_of next) (flat_map letters_of right))

found_letters : (font : FontData) (step : LigStep) (made : List Node) (left next : WordPart) (right : List WordPart) → letters_of_found (sought font (made ++ nodes_of font left) next right) ≡ all_letters (made ++ nodes_of font left) next right → letters_of_found (sought_by font step made left next right) ≡ all_letters made left (next ∷ right)
found_letters font Nothing made left next right further = further ∙ gone font made left (letters_of next ++ flat_map letters_of right)
found_letters font (Kern width) made left next right further = gone_kern font width made left (letters_of next ++ flat_map letters_of right)
found_letters font (Lig code keep_left keep_right pass) made left next right further =
    passed_letters font pass (with_ligature keep_left made left (joined code keep_left keep_right left next) (behind_ligature keep_right next right)) ∙ put code keep_left keep_right made left next right

sought_letters : (font : FontData) (made : List Node) (left : WordPart) (right : List WordPart) → letters_of_found (sought font made left right) ≡ all_letters made left right
unfolding sought
sought_letters font made left [] = flat-append letters_of_node made (nodes_of font left) ∙ ap (λ ls. letters_of_list made ++ ls) (part_letters font left ∙ sym (append-nil (letters_of left)))
sought_letters font made left (next ∷ right) =
    ap letters_of_found (sought_is font made left next right)
    ∙ found_letters font (step_of font (side_of left) (side_of next)) made left next right (sought_letters font (made ++ nodes_of font left) next right)

-- ---- words

ended : (font : FontData) (steps left : ℕ) (nodes made : List Node) (all : List ℕ) → letters_of_list nodes ≡ all → by_found font steps (End nodes) ≡ Some (made, left) → letters_of_list made ≡ all
ended font steps left nodes made all letters is =
    let same = same_pair nodes made steps left (sym (ended_found font steps nodes) ∙ is) in
    ap letters_of_list (sym same.0) ∙ letters

by_steps : (font : FontData) (steps left : ℕ) (made : List Node) (all : List ℕ) (found : Found) → letters_of_found found ≡ all → ((next : Cursor) (few : ℕ) → suc few ≡ steps → set_from font few next ≡ Some (made, left) → letters_of_list made ≡ letters_of_cursor next) → by_found font steps found ≡ Some (made, left) → letters_of_list made ≡ all
by_steps font zero left made all (At next) letters before is = let no : ⊥ = cc in absurd no
by_steps font zero left made all (End nodes) letters before is = ended font 0 left nodes made all letters is
by_steps font (suc steps) left made all (End nodes) letters before is = ended font (suc steps) left nodes made all letters is
by_steps font (suc steps) left made all (At next) letters before is = before next steps refl is ∙ letters

set_letters : (font : FontData) (steps left : ℕ) (made : List Node) (cursor : Cursor) → set_from font steps cursor ≡ Some (made, left) → letters_of_list made ≡ letters_of_cursor cursor
set_letters font zero left made cursor is =
    by_steps font 0 left made (letters_of_cursor cursor) (sought font cursor.made cursor.left cursor.right) (sought_letters font cursor.made cursor.left cursor.right)
    (λ next few past set. (let no : ⊥ = omega arith in absurd no))
    (sym (set_is font 0 cursor) ∙ is)
set_letters font (suc steps) left made cursor is =
    by_steps font (suc steps) left made (letters_of_cursor cursor) (sought font cursor.made cursor.left cursor.right) (sought_letters font cursor.made cursor.left cursor.right)
    (λ next few past set. (
    let same : few ≡ steps = omega arith in
    let Q : ℕ → Type 0 = λ n. set_from font n next ≡ Some (made, left) in
    set_letters font steps left made next (subst Q same set)))
    (sym (set_is font (suc steps) cursor) ∙ is)

codes_are : (codes : List ℕ) → flat_map letters_of (map Letter codes ++ Edge ∷ []) ≡ codes
codes_are [] = refl
codes_are (code ∷ codes) = ap (λ ls. code ∷ ls) (codes_are codes)

pub word-letters : (font : FontData) (steps left : ℕ) (nodes made : List Node) (codes : List ℕ) → set_word font steps nodes codes ≡ Some (made, left) → letters_of_list made ≡ letters_of_list nodes ++ codes
word-letters font steps left nodes made [] is =
    let same = same_pair nodes made steps left (sym (word_of_none font steps nodes) ∙ is) in
    ap letters_of_list (sym same.0) ∙ sym (append-nil (letters_of_list nodes))
word-letters font steps left nodes made (code ∷ codes) is =
    let all : List ℕ = code ∷ codes in
    set_letters font steps left made (word_start nodes all) (sym (word_is font steps nodes all (λ e. cc)) ∙ is)
    ∙ ap (λ ls. letters_of_list nodes ++ ls) (codes_are all)
