-- No word that is set and no page that is shipped leaves more steps than there were.
use Rattle.std.proofs.Common.{◌≡◌, ◌≤◌, ℕ, zero, suc, List, [], ◌∷◌, arith, refl}
use Rattle.std.specs.Prelude.{Option, Some, None, Result, Ok, Err, filter}
use Rattle.lb_base.specs.declared.fault.Kind.{Kind}
use Rattle.lb_base.specs.declared.node.Node.{Node}
use Rattle.lb_base.specs.declared.node.Note.{Note}
use Rattle.lb_base.specs.declared.node.Boxed.{Boxed, out-Boxed}
use Rattle.lb_base.specs.declared.page.PageCode.{PageCode}
use Rattle.lb_model.specs.declared.append.Append.TheVariants as append
use Rattle.lb_model_paper.specs.FoundFonts.{FontFound}
use Rattle.lb_model_paper.specs.declared.pages.HeadFoot.TheVariants.{Neither}
use Rattle.lb_model_paper.specs.Fonts.{FontData}
use Rattle.lb_model_paper.specs.Words.{Cursor, set_from, set_word, word_start}
use Rattle.lb_model_paper.specs.declared.pages.HeadFoot.{HeadFoot}
use Rattle.lb_model_paper.specs.declared.pages.PagePart.{PagePart}
use Rattle.lb_model_paper.specs.declared.pages.PageRules.{PageRules}
use Rattle.lb_model_nest.specs.Fonts.{font_to, present}
use Rattle.lb_model_nest.specs.Pages.{added, all_added, all_missing_logged, box_shipped, code_appended, digits_in, digits_made, digits_of, has_code, notes_of, page_text, digits_shown, lines_appended, notes_written, page_added, page_cleared, page_logged, pages_shipped, parts_shipped, ship, shipped_in}
use Rattle.lb_model_nest.specs.Wholes.{Executed, Whole, and_as, and_then, appended}
use Rattle.lb_model_nest.specs.declared.turn.Went.{Went}
use Rattle.lb_model_engine.specs.StepsLeft.{NeverRise as Falls}

and_as-falls : (n : ℕ) (way : Went) (e more : Executed) → e.done.next.feed.left ≤ n → more.done.next.feed.left ≤ n → (and_as way e more).done.next.feed.left ≤ n
and_as-falls n way e more h k = grind arith

pub and_then-falls : (n : ℕ) (e : Executed) (more : Whole → Executed) → Falls more → e.done.next.feed.left ≤ n → (and_then e more).done.next.feed.left ≤ n
and_then-falls n e more f h = and_as-falls n e.done.went e (more e.done.next) h (omega (arith, f e.done.next))

-- ---- Words

-- how many steps are left behind a word
abbrev pub left_behind : Option (List Node × ℕ) → ℕ
left_behind None = 0
left_behind (Some made) = made.1

set_from-falls : (font : FontData) (steps : ℕ) (cursor : Cursor) → left_behind (set_from font steps cursor) ≤ steps
unfolding set_from
set_from-falls font zero cursor = grind arith
set_from-falls font (suc steps) cursor = grind (arith, set_from-falls font steps)

pub set_word-falls : (font : FontData) (steps : ℕ) (nodes : List Node) (text : List ℕ) → left_behind (set_word font steps nodes text) ≤ steps
unfolding set_word
set_word-falls font steps nodes [] = omega arith
set_word-falls font steps nodes (code ∷ text) = set_from-falls font steps (word_start nodes (code ∷ text))

-- ---- Pages

all_missing-same : (font : FontData) (text : List ℕ) (w : Whole) → (all_missing_logged font text w).feed.left ≡ w.feed.left
all_missing-same font [] w = refl
all_missing-same font (code ∷ text) w = grind (arith, all_missing-same font text)

lines-same : (number : List ℕ) (notes : List Note) (w : Whole) → (lines_appended number notes w).feed.left ≡ w.feed.left
lines-same number [] w = refl
lines-same number (n ∷ notes) w = grind (arith, lines-same number notes)

notes-falls : (number : Option (List ℕ)) (notes : List Note) → Falls (notes_written number notes)
notes-falls number notes w = grind (arith, lines-same)

page_logged-falls : (items : List Node) → Falls (page_logged items)
page_logged-falls items w = grind arith

code_appended-falls : (items shown : List Node) (code : Result PageCode Kind) → Falls (code_appended items shown code)
code_appended-falls items shown (Err kind) w = omega arith
code_appended-falls items shown (Ok code) w =
    and_then-falls w.feed.left _ (page_logged items) (page_logged-falls items) (notes-falls (page_text w) (notes_of shown) (appended (append.Page code) w))

box_shipped-falls : (items : List Node) (box : Result Boxed Kind) → Falls (box_shipped items box)
box_shipped-falls items (Err kind) w = omega arith
box_shipped-falls items (Ok box) w = code_appended-falls items (out-Boxed box).items _ w

digits_made-falls : (n : ℕ) (made : Option (List Node × ℕ)) (row : List Node → Whole → Executed) (w : Whole)
    → ((nodes : List Node) → Falls (row nodes)) → w.feed.left ≤ n → left_behind made ≤ n → (digits_made made row w).done.next.feed.left ≤ n
digits_made-falls n None row w f h k = omega arith
digits_made-falls n (Some made) row w f h k = grind (arith, f)

digits_in-falls : (text : List ℕ) (font : FontData) (row : List Node → Whole → Executed)
    → ((nodes : List Node) → Falls (row nodes)) → Falls (digits_in text font row)
digits_in-falls text font row f w =
    let v = all_missing_logged font text w in
    digits_made-falls w.feed.left _ row v f (omega (arith, all_missing-same font text w)) (set_word-falls font w.feed.left [] (filter (has_code font) text))

font_to-falls : (found : FontFound) (file : List ℕ) (row : FontData → Whole → Executed)
    → ((font : FontData) → Falls (row font)) → Falls (font_to found file row)
font_to-falls found file row f w = grind (arith, f)

pub present-falls : (row : FontData → Whole → Executed) → ((font : FontData) → Falls (row font)) → Falls (present row)
present-falls row f w = font_to-falls _ _ row f w

digits_of-falls : (text : Option (List ℕ)) (row : List Node → Whole → Executed) → ((nodes : List Node) → Falls (row nodes)) → Falls (digits_of text row)
digits_of-falls None row f w = omega arith
digits_of-falls (Some text) row f w = font_to-falls _ _ (λ font v. digits_in text font row v) (λ font. digits_in-falls text font row f) w

digits_shown-falls : (which : HeadFoot) (row : List Node → Whole → Executed) → ((nodes : List Node) → Falls (row nodes)) → Falls (digits_shown which row)
digits_shown-falls Neither row f w = f [] w
digits_shown-falls which row f w = digits_of-falls (page_text w) row f w

shipped_in-falls : (which : HeadFoot) (part : PagePart) → Falls (shipped_in which part)
shipped_in-falls which part = digits_shown-falls which _ (λ digits v. box_shipped-falls part.items _ v)

ship-falls : (part : PagePart) → Falls (ship part)
unfolding ship
ship-falls part w = grind (arith, shipped_in-falls)

pages_shipped-falls : (pages : ℕ) (rules : PageRules) → Falls (pages_shipped pages rules)
unfolding pages_shipped
pages_shipped-falls zero rules w = omega arith
pages_shipped-falls (suc pages) rules w = grind (arith, ship-falls, pages_shipped-falls pages rules)

page_added-falls : (node : Node) → Falls (page_added node)
unfolding page_added
page_added-falls node w = grind (arith, pages_shipped-falls)

parts_shipped-falls : (parts : List PagePart) → Falls (parts_shipped parts)
parts_shipped-falls [] w = omega arith
parts_shipped-falls (part ∷ parts) w = and_then-falls w.feed.left (ship part w) (parts_shipped parts) (parts_shipped-falls parts) (ship-falls part w)

pub page_cleared-falls : Falls page_cleared
unfolding page_cleared
page_cleared-falls w = grind (arith, parts_shipped-falls)

pub added-falls : (node : Node) → Falls (added node)
unfolding added
added-falls node w = grind (arith, page_added-falls)

pub all_added-falls : (nodes : List Node) → Falls (all_added nodes)
unfolding all_added
all_added-falls [] w = omega arith
all_added-falls (node ∷ nodes) w = and_then-falls w.feed.left (added node w) (all_added nodes) (all_added-falls nodes) (added-falls node w)
