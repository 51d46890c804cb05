-- Pages that are shipped, by what the cells tell of them.
use Rattle.std.proofs.Common.{◌≡◌, ◌∙◌, ◌≤◌, ◌<◌, ◌++◌, ℕ, zero, suc, ℤ, List, [], ◌∷◌, Some, None, ap, arith, refl, sym}
use Rattle.std.specs.Prelude.{Option, Result, Ok, Err, filter, pos}
use Rattle.lb_base.specs.declared.fault.Kind.{Kind}
use Rattle.lb_base.specs.declared.fault.Kind.TheVariants.{Overflow}
use Rattle.lb_base.specs.declared.node.Boxed.{Boxed, out-Boxed}
use Rattle.lb_base.specs.declared.node.Node.{Node}
use Rattle.lb_base.specs.declared.node.Note.{Note}
use Rattle.lb_base.specs.declared.page.PageCode.{PageCode}
use Rattle.lb_values.specs.declared.cell.Cell.TheVariants.{File}
use Rattle.lb_model.specs.declared.append.Append.{Append}
use Rattle.lb_model.specs.declared.append.Append.TheVariants as append
use Rattle.lb_model.specs.declared.cells.Cells.{Ghosts}
use Rattle.lb_model.specs.declared.group.Group.{Group}
use Rattle.lb_model.specs.HeldNumbers.{held_of}
use Rattle.lb_model.specs.Kinds.{text_of as text_in}
use Rattle.lb_model_paper.specs.Fonts.{FontData}
use Rattle.lb_model_paper.specs.FoundFonts.{FontFound, Found, Missing, Broken, font_found}
use Rattle.lb_model_paper.specs.Marks.{page_code_or_fault}
use Rattle.lb_model_paper.specs.PageBoxes.{page_box_of}
use Rattle.lb_model_paper.specs.PageMarks.{HeadBoxes}
use Rattle.lb_model_paper.specs.Pages.{left_in, next_part, nodes_left, page_end, page_in}
use Rattle.lb_model_paper.specs.Words.{set_word}
use Rattle.lb_model_paper.specs.declared.pages.HeadFoot.{HeadFoot}
use Rattle.lb_model_paper.specs.declared.pages.HeadFoot.TheVariants.{Foot, Head, Neither}
use Rattle.lb_model_paper.specs.declared.pages.PageLengths.{PageLengths}
use Rattle.lb_model_paper.specs.declared.pages.PageLook.{PageLook}
use Rattle.lb_model_paper.specs.declared.pages.PagePart.{PagePart}
use Rattle.lb_model_paper.specs.declared.pages.PageRules.{PageRules}
use Rattle.lb_model_nest.specs.Fonts.{font_to, looks_of_number_font, number_file, number_font}
use Rattle.lb_model_nest.specs.Pages.{box_shipped, code_appended, digits_in, digits_made, digits_of, digits_shown, has_code, length_cells, lines_appended, mark_cells, marks_shown, note_line, notes_of, notes_written, page_added, page_cells, page_cleared, page_lengths, page_look, page_number, page_rules, page_text, pages_shipped, part_to, ship, shipped_in}
use Rattle.lb_model_nest.specs.Wholes.{Executed, Whole, and_as, and_then, appended, looking, on, stop, tells}
use Rattle.lb_nest.specs.Appends.{missing_appends}
use Rattle.lb_nest.specs.Pages.{behind_part, box_put, code_put, counted, digits_with, head_parts, last_marks, logged, look_of, look_put, numbering, numbering_cells, page_ended, pages_ended, rest_shipped, shipped_with}
use Rattle.lb_nest.specs.Works.{Works}
use Rattle.lb_nest.specs.declared.nest.Nest.{Nest}
use Rattle.lb_nest.specs.declared.numbering.HeadParts.{HeadParts}
use Rattle.lb_nest.specs.declared.numbering.Numbering.{Numbering}
use Rattle.lb_nest.specs.declared.pages.Taken.{Taken}
use Rattle.lb_nest.proofs.AppendLemmas.{missing-added, with_appends}
use Rattle.lb_nest.proofs.LoopLemmas.{Led, led-as, led-nest}

-- ---- Cells stay as notes and lines are added

lines-kept : (number : List ℕ) (notes : List Note) (w : Whole) → page_number (lines_appended number notes w) ≡ page_number w
lines-kept number [] w = refl
lines-kept number (n ∷ notes) w = lines-kept number notes (appended (append.Aux (note_line number n)) w)

number-kept : (text : Option (List ℕ)) (notes : List Note) (w : Whole) → page_number (notes_written text notes w).done.next ≡ page_number w
number-kept text [] w = refl
number-kept None (n ∷ notes) w = refl
number-kept (Some number) (n ∷ notes) w = lines-kept number (n ∷ notes) w

-- ---- A box

code-same : (items shown : List Node) (code : Result PageCode Kind) (w : Whole) → code_appended items shown code w ≡ code_put (numbering w) (last_marks items) shown code w
code-same items shown (Err kind) w = refl
code-same items shown (Ok code) w =
    let e : Executed = notes_written (page_text w) (notes_of shown) (appended (append.Page code) w) in
    ap (and_as e.done.went e) (ap (λ n. logged n (last_marks items) e.done.next) (number-kept (page_text w) (notes_of shown) (appended (append.Page code) w)))

box-same : (items : List Node) (box : Result Boxed Kind) (w : Whole) → box_shipped items box w ≡ box_put (numbering w) (last_marks items) box w
box-same items (Err kind) w = refl
box-same items (Ok box) w = code-same items (out-Boxed box).items (page_code_or_fault (page_number w) box) w

-- ---- The nodes of the number

-- appends and steps stand apart from the cells
abbrev after : List Append → ℕ → Whole → Whole
after appends left w = record w { feed = record w.feed { appends = appends; left = left } }

abbrev Same : (List Node → Whole → Executed) → (List Node → Whole → Executed) → Whole → Type 0
Same row other w = (nodes : List Node) (appends : List Append) (left : ℕ) → row nodes (after appends left w) ≡ other nodes (after appends left w)

made-same : (made : Option (List Node × ℕ)) (row other : List Node → Whole → Executed) (l : List Append) (w : Whole) → Same row other w → digits_made made row (with_appends l w) ≡ digits_made made other (with_appends l w)
made-same None row other l w same = refl
made-same (Some made) row other l w same = same made.0 (w.feed.appends ++ l) made.1

in-same : (text : List ℕ) (font : FontData) (row other : List Node → Whole → Executed) (w : Whole) → Same row other w → digits_in text font row w ≡ digits_in text font other w
in-same text font row other w same =
    let made = set_word font w.feed.left [] (filter (has_code font) text) in
    let logs = missing-added font text w in
    ap (digits_made made row) logs ∙ made-same made row other (missing_appends font text) w same ∙ sym (ap (digits_made made other) logs)

font-same : (f : FontFound) (file : List ℕ) (row other : FontData → Whole → Executed) (w : Whole) → ((font : FontData) → row font w ≡ other font w) → font_to f file row w ≡ font_to f file other w
font-same (Found font) file row other w same = same font
font-same Missing file row other w same = refl
font-same (Broken word) file row other w same = refl

of-same : (text : Option (List ℕ)) (row other : List Node → Whole → Executed) (w : Whole) → Same row other w → digits_of text row w ≡ digits_of text other w
of-same None row other w same = refl
of-same (Some text) row other w same =
    ap (looking (looks_of_number_font w)) (font-same (font_found (text_in (tells w (File (number_file w)))) number_font.0 number_font.1) (number_file w) (λ font v. digits_in text font row v) (λ font v. digits_in text font other v) w (λ font. in-same text font row other w same))

shown-same : (style : HeadFoot) (row other : List Node → Whole → Executed) (w : Whole) → Same row other w → digits_shown style row w ≡ digits_with style (page_text w) other w
shown-same Neither row other w same = same [] w.feed.appends w.feed.left
shown-same Foot row other w same = of-same (page_text w) row other w same
shown-same Head row other w same = of-same (page_text w) row other w same

-- ---- A page

abbrev pub by_head : PagePart → Numbering → PageLengths → HeadParts → Whole → Executed
by_head part n lengths head w = shipped_with n (look_of n lengths head) part w

abbrev pub by_lengths : PagePart → Numbering → PageLengths → Whole → Executed
by_lengths part n lengths w = looking (mark_cells n.style) (by_head part n lengths (head_parts n.style part.items w) w)

abbrev pub by_number : PagePart → Numbering → Whole → Executed
by_number part n w = looking length_cells (by_lengths part n (page_lengths w) w)

marks-kept : (style : HeadFoot) (items : List Node) (appends : List Append) (left : ℕ) (w : Whole) → marks_shown style items (after appends left w) ≡ marks_shown style items w
marks-kept Neither items appends left w = refl
marks-kept Foot items appends left w = refl
marks-kept Head items appends left w = refl

abbrev look_with : HeadFoot → List Node → Whole → HeadBoxes → PageLook
look_with style digits w marks = record { number = page_number w; digits = digits; style = style; left = marks.left; right = marks.right; lengths = page_lengths w }

in-shipped : (part : PagePart) (w : Whole) → shipped_in (numbering w).style part w ≡ by_head part (numbering w) (page_lengths w) (head_parts (numbering w).style part.items w) w
in-shipped part w =
    let style = (numbering w).style in
    shown-same style (λ digits v. box_shipped part.items (page_box_of part (page_look style digits part v)) v)
    (λ digits v. look_put (numbering w) part (page_look style digits part w) v) w
    (λ nodes appends left.
    ap (λ (m : HeadBoxes). box_shipped part.items (page_box_of part (look_with style nodes w m)) (after appends left w)) (marks-kept style part.items appends left w)
    ∙ box-same part.items (page_box_of part (page_look style nodes part w)) (after appends left w))

ship-at : (part : PagePart) (w : Whole) → ship part w ≡ looking numbering_cells (by_number part (numbering w) w)
unfolding ship
ship-at part w = ap (λ e. looking numbering_cells (looking length_cells (looking (mark_cells (numbering w).style) e))) (in-shipped part w)

pub ship-is : (part : PagePart) → ship part ≡ (λ w. looking numbering_cells (by_number part (numbering w) w))
ship-is part i w = ship-at part w i

-- ---- Pages that end

pub pages-more : (pages : ℕ) (rules : PageRules) → pages_shipped (suc pages) rules ≡ page_ended rules (λ part v. and_then (ship part v) (pages_shipped pages rules))
unfolding pages_shipped
pages-more pages rules = refl

-- where none ends, all of the list is left
end-left : (rules : PageRules) (nodes : List Node) (end : Result (Option ℕ) Kind) → page_in rules nodes end ≡ Ok None → left_in nodes end ≡ nodes
end-left rules nodes (Ok None) e = refl
end-left rules nodes (Ok (Some end)) e = cc
end-left rules nodes (Err kind) e = refl

none-left : (rules : PageRules) (nodes : List Node) → next_part rules nodes ≡ Ok None → nodes_left rules nodes ≡ nodes
unfolding next_part nodes_left
none-left rules nodes e = end-left rules nodes (page_end rules nodes) e

-- no page ends
pub none-ends : (rules : PageRules) (row : PagePart → Whole → Executed) (w : Whole) (page : List Node) → next_part rules w.page ≡ Ok None → page ≡ nodes_left rules w.page → page_ended rules row w ≡ on (record w { page = page })
none-ends rules row w page e left =
    ap (λ r. part_to r (nodes_left rules w.page) row w) e ∙ (λ i. on (record w { page = sym (left ∙ none-left rules w.page e) i }))

abbrev pub more_behind : ℕ → PageRules → PagePart → Whole → Executed
more_behind pages rules part w = and_then (ship part w) (pages_shipped pages rules)

pub taken-led : {S E : Type 0} {C : Ghosts S} {act : Whole → Executed} (pages : ℕ) (rules : PageRules) (found : Taken) {m : S} {gm : List Group} {lm : ℕ} {nm nn : Nest} {old : S} {go : List Group} {lo : ℕ} {no : Nest}
    → Led C act (pages_shipped (suc pages) rules) m gm lm nm old go lo no → Works {E = E} (page_ended rules (more_behind pages rules)) (behind_part (more_behind pages rules)) (Ok found) lm nn lm nm
    → Led C act (behind_part (more_behind pages rules) found) m gm lm nn old go lo no
taken-led pages rules found {m} {gm} so-far works =
    led-nest (behind_part (more_behind pages rules) found) works.shelf (λ w p k. works.works w p k gm) (led-as (pages-more pages rules) so-far)

-- ---- Pages that are added to and cleared

abbrev pub with_last : Node → Whole → Whole
with_last node w = record w { page = w.page ++ node ∷ [] }

pub added-is : (node : Node) → page_added node ≡ (λ w. looking page_cells (pages_ended (page_rules w) (with_last node w)))
unfolding page_added
added-is node = refl

pub cleared-is : page_cleared ≡ (λ w. looking page_cells (rest_shipped (page_rules w) w))
unfolding page_cleared
cleared-is = refl

-- one fewer is left
pub fewer : (pages left after : ℕ) → after < left → left ≤ pages → (n : ℕ) × (pages ≡ suc n) × (after ≤ n)
fewer zero left after h e = (0, omega arith, omega arith)
fewer (suc n) left after h e = (n, refl, omega arith)

-- ---- The number of the next page

pub no-next : (n : ℤ) → n ≡ pos 2147483647 → (w : Whole) → counted n w ≡ stop Overflow w
unfolding held_of
no-next n e w = ap (λ m. counted m w) e
