-- Pages that end and are shipped, by what the cells have told of them.
use Rattle.std.specs.Prelude.{◌+ℤ◌, ⊤, ℕ, suc, ℤ, pos, List, [], ◌∷◌, length, Option, Result, Ok, Err, unwrap_or}
use Rattle.lb_base.specs.declared.fault.Kind.{Kind}
use Rattle.lb_base.specs.declared.fault.Kind.TheVariants.{Overflow}
use Rattle.lb_base.specs.declared.node.Boxed.{Boxed, out-Boxed}
use Rattle.lb_base.specs.declared.node.Node.{Node}
use Rattle.lb_base.specs.declared.page.PageCode.{PageCode}
use Rattle.lb_values.specs.declared.cell.Cell.{Cell}
use Rattle.lb_values.specs.declared.cell.Cell.TheVariants.{LeftMark, PageForm, PageStyle, RightMark, ThisStyle}
use Rattle.lb_values.specs.declared.reach.Reach.TheVariants.{Global}
use Rattle.lb_values.specs.declared.value.Form.TheVariants.{Arabic}
use Rattle.lb_values.specs.declared.value.Value.TheVariants as value
use Rattle.lb_model.specs.declared.append.Append.TheVariants as append
use Rattle.lb_model.specs.Forms.{in_form}
use Rattle.lb_model.specs.HeldNumbers.{held_of}
use Rattle.lb_model.specs.Kinds.{form_of}
use Rattle.lb_model_paper.specs.Lines.{interline}
use Rattle.lb_model_paper.specs.Marks.{page_code_or_fault}
use Rattle.lb_model_paper.specs.PageBoxes.{page_box_of}
use Rattle.lb_model_paper.specs.PageMarks.{HeadBoxes, head_marks, last_left, last_right}
use Rattle.lb_model_paper.specs.Pages.{all_parts, next_part, nodes_left}
use Rattle.lb_model_paper.specs.declared.pages.HeadFoot.{HeadFoot}
use Rattle.lb_model_paper.specs.declared.pages.HeadFoot.TheVariants.{Foot, Head, Neither}
use Rattle.lb_model_paper.specs.declared.pages.PageLengths.{PageLengths}
use Rattle.lb_model_paper.specs.declared.pages.PageLook.{PageLook}
use Rattle.lb_model_paper.specs.declared.pages.PagePart.{PagePart}
use Rattle.lb_model_paper.specs.declared.pages.PageRules.{PageRules}
use Rattle.lb_model_paper.specs.declared.paragraph.LineRules.{LineRules}
use Rattle.lb_model_journal.specs.declared.event.Event.TheVariants as event
use Rattle.lb_model_journal.specs.LogLines.{log_line}
use Rattle.lb_model_nest.specs.Pages.{all_shipped, digits_of, head_foot, mark_carried, marks_shown, notes_of, notes_written, page_counter, page_number, pages_shipped, part_to, style_now}
use Rattle.lb_model_nest.specs.Paragraphs.{behind_glue}
use Rattle.lb_model_nest.specs.Wholes.{Executed, Whole, and_then, appended, change, change_or, executed, on, stop, tells}
use Rattle.lb_nest.specs.declared.digits.Digits.{Digits}
use Rattle.lb_nest.specs.declared.digits.Digits.TheVariants as made
use Rattle.lb_nest.specs.declared.numbering.HeadParts.{HeadParts}
use Rattle.lb_nest.specs.declared.numbering.LastMarks.{LastMarks}
use Rattle.lb_nest.specs.declared.numbering.Numbering.{Numbering}
use Rattle.lb_nest.specs.declared.pages.Taken.{Taken}
use Rattle.lb_nest.specs.declared.pages.Taken.TheVariants as taken

-- ---- What the cells tell

-- how a page is numbered
abbrev pub numbering : Whole → Numbering
numbering w = record { number = page_number w; form = unwrap_or (form_of (tells w PageForm)) Arabic; style = head_foot (style_now w) }

-- the cells that tell how it is numbered
abbrev pub numbering_cells : List Cell
numbering_cells = page_counter ∷ PageForm ∷ PageStyle ∷ ThisStyle ∷ []

-- the number as it is shown
abbrev pub number_text : Numbering → Option (List ℕ)
number_text n = in_form n.form n.number

-- the marks that the head of a page with these items shows
abbrev pub head_parts : HeadFoot → List Node → Whole → HeadParts
head_parts style items w = let marks : HeadBoxes = marks_shown style items w in record { left = marks.left; right = marks.right }

-- the last marks of a page with these items
abbrev pub last_marks : List Node → LastMarks
last_marks items = record { left = last_left (head_marks items); right = last_right (head_marks items) }

-- ---- The number as nodes

-- where head or foot shows it
abbrev pub digits_with : HeadFoot → Option (List ℕ) → (List Node → Whole → Executed) → Whole → Executed
digits_with Neither text row w = row [] w
digits_with Foot text row w = digits_of text row w
digits_with Head text row w = digits_of text row w

-- this is done with the nodes, or there is a fault
abbrev pub behind_digits : (List Node → Whole → Executed) → Digits → Whole → Executed
behind_digits row (made.Made nodes) w = row nodes w
behind_digits row (made.Stops went) w = executed went w

-- ---- What a page leaves behind it

-- the last marks are carried on
abbrev pub marks_left : LastMarks → Whole → Executed
marks_left marks w = and_then (mark_carried LeftMark marks.left w) (mark_carried RightMark marks.right)

-- the next page has the number behind this one
abbrev pub counted : ℤ → Whole → Executed
counted number w = change_or Overflow Global page_counter (held_of page_counter (number +ℤ pos 1)) w

-- and no style of its own
abbrev pub next_begun : ℤ → Whole → Executed
next_begun number w = and_then (counted number w) (change Global ThisStyle value.Absent)

-- and then the marks are carried on
abbrev pub page_behind : ℤ → LastMarks → Whole → Executed
page_behind number marks w = and_then (next_begun number w) (marks_left marks)

-- the line of a page in the log
abbrev pub logged : ℤ → LastMarks → Whole → Executed
logged number marks w = page_behind number marks (appended (append.Log (log_line (event.Page number))) w)

-- ---- Shipping

-- the notes of a page are written, and then the page's line
abbrev pub notes_put : Numbering → LastMarks → List Node → Whole → Executed
notes_put n marks shown w = and_then (notes_written (number_text n) (notes_of shown) w) (logged n.number marks)

-- the code of a page stands before them, if it has one
abbrev pub code_put : Numbering → LastMarks → List Node → Result PageCode Kind → Whole → Executed
code_put n marks shown (Err kind) w = stop kind w
code_put n marks shown (Ok code) w = notes_put n marks shown (appended (append.Page code) w)

-- the box of a page, if it has one, is drawn
abbrev pub box_put : Numbering → LastMarks → Result Boxed Kind → Whole → Executed
box_put n marks (Err kind) w = stop kind w
box_put n marks (Ok box) w = code_put n marks (out-Boxed box).items (page_code_or_fault n.number box) w

-- a page with a look
abbrev pub look_put : Numbering → PagePart → PageLook → Whole → Executed
look_put n part look w = box_put n (last_marks part.items) (page_box_of part look) w

-- the look that the cells give a page, but for the nodes of its number
abbrev pub look_of : Numbering → PageLengths → HeadParts → PageLook
look_of n lengths head = record { number = n.number; digits = []; style = n.style; left = head.left; right = head.right; lengths = lengths }

-- a page whose look lacks the nodes of the number
abbrev pub shipped_with : Numbering → PageLook → PagePart → Whole → Executed
shipped_with n look part w = digits_with look.style (number_text n) (λ digits v. look_put n part (record look { digits = digits }) v) w

-- ---- Pages that end

-- the page that ends, if one does
abbrev pub page_ended : PageRules → (PagePart → Whole → Executed) → Whole → Executed
page_ended rules row w = part_to (next_part rules w.page) (nodes_left rules w.page) row w

-- this is done with the page that ends, or none does, or there is a fault
abbrev pub behind_part : (PagePart → Whole → Executed) → Taken → Whole → Executed
behind_part row (taken.Part part) w = row part w
behind_part row taken.Nothing w = on w
behind_part row (taken.Stops kind) w = stop kind w

-- something holds where a page was taken
abbrev pub OnPart : Taken → Type 0 → Type 0
OnPart (taken.Part part) P = P
OnPart taken.Nothing P = ⊤
OnPart (taken.Stops kind) P = ⊤

-- all pages that end
abbrev pub pages_ended : PageRules → Whole → Executed
pages_ended rules w = pages_shipped (suc (length w.page)) rules w

-- all that is left
abbrev pub rest_shipped : PageRules → Whole → Executed
rest_shipped rules w = all_shipped (all_parts rules w.page) w

-- ---- Boxes in vertical lists

-- a box is added by these rules
abbrev pub box_with : LineRules → Boxed → Whole → Executed
box_with rules box w = behind_glue (interline rules w.level.prev_depth (out-Boxed box).height) box w
