-- Pages: what is added to them, and what is shipped (TeXbook, chapters 15 and 23; tex.web, parts 32 and 45; source2e, files ltoutput and ltpage).
use Rattle.std.specs.Prelude.{◌+ℤ◌, ◌++◌, Bool, true, false, ℕ, zero, suc, ℤ, pos, List, [], ◌∷◌, filter, flat_map, length, codes, Option, Some, None, is_some, unwrap_or, Result, Ok, Err, if◌then◌else◌}
use Rattle.std.specs.Option.{option_or}
use Rattle.lb_base.specs.declared.fault.Kind.{Kind}
use Rattle.lb_base.specs.declared.fault.Kind.TheVariants.{CounterTooLarge, Overflow, StepLimit}
use Rattle.lb_base.specs.declared.node.Boxed.{Boxed, out-Boxed}
use Rattle.lb_base.specs.declared.node.Discretionary.{Discretionary, out-Discretionary}
use Rattle.lb_base.specs.declared.node.HeadMark.{HeadMark}
use Rattle.lb_base.specs.declared.node.HeadMark.TheOpen.{Boxed as InnerBox, Disc, Note as NoteLayer}
use Rattle.lb_base.specs.declared.node.Node.{Node, Node-F, out-Node}
use Rattle.lb_base.specs.declared.node.Note.{Note}
use Rattle.lb_base.specs.declared.node.Note.TheVariants as note
use Rattle.lb_base.specs.declared.page.PageCode.{PageCode}
use Rattle.lb_rows.specs.declared.parameter.Parameter.TheVariants.{EvenSideMargin, FootSkip, HeadHeight, HeadSep, MaxDepth, OddSideMargin, TextHeight, TextWidth, TopMargin, TopSkip}
use Rattle.lb_values.specs.declared.cell.Cell.{Cell}
use Rattle.lb_values.specs.declared.cell.Cell.TheVariants.{Counter, LeftMark, PageForm, PageStyle, Par, RightMark, ThisStyle}
use Rattle.lb_values.specs.declared.reach.Reach.TheVariants.{Global}
use Rattle.lb_values.specs.declared.value.Form.TheVariants.{Arabic}
use Rattle.lb_values.specs.declared.value.PageStyle.{PageStyle as APageStyle}
use Rattle.lb_values.specs.declared.value.PageStyle.TheVariants as style
use Rattle.lb_values.specs.declared.value.Value.TheVariants as value
use Rattle.lb_model_grammar.specs.Printed.{printed}
use Rattle.lb_model.specs.declared.append.Append.TheVariants as append
use Rattle.lb_model.specs.Forms.{in_form}
use Rattle.lb_model.specs.HeldNumbers.{held_of}
use Rattle.lb_model.specs.Kinds.{boxed_of, dimension_of, form_of, glue_of, number_of, page_style_of}
use Rattle.lb_model_paper.specs.Fonts.{FontData, metrics_of}
use Rattle.lb_model_paper.specs.Marks.{page_code_or_fault}
use Rattle.lb_model_paper.specs.PageBoxes.{page_box_of}
use Rattle.lb_model_paper.specs.PageMarks.{HeadBoxes, head_boxes, head_marks, last_left, last_right, levels}
use Rattle.lb_model_paper.specs.Pages.{all_parts, next_part, nodes_left}
use Rattle.lb_model_paper.specs.Words.{set_word}
use Rattle.lb_model_paper.specs.declared.pages.HeadFoot.{HeadFoot}
use Rattle.lb_model_paper.specs.declared.pages.HeadFoot.TheVariants.{Foot, Head, Neither}
use Rattle.lb_model_paper.specs.declared.pages.PageLengths.{PageLengths}
use Rattle.lb_model_paper.specs.declared.pages.PageLook.{PageLook}
use Rattle.lb_model_paper.specs.declared.pages.PagePart.{PagePart}
use Rattle.lb_model_paper.specs.declared.pages.PageRules.{PageRules}
use Rattle.lb_model_journal.specs.declared.event.Event.TheVariants as event
use Rattle.lb_model_journal.specs.LogLines.{log_line}
use Rattle.lb_model_journal.specs.Written.{contents_line, label_line}
use Rattle.lb_model_nest.specs.declared.nest.ListKind.{ListKind}
use Rattle.lb_model_nest.specs.declared.nest.ListKind.TheVariants as list
use Rattle.lb_model_nest.specs.Fonts.{in_number_font}
use Rattle.lb_model_nest.specs.Wholes.{Executed, Whole, and_then, appended, change, change_or, looking, on, stop, tells, with_node, without_steps}

-- ---- Characters that a font lacks

abbrev pub has_code : FontData → ℕ → Bool
has_code font code = is_some (metrics_of font code)

-- the log line of one
abbrev pub missing_logged : FontData → ℕ → Whole → Whole
missing_logged font code w = appended (append.Log (log_line (event.MissingCharacter code font.id.name))) w

abbrev pub all_missing_logged : FontData → List ℕ → Whole → Whole
all_missing_logged font [] w = w
all_missing_logged font (code ∷ text) w = all_missing_logged font text (if has_code font code then w else missing_logged font code w)

-- ---- How a page looks

abbrev pub page_counter : Cell
page_counter = Counter (codes "page")

abbrev pub page_number : Whole → ℤ
page_number w = number_of (tells w page_counter)

-- the number as it is shown, None where it is too large for its form
abbrev pub page_text : Whole → Option (List ℕ)
page_text w = in_form (unwrap_or (form_of (tells w PageForm)) Arabic) (page_number w)

-- the style of the page: its own, or that of all
abbrev pub style_now : Whole → APageStyle
style_now w = unwrap_or (option_or (page_style_of (tells w ThisStyle)) (page_style_of (tells w PageStyle))) style.Plain

abbrev pub head_foot : APageStyle → HeadFoot
head_foot style.Empty = Neither
head_foot style.Plain = Foot
head_foot style.Headings = Head
head_foot style.MyHeadings = Head

abbrev pub length_cells : List Cell
length_cells =
    Par TopMargin ∷ Par OddSideMargin ∷ Par EvenSideMargin ∷ Par TextWidth ∷ Par TextHeight ∷ Par HeadHeight ∷ Par HeadSep ∷ Par FootSkip ∷ []

abbrev pub page_lengths : Whole → PageLengths
page_lengths w =
    record {
      textwidth = dimension_of (tells w (Par TextWidth));
      textheight = dimension_of (tells w (Par TextHeight));
      headheight = dimension_of (tells w (Par HeadHeight));
      headsep = dimension_of (tells w (Par HeadSep));
      footskip = dimension_of (tells w (Par FootSkip));
      topmargin = dimension_of (tells w (Par TopMargin));
      oddsidemargin = dimension_of (tells w (Par OddSideMargin));
      evensidemargin = dimension_of (tells w (Par EvenSideMargin));
    }

-- the marks of a page that has a head: its own, or those that pages before it have left
abbrev pub carried_marks : Whole → HeadBoxes
carried_marks w = record { left = boxed_of (tells w LeftMark); right = boxed_of (tells w RightMark) }

abbrev pub marks_shown : HeadFoot → List Node → Whole → HeadBoxes
marks_shown Head items w = head_boxes (carried_marks w) items
marks_shown other items w = record { left = None; right = None }

abbrev pub mark_cells : HeadFoot → List Cell
mark_cells Head = LeftMark ∷ RightMark ∷ []
mark_cells other = []

abbrev pub page_look : HeadFoot → List Node → PagePart → Whole → PageLook
page_look which digits part w =
    let marks : HeadBoxes = marks_shown which part.items w in
    record { number = page_number w; digits = digits; style = which; left = marks.left; right = marks.right; lengths = page_lengths w }

-- the number as nodes: its characters make a word, and what the font lacks is logged
abbrev pub digits_made : Option (List Node × ℕ) → (List Node → Whole → Executed) → Whole → Executed
digits_made None row w = stop StepLimit (without_steps w)
digits_made (Some made) row w = row made.0 (record w { feed = record w.feed { left = made.1 } })

abbrev pub digits_in : List ℕ → FontData → (List Node → Whole → Executed) → Whole → Executed
digits_in text font row w = digits_made (set_word font w.feed.left [] (filter (has_code font) text)) row (all_missing_logged font text w)

abbrev pub digits_of : Option (List ℕ) → (List Node → Whole → Executed) → Whole → Executed
digits_of None row w = stop CounterTooLarge w
digits_of (Some text) row w = in_number_font (λ font v. digits_in text font row v) w

-- where head or foot shows it
abbrev pub digits_shown : HeadFoot → (List Node → Whole → Executed) → Whole → Executed
digits_shown Neither row w = row [] w
digits_shown other row w = digits_of (page_text w) row w

-- ---- The notes of a page

-- in the order of the box; those in footnotes, marks and material that no page shows are none
abbrev pub notes_in : (List Node → List Note) → Node-F HeadMark Node Boxed Discretionary → List Note
notes_in inner (NoteLayer n) = n ∷ []
notes_in inner (InnerBox box) = inner (out-Boxed box).items
notes_in inner (Disc parts) = inner (out-Discretionary parts).no_break
notes_in inner _ = []

unfoldable pub notes_of_node : (List Node → List Note) → Node → List Note
notes_of_node inner node = notes_in inner (out-Node node)

unfoldable pub notes_down : ℕ → List Node → List Note
notes_down zero nodes = []
notes_down (suc left) nodes = flat_map (notes_of_node (notes_down left)) nodes

unfoldable pub notes_of : List Node → List Note
notes_of nodes = notes_down (levels nodes) nodes

-- the line of a note on a page whose number is shown so
abbrev pub note_line : List ℕ → Note → List ℕ
note_line number (note.Label key text) = label_line key (record { text = text; page = number })
note_line number (note.Contents extension kind title) = contents_line extension (record { kind = kind; title = title; page = printed number })

abbrev pub lines_appended : List ℕ → List Note → Whole → Whole
lines_appended number [] w = w
lines_appended number (n ∷ notes) w = lines_appended number notes (appended (append.Aux (note_line number n)) w)

abbrev pub notes_written : Option (List ℕ) → List Note → Whole → Executed
notes_written number [] w = on w
notes_written None (n ∷ notes) w = stop CounterTooLarge w
notes_written (Some number) (n ∷ notes) w = on (lines_appended number (n ∷ notes) w)

-- ---- Shipping

-- the next page has the next number and no style of its own, and the marks of this one are carried on
abbrev pub mark_carried : Cell → Option Boxed → Whole → Executed
mark_carried cell None w = on w
mark_carried cell (Some box) w = change Global cell (value.Boxed box) w

abbrev pub marks_carried : List Node → Whole → Executed
marks_carried items w = and_then (mark_carried LeftMark (last_left (head_marks items)) w) (mark_carried RightMark (last_right (head_marks items)))

abbrev pub page_counted : Whole → Executed
page_counted w = change_or Overflow Global page_counter (held_of page_counter (page_number w +ℤ pos 1)) w

abbrev pub page_left : List Node → Whole → Executed
page_left items w = and_then (and_then (page_counted w) (change Global ThisStyle value.Absent)) (marks_carried items)

abbrev pub page_logged : List Node → Whole → Executed
page_logged items w = page_left items (appended (append.Log (log_line (event.Page (page_number w)))) w)

-- its code, the lines of its notes, its line in the log
abbrev pub code_appended : List Node → List Node → Result PageCode Kind → Whole → Executed
code_appended items shown (Err kind) w = stop kind w
code_appended items shown (Ok code) w = and_then (notes_written (page_text w) (notes_of shown) (appended (append.Page code) w)) (page_logged items)

abbrev pub box_shipped : List Node → Result Boxed Kind → Whole → Executed
box_shipped items (Err kind) w = stop kind w
box_shipped items (Ok box) w = code_appended items (out-Boxed box).items (page_code_or_fault (page_number w) box) w

abbrev pub shipped_in : HeadFoot → PagePart → Whole → Executed
shipped_in which part w = digits_shown which (λ digits v. box_shipped part.items (page_box_of part (page_look which digits part v)) v) w

-- a page is shipped
unfoldable pub ship : PagePart → Whole → Executed
ship part w =
    let which : HeadFoot = head_foot (style_now w) in
    looking (page_counter ∷ PageForm ∷ PageStyle ∷ ThisStyle ∷ []) (looking length_cells (looking (mark_cells which) (shipped_in which part w)))

-- ---- The list of pages

abbrev pub page_cells : List Cell
page_cells = Par TextHeight ∷ Par TopSkip ∷ Par MaxDepth ∷ []

abbrev pub page_rules : Whole → PageRules
page_rules w =
    record {
      textheight = dimension_of (tells w (Par TextHeight));
      topskip = glue_of (tells w (Par TopSkip));
      maxdepth = dimension_of (tells w (Par MaxDepth));
    }

-- the page that ends, if one does; what is left stays
abbrev pub part_to : Result (Option PagePart) Kind → List Node → (PagePart → Whole → Executed) → Whole → Executed
part_to (Err kind) rest row w = stop kind w
part_to (Ok None) rest row w = on w
part_to (Ok (Some part)) rest row w = row part (record w { page = rest })

-- the pages that end are shipped, at most so many
unfoldable pub pages_shipped : ℕ → PageRules → Whole → Executed
pages_shipped zero rules w = on w
pages_shipped (suc pages) rules w =
    part_to (next_part rules w.page) (nodes_left rules w.page) (λ part v. and_then (ship part v) (pages_shipped pages rules)) w

-- a node is added, and what ends is shipped; each page takes a node at least
unfoldable pub page_added : Node → Whole → Executed
page_added node w =
    let v : Whole = record w { page = w.page ++ node ∷ [] } in looking page_cells (pages_shipped (suc (length v.page)) (page_rules v) v)

-- the page is cleared: all of the list is shipped
abbrev pub parts_shipped : List PagePart → Whole → Executed
parts_shipped [] w = on w
parts_shipped (part ∷ parts) w = and_then (ship part w) (parts_shipped parts)

abbrev pub all_shipped : Result (List PagePart) Kind → Whole → Executed
all_shipped (Err kind) w = stop kind w
all_shipped (Ok parts) w = parts_shipped parts (record w { page = [] })

unfoldable pub page_cleared : Whole → Executed
page_cleared w = looking page_cells (all_shipped (all_parts (page_rules w) w.page) w)

-- ---- The innermost list

abbrev pub is_page : ListKind → Bool
is_page list.Page = true
is_page kind = false

-- a node is added to the innermost list
unfoldable pub added : Node → Whole → Executed
added node w = if is_page w.level.kind then page_added node w else on (with_node node w)

unfoldable pub all_added : List Node → Whole → Executed
all_added [] w = on w
all_added (node ∷ nodes) w = and_then (added node w) (all_added nodes)
