-- Lists of items and displayed paragraphs (source2e, file ltlists; the lengths are this project's own).
use Rattle.std.specs.Prelude.{◌+ℤ◌, ◌-◌, ◌++◌, ◌==◌, ◌||◌, Bool, true, false, ℕ, ℤ, pos, nat_le, List, [], ◌∷◌, codes, filter, get_or, length, Option, Some, None, unwrap_or, if◌then◌else◌}
use Rattle.lb_base.specs.declared.fault.Kind.TheVariants.{BadCode, ItemOutside, Overflow, TooDeep, WrongMode}
use Rattle.lb_base.specs.declared.glue.Glue.{Glue}
use Rattle.lb_base.specs.declared.glue.Order.TheVariants.{Fil, Finite}
use Rattle.lb_base.specs.declared.node.Node.{Glue as GlueNode}
use Rattle.lb_base.specs.declared.token.Tok.{Tok}
use Rattle.lb_base.specs.declared.token.Tok.TheVariants as token
use Rattle.lb_rows.specs.declared.parameter.Parameter.{Parameter}
use Rattle.lb_rows.specs.declared.parameter.Parameter.TheVariants.{LeftSkip, ParFillSkip, ParIndent, RightSkip}
use Rattle.lb_values.specs.declared.cell.Cell.TheVariants as cell
use Rattle.lb_values.specs.declared.reach.Reach.TheVariants.{Global, Local}
use Rattle.lb_values.specs.declared.value.Value.TheVariants as value
use Rattle.lb_model.specs.Assignments.{glue_value}
use Rattle.lb_model.specs.FontTable.{row}
use Rattle.lb_model.specs.Kinds.{glue_of, no_glue}
use Rattle.lb_model_counters.specs.Counters.{printer_name, step_counter}
use Rattle.lb_model_nest.specs.declared.display.Display.{Display}
use Rattle.lb_model_nest.specs.declared.display.Display.TheVariants.{Itemize, Enumerate, Description, Quote, Quotation, Center, FlushLeft, FlushRight}
use Rattle.lb_model_engine.specs.Counting.{effected}
use Rattle.lb_model_nest.specs.Pages.{added}
use Rattle.lb_model_nest.specs.Paragraphs.{begun_in_vertical, paragraph_ended}
use Rattle.lb_model_engine.specs.Reads.{bracket, number, reading}
use Rattle.lb_model_engine.specs.Texts.{tokens_of_text}
use Rattle.lb_model_nest.specs.Wholes.{Executed, Whole, and_then, change, change_or, is_restricted, looking, on, put, stop, tells}

-- tokens of a text that is known
abbrev pub toks : List ℕ → List Tok
toks text = unwrap_or (tokens_of_text text) []

-- ---- Margins and counters

-- the margin at each depth: 25pt, 22pt, 18.7pt, 17pt, and 10pt from the fifth on
abbrev pub margins : List ℤ
margins = pos 1638400 ∷ pos 1441792 ∷ pos 1225523 ∷ pos 1114112 ∷ pos 655360 ∷ pos 655360 ∷ []

abbrev pub margin_texts : List (List ℕ)
margin_texts = codes "25pt" ∷ codes "22pt" ∷ codes "18.7pt" ∷ codes "17pt" ∷ codes "10pt" ∷ codes "10pt" ∷ []

abbrev pub margin_at : ℕ → ℤ
margin_at depth = get_or margins (depth - 1) (pos 0)

abbrev pub is_itemize : Display → Bool
is_itemize Itemize = true
is_itemize kind = false

abbrev pub is_enumerate : Display → Bool
is_enumerate Enumerate = true
is_enumerate kind = false

-- how many open lists have marks, and how many are numbered
abbrev pub marked_lists : List Display → ℕ
marked_lists lists = length (filter is_itemize lists)

abbrev pub numbered_lists : List Display → ℕ
numbered_lists lists = length (filter is_enumerate lists)

-- the counters of numbered lists inside one another
abbrev pub item_counters : List (List ℕ)
item_counters = codes "enumi" ∷ codes "enumii" ∷ codes "enumiii" ∷ codes "enumiv" ∷ []

abbrev pub item_counter : List Display → List ℕ
item_counter lists = get_or item_counters (numbered_lists lists - 1) []

-- ---- `\@list`

-- six lists may be open, four with marks and four that are numbered
abbrev pub has_four : Display → List Display → Bool
has_four Itemize lists = nat_le 4 (marked_lists lists)
has_four Enumerate lists = nat_le 4 (numbered_lists lists)
has_four kind lists = false

abbrev pub is_too_deep : Display → List Display → Bool
is_too_deep kind lists = nat_le 6 (length lists) || has_four kind lists

-- 8pt plus 2pt minus 4pt
abbrev pub list_skip : Glue
list_skip = record { width = pos 524288; stretch = pos 131072; stretch_order = Finite; shrink = pos 262144; shrink_order = Finite }

abbrev pub skip_added : Whole → Executed
skip_added w = added (GlueNode list_skip) w

-- a glue has a width more
abbrev pub wider : ℤ → Glue → Glue
wider n g = record g { width = g.width +ℤ n }

abbrev pub margin_added : Parameter → ℤ → Whole → Executed
margin_added p n w = looking (cell.Par p ∷ []) (change_or Overflow Local (cell.Par p) (glue_value (wider n (glue_of (tells w (cell.Par p))))) w)

abbrev pub indent_set : ℤ → Whole → Executed
indent_set n w = change Local (cell.Par ParIndent) (value.Dimen n) w

abbrev pub left_margin : ℤ → Whole → Executed
left_margin indent w = and_then (margin_added LeftSkip (margin_at (length w.lists)) w) (indent_set indent)

abbrev pub both_margins : ℤ → Whole → Executed
both_margins indent w = and_then (left_margin indent w) (margin_added RightSkip (margin_at (length w.lists)))

-- each state has the counters of numbered lists
abbrev pub numbered_margin : Whole → Executed
numbered_margin w = and_then (left_margin (pos 0) w) (change Global (cell.Counter (item_counter w.lists)) (value.Number (pos 0)))

-- lines at the right
abbrev pub fil_glue : Glue
fil_glue = record no_glue { stretch = pos 65536; stretch_order = Fil }

abbrev pub at_right : Whole → Executed
at_right w =
    and_then
    (and_then (change Local (cell.Par LeftSkip) (value.Glue fil_glue) w) (change Local (cell.Par ParFillSkip) (value.Glue no_glue)))
    (indent_set (pos 0))

abbrev pub list_set : Display → Whole → Executed
list_set Itemize w = left_margin (pos 0) w
list_set Enumerate w = numbered_margin w
list_set Description w = left_margin (pos 0) w
list_set Quote w = both_margins (pos 0) w
list_set Quotation w = both_margins (pos 983040) w
list_set Center w = put (token.Word (codes "centering") ∷ []) w
list_set FlushLeft w = put (token.Word (codes "raggedright") ∷ []) w
list_set FlushRight w = at_right w

abbrev pub list_open : Display → Whole → Whole
list_open kind w = record w { lists = kind ∷ w.lists }

abbrev pub list_begun : Display → Whole → Executed
list_begun kind w =
    if is_too_deep kind w.lists then stop TooDeep w
    else and_then (and_then (paragraph_ended w) skip_added) (λ v. list_set kind (list_open kind v))

-- the kinds by their numbers
abbrev pub kinds : List Display
kinds = Itemize ∷ Enumerate ∷ Description ∷ Quote ∷ Quotation ∷ Center ∷ FlushLeft ∷ FlushRight ∷ []

abbrev pub list_kind : Option Display → Whole → Executed
list_kind (Some kind) w = list_begun kind w
list_kind None w = stop BadCode w

-- inside a horizontal box there is none
unfoldable pub list_row : Whole → Executed
list_row w = if is_restricted w.feed.mode then stop WrongMode w else number (λ n v. list_kind (row kinds n) v) w

-- ---- `\@endlist`

abbrev pub list_closed : List Display → Whole → Executed
list_closed lists w = and_then (paragraph_ended w) (λ v. skip_added (record v { lists = lists }))

abbrev pub list_closed_in : List Display → Whole → Executed
list_closed_in [] w = stop ItemOutside w
list_closed_in (kind ∷ lists) w = list_closed lists w

unfoldable pub endlist_row : Whole → Executed
endlist_row w = if is_restricted w.feed.mode then stop WrongMode w else list_closed_in w.lists w

-- ---- `\item`

abbrev pub marks : List (List ℕ)
marks = codes "*" ∷ codes "-" ∷ codes "+" ∷ codes "." ∷ []

abbrev pub mark_label : List Display → List Tok
mark_label lists = toks (get_or marks (marked_lists lists - 1) [])

-- the number by its macro, in the second list in parentheses
abbrev pub number_label : List Display → List Tok
number_label lists =
    let name : List Tok = token.Word (printer_name (item_counter lists)) ∷ [] in
    if numbered_lists lists == 2 then toks (codes "(") ++ name ++ toks (codes ")") else name ++ toks (codes ".")

-- the label that an item has without one of its own: a number is stepped for it
abbrev pub label_to : Display → (List Tok → Whole → Executed) → Whole → Executed
label_to Itemize row w = row (mark_label w.lists) w
label_to Enumerate row w = effected (step_counter (item_counter w.lists) (pos 1) true) (λ done v. row (number_label v.lists) v) w
label_to kind row w = row [] w

-- the label stands before the text at its left, and of a described item at the beginning of it
abbrev pub described : List Tok → List ℕ → List Tok
described label margin = toks (codes "\\hskip-" ++ margin ++ codes "\\relax\\hbox{\\bfseries") ++ label ++ toks (codes "}\\hskip5pt")

abbrev pub beside : List Tok → List Tok
beside label = toks (codes "\\hbox to0pt{\\hss") ++ label ++ toks (codes "\\hskip5pt}")

abbrev pub item_tokens : Display → ℕ → List Tok → List Tok
item_tokens Description depth label = described label (get_or margin_texts (depth - 1) [])
item_tokens kind depth label = beside label

abbrev pub item_put : Display → List Tok → Whole → Executed
item_put kind label w = put (item_tokens kind (length w.lists) label) w

-- a paragraph ends and one without indent begins, but inside a horizontal box neither
abbrev pub item_paragraph : Whole → Executed
item_paragraph w = if is_restricted w.feed.mode then on w else and_then (paragraph_ended w) (begun_in_vertical false)

abbrev pub item_labelled : Display → Option (List Tok) → Whole → Executed
item_labelled kind None w = label_to kind (item_put kind) w
item_labelled kind (Some label) w = item_put kind label w

abbrev pub item_in : List Display → Option (List Tok) → Whole → Executed
item_in [] label w = stop ItemOutside w
item_in (kind ∷ lists) label w = and_then (item_paragraph w) (item_labelled kind label)

unfoldable pub item_row : Whole → Executed
item_row w = reading bracket (λ label v. item_in v.lists label v) w
