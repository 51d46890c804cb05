-- Lists of items and displayed paragraphs (source2e, file ltlists; classes, file classes.dtx, on lists; the lengths are this project's own). The
-- innermost list stands first.
use Rattle.std.specs.Prelude.{◌-◌, ◌++◌, ◌==◌, ◌||◌, Bool, true, false, ℕ, ℤ, pos, nat_eq, nat_le, List, [], ◌∷◌, codes, filter, get_or, length, Option, Some, None, Result, Ok, Err, if◌then◌else◌}
use Rattle.std.specs.Cmp.Lexicographic.{pointwise}
use Rattle.lb_base.specs.declared.fault.Kind.{Kind}
use Rattle.lb_base.specs.declared.fault.Kind.TheVariants.{BadCode, EnvironmentMismatch, ItemOutside, TooDeep}
use Rattle.lb_base.specs.declared.token.Tok.{Tok}
use Rattle.lb_base.specs.declared.token.Tok.TheVariants as token
use Rattle.lb_model.specs.declared.world.World.{World}
use Rattle.lb_model.specs.Settings.{State}
use Rattle.lb_model_counters.specs.Counters.{printer_name, step_counter}
use Rattle.lb_model_counters.specs.Effects.{Effect, answers, refuses}
use Rattle.lb_model_sections.specs.declared.display.Display.{Display}
use Rattle.lb_model_sections.specs.declared.display.Display.TheVariants.{Itemize, Enumerate, Description, Quote, Quotation, Center, FlushLeft, FlushRight}
use Rattle.lb_model_sections.specs.Joined.{seen}
use Rattle.lb_model_sections.specs.Texts.{toks}

-- ---- Margins and counters

-- the margin at each depth: 25pt, 22pt, 18.7pt, 17pt, and 10pt from the fifth on
abbrev pub margins : List ℤ
margins = pos 1638400 ∷ pos 1441792 ∷ pos 1225523 ∷ pos 1114112 ∷ pos 655360 ∷ pos 655360 ∷ []

abbrev pub margin_texts : List (List ℕ)
margin_texts = codes "25pt" ∷ codes "22pt" ∷ codes "18.7pt" ∷ codes "17pt" ∷ codes "10pt" ∷ codes "10pt" ∷ []

abbrev pub margin_at : ℕ → ℤ
margin_at depth = get_or margins (depth - 1) (pos 0)

abbrev pub margin_text_at : ℕ → List ℕ
margin_text_at depth = get_or margin_texts (depth - 1) []

abbrev pub is_itemize : Display → Bool
is_itemize Itemize = true
is_itemize kind = false

abbrev pub is_enumerate : Display → Bool
is_enumerate Enumerate = true
is_enumerate kind = false

-- how many open lists have marks, and how many are numbered
abbrev pub marked_lists : List Display → ℕ
marked_lists lists = length (filter is_itemize lists)

abbrev pub numbered_lists : List Display → ℕ
numbered_lists lists = length (filter is_enumerate lists)

-- the counters of numbered lists inside one another
abbrev pub item_counters : List (List ℕ)
item_counters = codes "enumi" ∷ codes "enumii" ∷ codes "enumiii" ∷ codes "enumiv" ∷ []

abbrev pub counter_at : ℕ → List ℕ
counter_at numbered = get_or item_counters (numbered - 1) []

abbrev pub item_counter : List Display → List ℕ
item_counter lists = counter_at (numbered_lists lists)

-- ---- A list that begins

-- six lists may be open, four with marks and four that are numbered
abbrev pub has_four : Display → List Display → Bool
has_four Itemize lists = nat_le 4 (marked_lists lists)
has_four Enumerate lists = nat_le 4 (numbered_lists lists)
has_four kind lists = false

abbrev pub is_too_deep : Display → List Display → Bool
is_too_deep kind lists = nat_le 6 (length lists) || has_four kind lists

-- the kinds by their numbers
abbrev pub kinds : List Display
kinds = Itemize ∷ Enumerate ∷ Description ∷ Quote ∷ Quotation ∷ Center ∷ FlushLeft ∷ FlushRight ∷ []

-- centred and flush left text begin by commands that are put back
abbrev pub begun_tokens : Display → List Tok
begun_tokens Center = token.Word (codes "centering") ∷ []
begun_tokens FlushLeft = token.Word (codes "raggedright") ∷ []
begun_tokens kind = []

-- what a list puts back, or why there is none
abbrev pub list_begun : Option Display → List Display → Result (List Tok) Kind
list_begun (Some kind) lists = if is_too_deep kind lists then Err TooDeep else Ok (begun_tokens kind)
list_begun None lists = Err BadCode

abbrev pub opened : Option Display → List Display → List Display
opened (Some kind) lists = kind ∷ lists
opened None lists = lists

-- ---- A list that ends

abbrev pub list_closed : List Display → Result Unit Kind
list_closed [] = Err ItemOutside
list_closed (kind ∷ lists) = Ok tt

abbrev pub closed : List Display → List Display
closed [] = []
closed (kind ∷ lists) = lists

-- the end of an environment of a name inside that of another one
abbrev pub environment_ended : List ℕ → List ℕ → Result (List Tok) Kind
environment_ended name current = if pointwise nat_eq name current then Ok [] else Err EnvironmentMismatch

-- ---- `\item`

abbrev pub marks : List (List ℕ)
marks = codes "*" ∷ codes "-" ∷ codes "+" ∷ codes "." ∷ []

abbrev pub mark_at : ℕ → List Tok
mark_at marked = toks (get_or marks (marked - 1) [])

abbrev pub mark_label : List Display → List Tok
mark_label lists = mark_at (marked_lists lists)

-- the number by its macro, in the second list in parentheses
abbrev pub number_at : ℕ → List Tok
number_at numbered =
    let name : List Tok = token.Word (printer_name (counter_at numbered)) ∷ [] in
    if numbered == 2 then toks (codes "(") ++ name ++ toks (codes ")") else name ++ toks (codes ".")

abbrev pub number_label : List Display → List Tok
number_label lists = number_at (numbered_lists lists)

-- the label stands before the text at its left, and of a described item at the beginning of it
abbrev pub described : List Tok → List ℕ → List Tok
described label margin = toks (codes "\\hskip-" ++ margin ++ codes "\\relax\\hbox{\\bfseries") ++ label ++ toks (codes "}\\hskip5pt")

abbrev pub beside : List Tok → List Tok
beside label = toks (codes "\\hbox to0pt{\\hss") ++ label ++ toks (codes "\\hskip5pt}")

abbrev pub item_tokens : Display → ℕ → List Tok → List Tok
item_tokens Description depth label = described label (margin_text_at depth)
item_tokens kind depth label = beside label

-- the label that an item has without one of its own: a number is stepped for it
abbrev pub label_of : Display → List Display → World → State → Effect (List Tok)
label_of Itemize lists w s = answers [] (mark_label lists)
label_of Enumerate lists w s = seen (λ done. number_label lists) (step_counter (item_counter lists) (pos 1) true w s)
label_of kind lists w s = answers [] []

abbrev pub item_labelled : Display → List Display → Option (List Tok) → World → State → Effect (List Tok)
item_labelled kind lists None w s = seen (item_tokens kind (length lists)) (label_of kind lists w s)
item_labelled kind lists (Some label) w s = answers [] (item_tokens kind (length lists) label)

abbrev pub innermost : List Display → Option Display
innermost [] = None
innermost (kind ∷ lists) = Some kind

abbrev pub item_in : Option Display → List Display → Option (List Tok) → World → State → Effect (List Tok)
item_in (Some kind) lists label w s = item_labelled kind lists label w s
item_in None lists label w s = refuses [] ItemOutside

-- an item of the innermost list, with a label of its own or without one
unfoldable pub item : List Display → Option (List Tok) → World → State → Effect (List Tok)
item lists label w s = item_in (innermost lists) lists label w s
