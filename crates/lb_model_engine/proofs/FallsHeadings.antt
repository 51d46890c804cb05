-- No row of lists, headings, documents and environments leaves more steps than there were.
use Rattle.std.proofs.Common.{◌≡◌, ℕ, zero, suc, Bool, true, false, List, [], ◌∷◌, arith, refl}
use Rattle.std.specs.Prelude.{Option, Some, None, if◌then◌else◌}
use Rattle.lb_base.specs.declared.token.Tok.{Tok}
use Rattle.lb_model_grammar.specs.declared.given.ScanKind.TheVariants as scan_kind
use Rattle.lb_values.specs.declared.value.PageStyle.{PageStyle}
use Rattle.lb_model.specs.FontTable.{row as row_of}
use Rattle.lb_model_aux.specs.declared.line.Line.{Line}
use Rattle.lb_model_nest.specs.declared.display.Display.{Display}
use Rattle.lb_model_nest.specs.declared.display.HeadLevel.{HeadLevel}
use Rattle.lb_model_nest.specs.Wholes.{Executed, Whole}
use Rattle.lb_model_engine.specs.Documents.{aux_kept, class_named, document_begun, documentclass, in_preamble, includeonly, line_kept, lines_kept, options_to, repeated_told, toc_row}
use Rattle.lb_model_engine.specs.Environments.{begin_row, begun, end_checked, end_named, end_row, over, over_at}
use Rattle.lb_model_engine.specs.Headings.{Heading, contents_line_put, contentsline, groups_dropped, head_row, heading_at, heading_made, heading_put, heading_read, is_numbered, number_made, numbered_heading, page_style_now, styled}
use Rattle.lb_model_engine.specs.Lists.{endlist_row, item_in, item_labelled, item_paragraph, item_row, kinds, label_to, list_begun, list_kind, list_row, list_set}
use Rattle.lb_model_engine.specs.Reads.{number}
use Rattle.lb_model_engine.specs.Texts.{text_rest}
use Rattle.lb_model_engine.specs.StepsLeft.{NeverRise as Falls}
use Rattle.lb_model_engine.proofs.FallsPages.{added-falls, and_then-falls}
use Rattle.lb_model_engine.proofs.FallsParagraphs.{begun-falls, paragraph_ended-falls}
use Rattle.lb_model_engine.proofs.FallsNest.{group_closed-falls, group_opened-falls, word_ended-falls}
use Rattle.lb_model_engine.proofs.FallsCounters.{characters_in-falls, text_rest-falls}
use Rattle.lb_model_engine.proofs.FallsReads.{characters-falls, reading-falls, scanning-falls}

-- ---- Lists of items

list_set-falls : (kind : Display) → Falls (list_set kind)
list_set-falls kind w = grind arith

list_begun-falls : (kind : Display) → Falls (list_begun kind)
list_begun-falls kind w = grind (arith, paragraph_ended-falls, added-falls, list_set-falls)

list_kind-falls : (kind : Option Display) → Falls (list_kind kind)
list_kind-falls kind w = grind (arith, list_begun-falls)

pub list-falls : Falls list_row
unfolding list_row
list-falls w =
    let h : Falls (number (λ n. list_kind (row_of kinds n))) = scanning-falls scan_kind.Number _ (λ found. list_kind-falls _) in grind (arith, h w)

pub endlist-falls : Falls endlist_row
unfolding endlist_row
endlist-falls w = grind (arith, paragraph_ended-falls, added-falls)

label_to-falls : (kind : Display) (row : List Tok → Whole → Executed) → ((label : List Tok) → Falls (row label)) → Falls (label_to kind row)
label_to-falls kind row f w = grind (arith, f)

item_labelled-falls : (kind : Display) (label : Option (List Tok)) → Falls (item_labelled kind label)
item_labelled-falls kind label w = grind (arith, label_to-falls)

item_in-falls : (lists : List Display) (label : Option (List Tok)) → Falls (item_in lists label)
item_in-falls [] label w = omega arith
item_in-falls (kind ∷ lists) label w =
    and_then-falls w.feed.left (item_paragraph w) (item_labelled kind label) (item_labelled-falls kind label) (grind
    (arith, paragraph_ended-falls, begun-falls))

pub item-falls : Falls item_row
unfolding item_row
item-falls = reading-falls _ _ (λ label w. item_in-falls w.lists label w)

-- ---- Headings

heading_put-falls : (h : Heading) (s : PageStyle) → Falls (heading_put h s)
heading_put-falls h s w = grind arith

numbered-falls : (n : HeadLevel) (short title : List Tok) (s : PageStyle) (toks : List Tok) → Falls (numbered_heading n short title s toks)
numbered-falls n short title s toks w = grind arith

number_text-falls : (n : HeadLevel) (short title : List Tok) (s : PageStyle) → Falls (text_rest (numbered_heading n short title s))
number_text-falls n short title s = text_rest-falls (numbered_heading n short title s) (numbered-falls n short title s)

number_made-falls : (n : HeadLevel) (short title : List Tok) → Falls (number_made n short title)
number_made-falls n short title w = grind (arith, number_text-falls)

-- with its number or without
abbrev made_if : Bool → HeadLevel → Bool → List Tok → List Tok → Whole → Executed
made_if b n starred short title w =
    if b then number_made n short title w
    else styled (heading_put (record { level = n; starred = starred; short = short; title = title; number = None })) w

made_if-falls : (b : Bool) (n : HeadLevel) (starred : Bool) (short title : List Tok) → Falls (made_if b n starred short title)
made_if-falls true n starred short title w = number_made-falls n short title w
made_if-falls false n starred short title w = heading_put-falls _ (page_style_now w) w

heading_made-falls : (n : HeadLevel) (starred : Bool) (short title : List Tok) → Falls (heading_made n starred short title)
heading_made-falls n starred short title w = made_if-falls (is_numbered n starred w) n starred short title w

heading_read-falls : (n : HeadLevel) → Falls (heading_read n)
heading_read-falls n = reading-falls _ _ (λ starred. reading-falls _ _ (λ short. reading-falls _ _ (λ title. heading_made-falls n starred _ title)))

heading_at-falls : (n : Option HeadLevel) → Falls (heading_at n)
heading_at-falls None w = omega arith
heading_at-falls (Some n) w = heading_read-falls n w

pub head-falls : Falls head_row
unfolding head_row
head-falls = scanning-falls scan_kind.Number _ (λ found. heading_at-falls _)

groups_dropped-falls : (turns : ℕ) (row : Whole → Executed) → Falls row → Falls (groups_dropped turns row)
groups_dropped-falls zero row f = f
groups_dropped-falls (suc turns) row f = reading-falls _ _ (λ g w. grind (arith, f, groups_dropped-falls turns row f))

contents_line_put-falls : (level : Option HeadLevel) (title page : List Tok) → Falls (contents_line_put level title page)
contents_line_put-falls level title page w = grind arith

pub contentsline-falls : Falls contentsline
unfolding contentsline
contentsline-falls =
    characters-falls _ (λ kind. reading-falls _ _ (λ title. reading-falls _ _ (λ page w. groups_dropped-falls (suc w.feed.left) _
    (contents_line_put-falls _ title page) w)))

-- ---- The class, the table of contents, the beginning of the text

in_preamble-falls : (row : Whole → Executed) → Falls row → Falls (in_preamble row)
in_preamble-falls row f w = grind (arith, f)

class_named-falls : (options : Option (List ℕ)) (name : List ℕ) → Falls (class_named options name)
class_named-falls options name w = grind arith

options_to-falls : (toks : Option (List Tok)) (row : Option (List ℕ) → Whole → Executed) → ((options : Option (List ℕ)) → Falls (row options))
    → Falls (options_to toks row)
options_to-falls None row f = f None
options_to-falls (Some toks) row f = characters_in-falls toks _ (λ options. f (Some options))

pub documentclass-falls : Falls documentclass
unfolding documentclass
documentclass-falls = in_preamble-falls _ (reading-falls _ _ (λ toks. options_to-falls toks _ (λ options. characters-falls _ (class_named-falls options))))

pub includeonly-falls : Falls includeonly
unfolding includeonly
includeonly-falls = in_preamble-falls _ (characters-falls _ (λ text w. omega arith))

pub toc-falls : Falls toc_row
unfolding toc_row
toc-falls w = grind arith

lines_kept-falls : (lines : List Line) → Falls (lines_kept lines)
lines_kept-falls [] w = omega arith
lines_kept-falls (l ∷ lines) w = and_then-falls w.feed.left (line_kept l w) (lines_kept lines) (lines_kept-falls lines) (grind arith)

repeated-same : (keys : List (List ℕ)) (w : Whole) → (repeated_told keys w).feed.left ≡ w.feed.left
repeated-same [] w = refl
repeated-same (key ∷ keys) w = grind (arith, repeated-same keys)

aux_kept-falls : (lines : List Line) → Falls (aux_kept lines)
aux_kept-falls lines w = grind (arith, lines_kept-falls, repeated-same)

pub document_begun-falls : Falls document_begun
unfolding document_begun
document_begun-falls w = grind (arith, aux_kept-falls)

-- ---- Environments

environment_begun-falls : (name : List ℕ) → Falls (begun name)
environment_begun-falls name w = grind (arith, document_begun-falls, group_opened-falls)

pub begin-falls : Falls begin_row
unfolding begin_row
begin-falls = characters-falls begun environment_begun-falls

end_checked-falls : (name : List ℕ) → Falls (end_checked name)
end_checked-falls name w = grind (arith, group_closed-falls)

end_named-falls : (name : List ℕ) → Falls (end_named name)
end_named-falls name w = grind (arith, end_checked-falls)

pub end-falls : Falls end_row
unfolding end_row
end-falls = characters-falls end_named end_named-falls

over_at-falls : (bounded : Bool) (ending : List (List ℕ)) (text_ended : Whole → Executed) → Falls text_ended → Falls (over_at bounded ending text_ended)
over_at-falls bounded ending text_ended f w = grind (arith, f, word_ended-falls, end_checked-falls)

pub over-falls : (text_ended : Whole → Executed) → Falls text_ended → Falls (over text_ended)
unfolding over
over-falls text_ended f w = over_at-falls _ w.ending text_ended f w
