-- Counters, labels and references, entries of contents, and the styles of fonts and pages (source2e, files ltcounts, ltxref, ltsect, ltpage and
-- ltfssini).
use Rattle.std.specs.Prelude.{true, false, ℕ, ℤ, pos, List, [], ◌∷◌, codes, nat_eq, Option, Some, None, Result, Ok, Err}
use Rattle.std.specs.Cmp.Lexicographic.{pointwise}
use Rattle.std.specs.Map.{lookup}
use Rattle.std.specs.Option.{option_map}
use Rattle.lb_base.specs.declared.fault.Kind.{Kind}
use Rattle.lb_base.specs.declared.fault.Kind.TheVariants.{BadCode, IncludeInside}
use Rattle.lb_base.specs.declared.node.Node.{Node, Note as NoteNode}
use Rattle.lb_base.specs.declared.node.Note.TheVariants as note
use Rattle.lb_base.specs.declared.token.Category.TheVariants as category
use Rattle.lb_base.specs.declared.token.Tok.{Tok}
use Rattle.lb_base.specs.declared.token.Tok.TheVariants as token
use Rattle.lb_rows.specs.declared.parameter.Parameter.TheVariants.{BaselineSkip}
use Rattle.lb_values.specs.declared.cell.Cell.{Cell}
use Rattle.lb_values.specs.declared.cell.Cell.TheVariants as cell
use Rattle.lb_values.specs.declared.reach.Reach.TheVariants.{Local, Global}
use Rattle.lb_values.specs.declared.value.Form.{Form}
use Rattle.lb_values.specs.declared.value.Form.TheVariants as form
use Rattle.lb_values.specs.declared.value.LabelPair.{LabelPair}
use Rattle.lb_values.specs.declared.value.PageStyle.{PageStyle}
use Rattle.lb_values.specs.declared.value.PageStyle.TheVariants as style
use Rattle.lb_values.specs.declared.value.Value.{Value}
use Rattle.lb_values.specs.declared.value.Value.TheVariants as value
use Rattle.lb_model.specs.declared.append.Append.TheVariants as append
use Rattle.lb_model.specs.declared.open.Purpose.TheVariants.{Asked}
use Rattle.lb_model.specs.declared.world.World.{World}
use Rattle.lb_model.specs.FontTable.{baselineskip_of}
use Rattle.lb_model.specs.HeldNumbers.{held_of}
use Rattle.lb_model.specs.Kinds.{no_glue}
use Rattle.lb_model.specs.Settings.{State}
use Rattle.lb_model_expansion.specs.Expansion.{if_room, ran, word_behind}
use Rattle.lb_model_expansion.specs.Steps as steps
use Rattle.lb_model_counters.specs.Counters.{new_counter, printer, printer_name, set_counter, step_counter}
use Rattle.lb_model_counters.specs.Effects.{Effect, assigned_by, looked_by}
use Rattle.lb_model_counters.specs.Labels.{label_now, label_stored}
use Rattle.lb_model_journal.specs.declared.event.Event.TheVariants as event
use Rattle.lb_model_journal.specs.LogLines.{log_line}
use Rattle.lb_model_journal.specs.Written.{written}
use Rattle.lb_model_engine.specs.Definitions.{macro_value}
use Rattle.lb_model_nest.specs.Items.{in_horizontal}
use Rattle.lb_model_nest.specs.Pages.{added, page_counter}
use Rattle.lb_model_engine.specs.Reads.{argument, asking, bracket, characters, number, number_in, reading, word_to}
use Rattle.lb_model_engine.specs.Texts.{expanded_text, text_put}
use Rattle.lb_model_nest.specs.Wholes.{Executed, Whole, and_then, appended, behind, change, change_or, on, put, stop, with_feed}

-- ---- Effects on counters and labels

abbrev pub effect_to : {X : Type 0} → Result X Kind → (X → Whole → Executed) → Whole → Executed
effect_to (Ok x) row w = row x w
effect_to (Err kind) row w = stop kind w

abbrev pub with_effect : {X : Type 0} → Effect X → (X → Whole → Executed) → Whole → Executed
with_effect e row w =
    behind (option_map (looked_by e)) (effect_to e.answer row (with_feed (record w.feed { cells = assigned_by e w.feed.cells }) w))

-- it depends on what the cells hold now
abbrev pub effected : {X : Type 0} → (World → State → Effect X) → (X → Whole → Executed) → Whole → Executed
effected effect row w = with_effect (effect w.feed.world w.feed.cells.now) row w

abbrev pub effected_alone : (World → State → Effect Unit) → Whole → Executed
effected_alone effect w = effected effect (λ done v. on v) w

-- ---- Counters

-- a text in brackets, expanded to characters
abbrev pub characters_in : List Tok → (List ℕ → Whole → Executed) → Whole → Executed
characters_in toks row w = asking (λ c. steps.and_then (if_room (word_behind toks Asked) c) ran) (λ a v. word_to a row v) w

abbrev pub within_to : Option (List Tok) → (Option (List ℕ) → Whole → Executed) → Whole → Executed
within_to None row w = row None w
within_to (Some toks) row w = characters_in toks (λ name v. row (Some name) v) w

-- `\newcounter`: the counter, and the macro that prints it
abbrev pub counter_made : List ℕ → Option (List ℕ) → Whole → Executed
counter_made name within w =
    effected (new_counter name within) (λ done v. change Local (cell.Word (printer_name name)) (macro_value (printer name)) v) w

unfoldable pub newcounter : Whole → Executed
newcounter w = characters (λ name v. reading bracket (λ toks u. within_to toks (counter_made name) u) v) w

-- a name and a number in arguments
abbrev pub counter_and_number : (List ℕ → ℤ → Whole → Executed) → Whole → Executed
counter_and_number row w = characters (λ name v. argument (λ toks u. number_in toks (row name) u) v) w

unfoldable pub setcounter : Whole → Executed
setcounter w = counter_and_number (λ name n v. effected_alone (set_counter name n) v) w

unfoldable pub addtocounter : Whole → Executed
addtocounter w = counter_and_number (λ name n v. effected_alone (step_counter name n false) v) w

unfoldable pub stepcounter : Whole → Executed
stepcounter w = characters (λ name v. effected_alone (step_counter name (pos 1) true) v) w

-- `\refstepcounter`: the present label is what the counter's macro expands to
abbrev pub label_set : List Tok → Whole → Executed
label_set toks w = change Local cell.CurrentLabel (value.Text (written toks)) w

abbrev pub label_by : List ℕ → Whole → Executed
label_by name w = expanded_text (token.Word (printer_name name) ∷ []) label_set w

unfoldable pub refstepcounter : Whole → Executed
refstepcounter w = characters (λ name v. effected (step_counter name (pos 1) true) (λ done u. label_by name u) v) w

-- ---- Labels

unfoldable pub label : Whole → Executed
label w = characters (λ key v. effected (label_now key) (λ node u. added node u) v) w

-- what stands for a label that is not known
abbrev pub question_marks : List Tok
question_marks =
    token.Char category.BeginGroup 123 ∷ token.Word (codes "bfseries") ∷ token.Char category.Other 63 ∷ token.Char category.Other 63
    ∷ token.Char category.EndGroup 125 ∷ []

abbrev pub reference_logged : List ℕ → Whole → Whole
reference_logged key w = appended (append.Log (log_line (event.UndefinedReference key))) w

abbrev pub reference_put : (LabelPair → List ℕ) → List ℕ → Option LabelPair → Whole → Executed
reference_put part key (Some pair) w = text_put (part pair) w
reference_put part key None w = put question_marks (reference_logged key w)

-- `\ref` and `\pageref`
abbrev pub referring : (LabelPair → List ℕ) → Whole → Executed
referring part w = in_horizontal (λ v. characters (λ key u. effected (label_stored key) (reference_put part key) u) v) w

unfoldable pub ref_row : Whole → Executed
ref_row w = referring (λ pair. pair.text) w

unfoldable pub pageref : Whole → Executed
pageref w = referring (λ pair. pair.page) w

-- ---- `\addcontentsline`

abbrev pub contents_node : List ℕ → List ℕ → List Tok → Node
contents_node extension kind title = NoteNode (note.Contents extension kind title)

unfoldable pub addcontentsline : Whole → Executed
addcontentsline w =
    characters (λ extension v. characters (λ kind u. argument (λ title x. added (contents_node extension kind title) x) u) v) w

-- ---- Styles of fonts

unfoldable pub style_row : Whole → Executed
style_row w = number (λ n v. change_or BadCode Local cell.Style (held_of cell.Style n) v) w

-- `\@size`: the size, and what lies between baselines at it
abbrev pub skip_value : Option ℤ → Option Value
skip_value width = option_map (λ n. value.Glue (record no_glue { width = n })) width

abbrev pub baselines_set : ℤ → Whole → Executed
baselines_set n w = change_or BadCode Local (cell.Par BaselineSkip) (skip_value (baselineskip_of n)) w

unfoldable pub size_row : Whole → Executed
size_row w = number (λ n v. and_then (change_or BadCode Local cell.Size (held_of cell.Size n) v) (baselines_set n)) w

-- `\@matter`
unfoldable pub matter : Whole → Executed
matter w = number (λ n v. change_or BadCode Global cell.Matter (held_of cell.Matter n) v) w

-- ---- Styles of pages

abbrev pub page_styles : List (List ℕ × PageStyle)
page_styles =
    (codes "empty", style.Empty) ∷ (codes "plain", style.Plain) ∷ (codes "headings", style.Headings) ∷ (codes "myheadings", style.MyHeadings) ∷ []

abbrev pub forms : List (List ℕ × Form)
forms =
    (codes "arabic", form.Arabic) ∷ (codes "roman", form.LowerRoman) ∷ (codes "Roman", form.UpperRoman) ∷ (codes "alph", form.LowerAlph)
    ∷ (codes "Alph", form.UpperAlph) ∷ []

abbrev pub style_value : List ℕ → Option Value
style_value name = option_map value.PageStyle (lookup (pointwise nat_eq name) page_styles)

abbrev pub form_value : List ℕ → Option Value
form_value name = option_map value.Form (lookup (pointwise nat_eq name) forms)

-- `\pagestyle` and `\thispagestyle`
unfoldable pub pagestyle : Cell → Whole → Executed
pagestyle c w = characters (λ name v. change_or BadCode Global c (style_value name) v) w

-- `\pagenumbering`: the pages count from 1 again
unfoldable pub pagenumbering : Whole → Executed
pagenumbering w =
    characters
    (λ name v. and_then (change_or BadCode Global cell.PageForm (form_value name) v) (change Global page_counter (value.Number (pos 1)))) w

-- `\include` where it is executed
unfoldable pub include : Whole → Executed
include w = stop IncludeInside w
