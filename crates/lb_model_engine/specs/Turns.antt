-- The main control: what is done with a token that is not expanded, and a text from its beginning to its end (TeXbook, chapters 24 and 25; tex.web,
-- part 46).
use Rattle.std.specs.Prelude.{◌+◌, Bool, true, false, ℕ, zero, suc, pos, List, [], ◌∷◌, Option, Some, None, if◌then◌else◌}
use Rattle.lb_base.specs.declared.fault.Fault.{Fault}
use Rattle.lb_base.specs.declared.fault.Kind.{Kind}
use Rattle.lb_base.specs.declared.fault.Kind.TheVariants.{AlignRefused, GroupOpen, IfOpen, MathRefused, NotYet, StepLimit, TokenMisplaced}
use Rattle.lb_base.specs.declared.token.Category.{Category}
use Rattle.lb_base.specs.declared.token.Category.TheVariants as category
use Rattle.lb_base.specs.declared.token.Tok.{Tok}
use Rattle.lb_rows.specs.declared.command.Command.{Command}
use Rattle.lb_rows.specs.declared.command.Command.TheVariants as command
use Rattle.lb_values.specs.Registers.{register_cell}
use Rattle.lb_values.specs.declared.cell.Cell.TheVariants as cell
use Rattle.lb_values.specs.declared.cell.RegisterKind.TheVariants as register
use Rattle.lb_values.specs.declared.meaning.Meaning.{Meaning}
use Rattle.lb_values.specs.declared.meaning.Meaning.TheVariants as meaning
use Rattle.lb_values.specs.declared.reach.Reach.TheVariants.{Local}
use Rattle.lb_model.specs.declared.place.Mode.TheVariants.{Vertical as VerticalMode}
use Rattle.lb_model.specs.declared.place.Place.{Place}
use Rattle.lb_model.specs.declared.world.World.{World}
use Rattle.lb_model.specs.Configs.{Config}
use Rattle.lb_model.specs.Kinds.{steps_of}
use Rattle.lb_model.specs.Meanings.{undefined}
use Rattle.lb_model.specs.Settings.{State, look}
use Rattle.lb_model.specs.Sources.{FileText}
use Rattle.lb_model.specs.Sources.Item.{Text}
use Rattle.lb_base.specs.declared.node.Axis.TheVariants.{Horizontal, Vertical}
use Rattle.lb_model_engine.specs.declared.definition.NewKind.TheVariants.{New, Renew, Provide}
use Rattle.lb_model_nest.specs.declared.nest.BoxContext.TheVariants.{Shifted}
use Rattle.lb_model_nest.specs.declared.nest.ListKind.TheVariants as list
use Rattle.lb_model_nest.specs.declared.turn.Went.{Went}
use Rattle.lb_model_nest.specs.declared.turn.Went.TheVariants as went
use Rattle.lb_model_nest.specs.Boxes.{end_group}
use Rattle.lb_model_engine.specs.Boxes.{box_begun, box_copied, box_taken, lower, raise}
use Rattle.lb_model_engine.specs.Counting.{addcontentsline, addtocounter, include, label, matter, newcounter, pagenumbering, pageref, pagestyle, ref_row, refstepcounter, setcounter, size_row, stepcounter, style_row}
use Rattle.lb_model_engine.specs.NewNames.{new_register, newcommand, newenvironment, newif}
use Rattle.lb_model_engine.specs.Documents.{documentclass, includeonly, toc_row}
use Rattle.lb_model_engine.specs.Environments.{begin_row, end_row, is_bounded, over}
use Rattle.lb_model_nest.specs.Groups.{begin_group_character, begingroup, endgroup}
use Rattle.lb_model_engine.specs.Groups.{aftergroup}
use Rattle.lb_model_engine.specs.Headings.{contentsline, head_row}
use Rattle.lb_model_nest.specs.Items.{discretionary_hyphen, fil, fill, horizontal_glue, ignorespaces, indent, italic_correction, leavevmode, noindent, par, plainnext, ss, unskip, vertical_glue}
use Rattle.lb_model_engine.specs.Items.{hrule, hskip, hspace, kern, line_break, penalty, vrule, vskip, vspace}
use Rattle.lb_model_engine.specs.Lists.{endlist_row, item_row, list_row}
use Rattle.lb_model_engine.specs.Material.{discretionary, footnote, markboth, markright, vadjust}
use Rattle.lb_model_nest.specs.Pages.{page_cleared}
use Rattle.lb_model_nest.specs.Paragraphs.{paragraph_ended}
use Rattle.lb_model_engine.specs.Prefixes.{assignment, global_row, long_row}
use Rattle.lb_model_engine.specs.Reads.{next_or, past_spaces_or}
use Rattle.lb_model_engine.specs.Registers.{variable_row}
use Rattle.lb_model_engine.specs.Texts.{changecase, typeout}
use Rattle.lb_model_nest.specs.Wholes.{Executed, Whole, and_as, and_then, executed, new_level, on, stop, stop_at}
use Rattle.lb_model_nest.specs.Words.{character, control_space, space, word_ended}
use Rattle.lb_model_engine.specs.Words.{char}

-- ---- Commands

-- commands of lists, headings, documents and environments; another one, which is an assignment or is expanded, does nothing here
abbrev pub document_row : Command → Whole → Executed
document_row command.BeginList w = list_row w
document_row command.EndList w = endlist_row w
document_row command.Item w = item_row w
document_row command.Head w = head_row w
document_row command.ContentsLine w = contentsline w
document_row command.DocumentClass w = documentclass w
document_row command.IncludeOnly w = includeonly w
document_row command.Toc w = toc_row w
document_row command.Begin w = begin_row w
document_row command.End w = end_row w
document_row c w = on w

-- commands of counters, labels and styles, and else the ones above
abbrev pub counter_row : Command → Whole → Executed
counter_row command.NewCounter w = newcounter w
counter_row command.SetCounter w = setcounter w
counter_row command.AddToCounter w = addtocounter w
counter_row command.StepCounter w = stepcounter w
counter_row command.RefStepCounter w = refstepcounter w
counter_row command.Label w = label w
counter_row command.Ref w = ref_row w
counter_row command.PageRef w = pageref w
counter_row command.AddContentsLine w = addcontentsline w
counter_row command.TypeOut w = typeout w
counter_row command.PageStyle w = pagestyle cell.PageStyle w
counter_row command.ThisPageStyle w = pagestyle cell.ThisStyle w
counter_row command.PageNumbering w = pagenumbering w
counter_row command.Style w = style_row w
counter_row command.Size w = size_row w
counter_row command.Matter w = matter w
counter_row command.Include w = include w
counter_row c w = document_row c w

-- commands of spaces of LaTeX, hyphens, and material, and else the ones above
abbrev pub material_row : Command → Whole → Executed
material_row command.IgnoreSpaces w = ignorespaces w
material_row command.ControlSpace w = control_space w
material_row command.ItalicCorrection w = italic_correction w
material_row command.DiscretionaryHyphen w = discretionary_hyphen w
material_row command.Discretionary w = discretionary w
material_row command.VAdjust w = vadjust w
material_row command.Insert w = footnote w
material_row command.LineBreak w = line_break w
material_row command.HSpace w = hspace w
material_row command.VSpace w = vspace w
material_row command.MarkBoth w = markboth w
material_row command.MarkRight w = markright w
material_row c w = counter_row c w

-- commands of paragraphs, glue, kerns and penalties, and else the ones above
abbrev pub paragraph_row : Command → Whole → Executed
paragraph_row command.Par w = par w
paragraph_row command.Indent w = indent w
paragraph_row command.NoIndent w = noindent w
paragraph_row command.LeaveVMode w = leavevmode w
paragraph_row command.PlainNext w = plainnext w
paragraph_row command.HSkip w = hskip w
paragraph_row command.HFil w = horizontal_glue fil w
paragraph_row command.HFill w = horizontal_glue fill w
paragraph_row command.Hss w = horizontal_glue ss w
paragraph_row command.VSkip w = vskip w
paragraph_row command.VFil w = vertical_glue fil w
paragraph_row command.VFill w = vertical_glue fill w
paragraph_row command.Vss w = vertical_glue ss w
paragraph_row command.Kern w = kern w
paragraph_row command.Penalty w = penalty w
paragraph_row command.UnSkip w = unskip w
paragraph_row c w = material_row c w

-- commands of changes of case, boxes and rules, and else the ones above
abbrev pub box_row : Command → Whole → Executed
box_row command.Uppercase w = changecase cell.Uc w
box_row command.Lowercase w = changecase cell.Lc w
box_row command.HBox w = box_begun Horizontal (Shifted (pos 0)) w
box_row command.VBox w = box_begun Vertical (Shifted (pos 0)) w
box_row command.Box w = box_taken (Shifted (pos 0)) w
box_row command.Copy w = box_copied (Shifted (pos 0)) w
box_row command.Raise w = raise w
box_row command.Lower w = lower w
box_row command.HRule w = hrule w
box_row command.VRule w = vrule w
box_row c w = paragraph_row c w

-- commands of new names, and else the ones above
abbrev pub naming_row : Command → Whole → Executed
naming_row command.NewIf w = newif w
naming_row command.NewCommand w = newcommand New w
naming_row command.RenewCommand w = newcommand Renew w
naming_row command.ProvideCommand w = newcommand Provide w
naming_row command.NewEnvironment w = newenvironment New w
naming_row command.RenewEnvironment w = newenvironment Renew w
naming_row command.NewCount w = new_register register.Count w
naming_row command.NewDimen w = new_register register.Dimen w
naming_row command.NewSkip w = new_register register.Skip w
naming_row command.NewLength w = new_register register.Skip w
naming_row command.NewToks w = new_register register.Toks w
naming_row command.NewSaveBox w = new_register register.Boxed w
naming_row c w = box_row c w

-- commands that are no assignments: those of groups and prefixes, and else the ones above
abbrev pub command_row : Command → Whole → Executed
command_row command.Relax w = on w
command_row command.EndCsName w = stop TokenMisplaced w
command_row command.Value w = stop TokenMisplaced w
command_row command.Long w = long_row w
command_row command.Global w = global_row w
command_row command.BeginGroup w = begingroup w
command_row command.EndGroup w = endgroup w
command_row command.AfterGroup w = aftergroup w
command_row c w = naming_row c w

-- headings, contents and lists are not carried out yet
abbrev pub is_built : Command → Bool
is_built command.BeginList = false
is_built command.EndList = false
is_built command.Item = false
is_built command.Head = false
is_built command.ContentsLine = false
is_built command.Toc = false
is_built c = true

abbrev pub built_row : Command → Whole → Executed
built_row c w = if is_built c then command_row c w else stop NotYet w

-- ---- Tokens

-- the word before ends
abbrev pub behind_word : (Whole → Executed) → Whole → Executed
behind_word row w = and_then (word_ended w) row

-- a character by its category, or a control sequence that means one
abbrev pub character_row : Category → ℕ → Whole → Executed
character_row category.BeginGroup code w = behind_word begin_group_character w
character_row category.EndGroup code w = behind_word end_group w
character_row category.Space code w = space w
character_row category.Letter code w = character code w
character_row category.Other code w = character code w
character_row category.MathShift code w = behind_word (stop MathRefused) w
character_row category.Superscript code w = behind_word (stop MathRefused) w
character_row category.Subscript code w = behind_word (stop MathRefused) w
character_row category.AlignmentTab code w = behind_word (stop AlignRefused) w
character_row cat code w = behind_word (stop TokenMisplaced) w

-- `\char` goes on with the word
abbrev pub row_by : Command → Option (Whole → Executed) → Whole → Executed
row_by command.Char assigns w = char w
row_by c (Some row) w = behind_word row w
row_by c None w = behind_word (built_row c) w

-- a macro that is not expanded does nothing
abbrev pub token_row : Tok → Option Meaning → Whole → Executed
token_row tok None w = behind_word (stop (undefined tok)) w
token_row tok (Some (meaning.Char cat code)) w = character_row cat code w
token_row tok (Some (meaning.Number code)) w = character code w
token_row tok (Some (meaning.Macro definition)) w = behind_word on w
token_row tok (Some (meaning.Row c)) w = row_by c (assignment (Some (meaning.Row c)) false Local) w
token_row tok (Some (meaning.Register r)) w = behind_word (variable_row (register_cell r) Local) w

-- ---- The end of a text

abbrev pub open_at : Kind → Place → Fault
open_at kind place = record { kind = kind; file = place.file; line = place.line }

abbrev pub is_none : {X : Type 0} → List X → Bool
is_none [] = true
is_none (x ∷ xs) = false

-- the paragraph ends, and the page is cleared
abbrev pub cleared : Whole → Executed
cleared w = and_then (and_then (and_then (word_ended w) paragraph_ended) page_cleared) (executed went.Over)

-- a group or a conditional that is open is a fault at this place
abbrev pub text_ended : Place → Whole → Executed
text_ended last w =
    if is_none w.feed.groups
    then (if is_none w.feed.conditionals then cleared w else stop_at (open_at IfOpen last) w)
    else stop_at (open_at GroupOpen last) w

-- the feed has no more
abbrev pub ended : Place → Whole → Executed
ended last w = over (text_ended last) w

-- ---- Turns

-- where text is skipped up to the end, and not to a boundary, the fault is there too
abbrev pub stopped_at : Place → Executed → Executed
stopped_at last e = record { done = record { went = went.StoppedAt (open_at IfOpen last); next = e.done.next }; noted = e.noted }

abbrev pub at_end_as : Went → Place → Executed → Executed
at_end_as (went.Stopped IfOpen) last e = if is_bounded e.done.next.feed.source then e else stopped_at last e
at_end_as way last e = e

abbrev pub at_end : Place → Executed → Executed
at_end last e = at_end_as e.done.went last e

-- the next token that is not expanded, behind spaces if these are skipped
abbrev pub next_by : Bool → (Whole → Executed) → (Tok → Option Meaning → Whole → Executed) → Whole → Executed
next_by true at_end row w = past_spaces_or at_end row (record w { skips_spaces = false })
next_by false at_end row w = next_or at_end row w

-- what is done with it; the text ends at this place
unfoldable pub turn : Place → Whole → Executed
turn last w = at_end last (next_by w.skips_spaces (ended last) token_row w)

-- within so many turns
abbrev pub or_more : Went → Executed → Executed → Executed
or_more went.On e more = and_as went.On e more
or_more way e more = e

unfoldable pub turns : ℕ → Place → Whole → Executed
turns zero last w = stop StepLimit w
turns (suc left) last w = let e = turn last w in or_more e.done.went e (let more = turns left last e.done.next in more)

-- each turn but the last takes a step, but for that of an end of an environment, before which a step was taken for its `\end`: so these are
-- enough
abbrev pub text_set : Place → Whole → Executed
text_set last w = turns (suc (w.feed.left + w.feed.left)) last w

-- ---- A text from the beginning

-- no open group, conditional or list, and an empty page
abbrev pub whole_of : Config → Whole
whole_of c =
    record {
      feed = c;
      level = new_level list.Page;
      around = [];
      word = [];
      font = None;
      page = [];
      after = [];
      lists = [];
      ending = [];
      skips_spaces = false;
      plain_next = false;
    }

abbrev pub config_of : FileText → World → State → ℕ → Config
config_of text world state left =
    record {
      world = world;
      cells = record { now = state; earlier = [] };
      groups = [];
      source = Text text ∷ [];
      place = Some (record { file = text.file; line = text.line });
      conditionals = [];
      readings = [];
      mode = VerticalMode;
      appends = [];
      left = left;
    }

-- with as many steps as the cell of steps tells
abbrev pub begun : FileText → World → State → Whole
begun text world state = whole_of (config_of text world state (steps_of (look world state cell.Steps)))
