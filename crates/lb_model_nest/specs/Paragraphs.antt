-- Paragraphs: their beginning, and their end as lines in the list around (TeXbook, chapter 14; tex.web, parts 38, 39 and 47).
use Rattle.std.specs.Prelude.{◌+◌, ◌-ℤ◌, ◌++◌, Bool, true, false, not, ◌&&◌, ℕ, ℤ, pos, neg_ℤ, List, [], ◌∷◌, length, unwrap_or, Result, Ok, Err, if◌then◌else◌}
use Rattle.std.specs.Int.{int_min}
use Rattle.lb_base.specs.declared.fault.Kind.{Kind}
use Rattle.lb_base.specs.declared.glue.Glue.{Glue}
use Rattle.lb_base.specs.declared.glue.Target.TheVariants.{To}
use Rattle.lb_base.specs.declared.node.Axis.TheVariants.{Horizontal}
use Rattle.lb_base.specs.declared.node.Boxed.{Boxed, out-Boxed}
use Rattle.lb_base.specs.declared.node.Discretionary.{Discretionary}
use Rattle.lb_base.specs.declared.node.HeadMark.{HeadMark}
use Rattle.lb_base.specs.declared.node.HeadMark.TheOpen.{Boxed as InnerBox}
use Rattle.lb_base.specs.declared.node.Node.{Node, Node-F, out-Node, Boxed as BoxNode, Glue as GlueNode, Penalty as PenaltyNode}
use Rattle.lb_rows.specs.declared.parameter.Parameter.TheVariants.{AdjDemerits, BaselineSkip, BrokenPenalty, ClubPenalty, DoubleHyphenDemerits, ExHyphenPenalty, FinalHyphenDemerits, HSize, HyphenPenalty, InterLinePenalty, LeftSkip, LinePenalty, LineSkip, LineSkipLimit, ParFillSkip, ParIndent, ParSkip, Pretolerance, RightSkip, Tolerance, WidowPenalty}
use Rattle.lb_rows.specs.declared.parameter.Parameter.{Parameter}
use Rattle.lb_values.specs.declared.cell.Cell.{Cell}
use Rattle.lb_values.specs.declared.cell.Cell.TheVariants.{Par}
use Rattle.lb_model.specs.declared.append.Append.TheVariants as append
use Rattle.lb_model.specs.declared.place.Place.{Place}
use Rattle.lb_model.specs.Kinds.{dimension_of, glue_of, number_of}
use Rattle.lb_model_paper.specs.Boxes.{packed}
use Rattle.lb_model_paper.specs.Breaks.{breaks_of, excess_in, is_empty_list, is_glue, is_overfull_line, line_items, sums_of}
use Rattle.lb_model_paper.specs.Lines.{interline, lines_of, set_line}
use Rattle.lb_model_paper.specs.declared.paragraph.BreakEnd.{BreakEnd}
use Rattle.lb_model_paper.specs.declared.paragraph.BreakList.{BreakList}
use Rattle.lb_model_paper.specs.declared.paragraph.BreakRules.{BreakRules}
use Rattle.lb_model_paper.specs.declared.paragraph.LineRules.{LineRules}
use Rattle.lb_model_paper.specs.declared.paragraph.LineSums.{LineSums}
use Rattle.lb_model_paper.specs.declared.paragraph.Passes.TheVariants.{Both}
use Rattle.lb_model_paper.specs.declared.paragraph.Shape.{Shape}
use Rattle.lb_model_journal.specs.declared.event.Event.{Event}
use Rattle.lb_model_journal.specs.declared.event.Event.TheVariants as event
use Rattle.lb_model_journal.specs.LogLines.{log_line}
use Rattle.lb_model_nest.specs.declared.nest.ListKind.{ListKind}
use Rattle.lb_model_nest.specs.declared.nest.ListKind.TheVariants as list
use Rattle.lb_model_nest.specs.Pages.{added, all_added, is_page}
use Rattle.lb_model_nest.specs.Wholes.{Executed, Whole, and_then, appended, entered, is_vertical, left_level, looking, on, stop, tells, with_node}

-- ---- Boxes in vertical lists

abbrev pub line_cells : List Cell
line_cells = Par BaselineSkip ∷ Par LineSkip ∷ Par LineSkipLimit ∷ []

abbrev pub line_rules : Whole → LineRules
line_rules w =
    record {
      baselineskip = glue_of (tells w (Par BaselineSkip));
      lineskip = glue_of (tells w (Par LineSkip));
      lineskiplimit = dimension_of (tells w (Par LineSkipLimit));
    }

abbrev pub with_depth : ℤ → Whole → Whole
with_depth depth w = record w { level = record w.level { prev_depth = depth } }

abbrev pub behind_glue : Result (List Node) Kind → Boxed → Whole → Executed
behind_glue (Err kind) box w = stop kind w
behind_glue (Ok before) box w = all_added (before ++ BoxNode box ∷ []) (with_depth (out-Boxed box).depth w)

-- a box is added to a vertical list, behind the glue between lines
unfoldable pub box_added : Boxed → Whole → Executed
box_added box w = looking line_cells (behind_glue (interline (line_rules w) w.level.prev_depth (out-Boxed box).height) box w)

-- ---- The beginning

-- no glue goes into an inner list that is empty
abbrev pub is_empty_inner : Whole → Bool
is_empty_inner w = not (is_page w.level.kind) && is_empty_list w.level.nodes

abbrev pub skip_added : Glue → Whole → Executed
skip_added skip w = if is_empty_inner w then on w else added (GlueNode skip) w

-- an empty box of a width
abbrev pub indent_box : ℤ → Node
indent_box width = BoxNode (packed Horizontal [] (To width))

abbrev pub indented : Bool → ℤ → Whole → Whole
indented true width w = with_node (indent_box width) w
indented false width w = w

abbrev pub paragraph_opened : Bool → ℤ → Whole → Whole
paragraph_opened indent width w = indented (indent && not w.plain_next) width (entered list.Paragraph (record w { plain_next = false }))

abbrev pub begin_cells : List Cell
begin_cells = Par ParSkip ∷ Par ParIndent ∷ []

-- a paragraph begins, with an indent unless none is to come
unfoldable pub paragraph_begun : Bool → Whole → Executed
paragraph_begun indent w =
    looking begin_cells
    (and_then (skip_added (glue_of (tells w (Par ParSkip))) w) (λ v. on (paragraph_opened indent (dimension_of (tells w (Par ParIndent))) v)))

-- where the list is a vertical one
unfoldable pub begun_in_vertical : Bool → Whole → Executed
begun_in_vertical indent w = if is_vertical w.feed.mode then paragraph_begun indent w else on w

-- ---- The end

abbrev pub number_cells : List Cell
number_cells =
    Par Pretolerance ∷ Par Tolerance ∷ Par LinePenalty ∷ Par HyphenPenalty ∷ Par ExHyphenPenalty ∷ Par AdjDemerits ∷ Par DoubleHyphenDemerits
    ∷ Par FinalHyphenDemerits ∷ Par ClubPenalty ∷ Par WidowPenalty ∷ Par BrokenPenalty ∷ Par InterLinePenalty ∷ []

abbrev pub end_cells : List Cell
end_cells = Par HSize ∷ Par LeftSkip ∷ Par RightSkip ∷ Par ParFillSkip ∷ number_cells

abbrev pub number_at : Whole → Parameter → ℤ
number_at w p = number_of (tells w (Par p))

abbrev pub break_rules : Whole → BreakRules
break_rules w =
    record {
      pretolerance = number_at w Pretolerance;
      tolerance = number_at w Tolerance;
      line_penalty = number_at w LinePenalty;
      hyphen_penalty = number_at w HyphenPenalty;
      ex_hyphen_penalty = number_at w ExHyphenPenalty;
      adj_demerits = number_at w AdjDemerits;
      double_hyphen_demerits = number_at w DoubleHyphenDemerits;
      final_hyphen_demerits = number_at w FinalHyphenDemerits;
      club_penalty = number_at w ClubPenalty;
      widow_penalty = number_at w WidowPenalty;
      broken_penalty = number_at w BrokenPenalty;
      interline_penalty = number_at w InterLinePenalty;
      passes = Both;
    }

abbrev pub paragraph_shape : Whole → Shape
paragraph_shape w =
    record {
      width = dimension_of (tells w (Par HSize));
      left = glue_of (tells w (Par LeftSkip));
      right = glue_of (tells w (Par RightSkip));
      rules = break_rules w;
    }

-- a list without a glue at its end
abbrev pub without_last_glue : List Node → List Node
without_last_glue [] = []
without_last_glue (node ∷ []) = if is_glue node then [] else node ∷ []
without_last_glue (node ∷ next ∷ nodes) = node ∷ without_last_glue (next ∷ nodes)

abbrev pub forced_break : Node
forced_break = PenaltyNode (neg_ℤ (pos 10000))

-- a penalty of 10000, `\parfillskip` and a forced break come to the end
abbrev pub finished : Glue → List Node → List Node
finished fill nodes = without_last_glue nodes ++ PenaltyNode (pos 10000) ∷ GlueNode fill ∷ forced_break ∷ []

-- the place of the last token that was taken from a text
abbrev pub place_now : Whole → Place
place_now w = unwrap_or w.feed.place (record { file = []; line = 0 })

-- how much is missing of the shrink of a line, held within 32 bits
abbrev pub missing_of : Shape → LineSums → ℤ
missing_of shape sums = int_min (neg_ℤ (excess_in shape sums) -ℤ sums.shrink) (pos 2147483647)

abbrev pub bad_event : Shape → LineSums → Place → Event
bad_event shape sums place =
    if is_overfull_line shape sums then event.Overfull (missing_of shape sums) place.file place.line else event.Underfull place.file place.line

-- the bad lines are logged, at the place of the paragraph's end
abbrev pub line_logged : Shape → List Node → ℕ → BreakEnd → Whole → Whole
line_logged shape nodes i end w =
    if end.is_bad then appended (append.Log (log_line (bad_event shape (sums_of (line_items shape nodes i (end.item + 1))) (place_now w)))) w else w

abbrev pub lines_logged : Shape → List Node → ℕ → List BreakEnd → Whole → Whole
lines_logged shape nodes i [] w = w
lines_logged shape nodes i (end ∷ ends) w = lines_logged shape nodes (end.item + 1) ends (line_logged shape nodes i end w)

-- a line is added as a box, behind the glue between lines; what moves out of it and the penalty behind it are added as they are
abbrev pub line_box_added : Node → Node-F HeadMark Node Boxed Discretionary → Whole → Executed
line_box_added node (InnerBox box) w = box_added box w
line_box_added node _ w = added node w

abbrev pub line_added : Result (List Node) Kind → Whole → Executed
line_added (Err kind) w = stop kind w
line_added (Ok []) w = on w
line_added (Ok (line ∷ nodes)) w = and_then (line_box_added line (out-Node line) w) (all_added nodes)

unfoldable pub lines_added : Shape → List Node → ℕ → List BreakEnd → Whole → Executed
lines_added shape nodes i [] w = on w
lines_added shape nodes i (end ∷ ends) w =
    and_then (line_added (set_line shape nodes i (end.item + 1) (length ends)) w) (lines_added shape nodes (end.item + 1) ends)

-- where each line can be made, all bad lines are logged, and then the lines are added
abbrev pub lines_placed : Result (List Node) Kind → Shape → List Node → List BreakEnd → Whole → Executed
lines_placed (Err kind) shape nodes ends w = stop kind w
lines_placed (Ok lines) shape nodes ends w = lines_added shape nodes 0 ends (lines_logged shape nodes 0 ends w)

abbrev pub broken_at : Shape → List Node → List BreakEnd → Whole → Executed
broken_at shape nodes ends w = lines_placed (lines_of shape nodes ends) shape nodes ends w

abbrev pub broken : Result BreakList Kind → Shape → List Node → Whole → Executed
broken (Err kind) shape nodes w = stop kind w
broken (Ok breaks) shape nodes w = broken_at shape nodes breaks.ends w

abbrev pub broken_into_lines : Shape → List Node → Whole → Executed
broken_into_lines shape nodes w = broken (breaks_of shape nodes) shape nodes w

-- its list is left, and its lines come into the list around
abbrev pub paragraph_broken : Whole → Executed
paragraph_broken w =
    looking end_cells
    (looking line_cells (broken_into_lines (paragraph_shape w) (finished (glue_of (tells w (Par ParFillSkip))) w.level.nodes) (left_level w)))

abbrev pub ended_in : ListKind → Whole → Executed
ended_in list.Paragraph w = paragraph_broken w
ended_in kind w = on w

-- a paragraph ends, where one is open
unfoldable pub paragraph_ended : Whole → Executed
paragraph_ended w = ended_in w.level.kind w
