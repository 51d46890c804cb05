-- The end of a paragraph: what it reads, and what it leaves.
use Rattle.std.specs.Prelude.{◌++◌, ℕ, ◌+◌, Bool, true, false, List, [], ◌∷◌, Option, Result, Ok, Err, ◌≡◌, ⊤, if◌then◌else◌}
use Rattle.lb_base.specs.declared.fault.Stop.{Stop}
use Rattle.lb_base.specs.declared.fault.Stop.TheVariants.{At, Fault, Memory}
use Rattle.lb_base.specs.declared.node.Node.{Node}
use Rattle.lb_rows.specs.declared.parameter.Parameter.TheVariants.{AdjDemerits, BrokenPenalty, ClubPenalty, DoubleHyphenDemerits, ExHyphenPenalty, FinalHyphenDemerits, HSize, HyphenPenalty, InterLinePenalty, LeftSkip, LinePenalty, ParFillSkip, Pretolerance, RightSkip, Tolerance, WidowPenalty}
use Rattle.lb_values.specs.declared.cell.Cell.{Cell}
use Rattle.lb_values.specs.declared.cell.Cell.TheVariants.{Par}
use Rattle.lb_model.specs.declared.append.Append.{Append}
use Rattle.lb_model.specs.declared.append.Append.TheVariants as append
use Rattle.lb_model.specs.declared.place.Place.{Place}
use Rattle.lb_model.specs.Kinds.{dimension_of, glue_of, number_of}
use Rattle.lb_model_paper.specs.Breaks.{line_items, sums_of}
use Rattle.lb_model_paper.specs.declared.paragraph.BreakEnd.{BreakEnd}
use Rattle.lb_model_paper.specs.declared.paragraph.Passes.TheVariants.{Both}
use Rattle.lb_model_paper.specs.declared.paragraph.Shape.{Shape}
use Rattle.lb_model_journal.specs.LogLines.{log_line}
use Rattle.lb_model_nest.specs.Paragraphs.{bad_event, broken_into_lines, finished, line_added, line_cells}
use Rattle.lb_model_nest.specs.Wholes.{Executed, Whole, and_then, left_level, looking, on, stop, tells}
use Rattle.lb_nest.specs.declared.breaking.Broken.{Broken}
use Rattle.lb_nest.specs.declared.shape.BetweenLines.{BetweenLines}
use Rattle.lb_nest.specs.declared.shape.Demerits.{Demerits}
use Rattle.lb_nest.specs.declared.shape.Ending.{Ending}
use Rattle.lb_nest.specs.declared.shape.LineLengths.{LineLengths}
use Rattle.lb_nest.specs.declared.shape.Tolerances.{Tolerances}

-- ---- What it reads

abbrev pub length_cells : List Cell
length_cells = Par HSize ∷ Par LeftSkip ∷ Par RightSkip ∷ Par ParFillSkip ∷ []

abbrev pub line_lengths : Whole → LineLengths
line_lengths w =
    record {
      width = dimension_of (tells w (Par HSize));
      left = glue_of (tells w (Par LeftSkip));
      right = glue_of (tells w (Par RightSkip));
      fill = glue_of (tells w (Par ParFillSkip));
    }

abbrev pub tolerance_cells : List Cell
tolerance_cells = Par Pretolerance ∷ Par Tolerance ∷ Par LinePenalty ∷ Par HyphenPenalty ∷ []

abbrev pub tolerances : Whole → Tolerances
tolerances w =
    record {
      pretolerance = number_of (tells w (Par Pretolerance));
      tolerance = number_of (tells w (Par Tolerance));
      line_penalty = number_of (tells w (Par LinePenalty));
      hyphen_penalty = number_of (tells w (Par HyphenPenalty));
    }

abbrev pub demerit_cells : List Cell
demerit_cells = Par ExHyphenPenalty ∷ Par AdjDemerits ∷ Par DoubleHyphenDemerits ∷ Par FinalHyphenDemerits ∷ []

abbrev pub demerits : Whole → Demerits
demerits w =
    record {
      ex_hyphen_penalty = number_of (tells w (Par ExHyphenPenalty));
      adj_demerits = number_of (tells w (Par AdjDemerits));
      double_hyphen_demerits = number_of (tells w (Par DoubleHyphenDemerits));
      final_hyphen_demerits = number_of (tells w (Par FinalHyphenDemerits));
    }

abbrev pub between_cells : List Cell
between_cells = Par ClubPenalty ∷ Par WidowPenalty ∷ Par BrokenPenalty ∷ Par InterLinePenalty ∷ []

abbrev pub between_lines : Whole → BetweenLines
between_lines w =
    record {
      club_penalty = number_of (tells w (Par ClubPenalty));
      widow_penalty = number_of (tells w (Par WidowPenalty));
      broken_penalty = number_of (tells w (Par BrokenPenalty));
      interline_penalty = number_of (tells w (Par InterLinePenalty));
    }

-- the shape of the lines, and the glue at the end of the last one
abbrev pub ending_of : LineLengths → Tolerances → Demerits → BetweenLines → Ending
ending_of l t d b =
    record {
      shape = record {
        width = l.width;
        left = l.left;
        right = l.right;
        rules = record {
          pretolerance = t.pretolerance;
          tolerance = t.tolerance;
          line_penalty = t.line_penalty;
          hyphen_penalty = t.hyphen_penalty;
          ex_hyphen_penalty = d.ex_hyphen_penalty;
          adj_demerits = d.adj_demerits;
          double_hyphen_demerits = d.double_hyphen_demerits;
          final_hyphen_demerits = d.final_hyphen_demerits;
          club_penalty = b.club_penalty;
          widow_penalty = b.widow_penalty;
          broken_penalty = b.broken_penalty;
          interline_penalty = b.interline_penalty;
          passes = Both;
        };
      };
      fill = l.fill;
    }

abbrev pub ending : Whole → Ending
ending w = ending_of (line_lengths w) (tolerances w) (demerits w) (between_lines w)

-- what is done once that is known
abbrev pub broken_by : Ending → Whole → Executed
broken_by e w = broken_into_lines e.shape (finished e.fill w.level.nodes) (left_level w)

abbrev pub ended_by : Ending → Whole → Executed
ended_by e w = looking line_cells (broken_by e w)

-- ---- Bad lines

-- what is logged of a line from break i
abbrev pub bad_line : Place → Shape → List Node → ℕ → BreakEnd → List Append
bad_line place shape nodes i end =
    if end.is_bad then append.Log (log_line (bad_event shape (sums_of (line_items shape nodes i (end.item + 1))) place)) ∷ [] else []

-- what is logged of the lines from break i on
abbrev pub bad_lines : Place → Shape → List Node → ℕ → List BreakEnd → List Append
bad_lines place shape nodes i [] = []
bad_lines place shape nodes i (end ∷ ends) = bad_line place shape nodes i end ++ bad_lines place shape nodes (end.item + 1) ends

abbrev pub has_bad : List BreakEnd → Bool
has_bad [] = false
has_bad (end ∷ ends) = if end.is_bad then true else has_bad ends

-- ---- Lines

-- lines are added that are made already
abbrev pub made_added : List (List Node) → Whole → Executed
made_added [] w = on w
made_added (line ∷ lines) w = and_then (line_added (Ok line) w) (made_added lines)

-- the place where no token was taken from a text
abbrev pub nowhere : Place
nowhere = record { file = []; line = 0 }

-- these are logged
abbrev pub logged : List Append → Whole → Whole
logged appends w = record w { feed = record w.feed { appends = w.feed.appends ++ appends } }

-- what a list is broken into at a place, or why there are no lines
abbrev pub MakesLines : Shape → List Node → Option Place → Result Broken Stop → Type 0
MakesLines shape nodes place (Ok broken) = (w : Whole) → w.feed.place ≡ place → broken_into_lines shape nodes w ≡ made_added broken.lines (logged broken.bad w)
MakesLines shape nodes place (Err Memory) = ⊤
MakesLines shape nodes place (Err (Fault kind)) = (w : Whole) → broken_into_lines shape nodes w ≡ stop kind w
MakesLines shape nodes place (Err (At fault)) = ⊥
