-- The parameters, their names without the escape character, and what they hold (TeXbook, chapter 24, and for
-- the layout of pages LaTeX, section C.5).
use Rattle.std.specs.Prelude.{ℕ, List, [], ◌∷◌, map, codes}
use Rattle.lb_rows.specs.declared.parameter.ParameterKind.{ParameterKind}
use Rattle.lb_rows.specs.declared.parameter.ParameterKind.TheVariants.{Number, Dimension, Glue}
use Rattle.lb_rows.specs.declared.parameter.Parameter.{Parameter}
use Rattle.lb_rows.specs.declared.parameter.Parameter.TheVariants.{AdjDemerits, BaselineSkip, BrokenPenalty, ClubPenalty, Day, DoubleHyphenDemerits, EvenSideMargin, ExHyphenPenalty, FinalHyphenDemerits, FootSkip, HeadHeight, HeadSep, HSize, HyphenPenalty, InterLinePenalty, LeftSkip, LinePenalty, LineSkip, LineSkipLimit, MaxDepth, Month, OddSideMargin, ParFillSkip, ParIndent, ParSkip, Pretolerance, RightSkip, TextHeight, TextWidth, Time, Tolerance, TopMargin, TopSkip, WidowPenalty, Year}

unfoldable pub parameter_name : Parameter → List ℕ
parameter_name AdjDemerits = codes "adjdemerits"
parameter_name BaselineSkip = codes "baselineskip"
parameter_name BrokenPenalty = codes "brokenpenalty"
parameter_name ClubPenalty = codes "clubpenalty"
parameter_name Day = codes "day"
parameter_name DoubleHyphenDemerits = codes "doublehyphendemerits"
parameter_name EvenSideMargin = codes "evensidemargin"
parameter_name ExHyphenPenalty = codes "exhyphenpenalty"
parameter_name FinalHyphenDemerits = codes "finalhyphendemerits"
parameter_name FootSkip = codes "footskip"
parameter_name HeadHeight = codes "headheight"
parameter_name HeadSep = codes "headsep"
parameter_name HSize = codes "hsize"
parameter_name HyphenPenalty = codes "hyphenpenalty"
parameter_name InterLinePenalty = codes "interlinepenalty"
parameter_name LeftSkip = codes "leftskip"
parameter_name LinePenalty = codes "linepenalty"
parameter_name LineSkip = codes "lineskip"
parameter_name LineSkipLimit = codes "lineskiplimit"
parameter_name MaxDepth = codes "maxdepth"
parameter_name Month = codes "month"
parameter_name OddSideMargin = codes "oddsidemargin"
parameter_name ParFillSkip = codes "parfillskip"
parameter_name ParIndent = codes "parindent"
parameter_name ParSkip = codes "parskip"
parameter_name Pretolerance = codes "pretolerance"
parameter_name RightSkip = codes "rightskip"
parameter_name TextHeight = codes "textheight"
parameter_name TextWidth = codes "textwidth"
parameter_name Time = codes "time"
parameter_name Tolerance = codes "tolerance"
parameter_name TopMargin = codes "topmargin"
parameter_name TopSkip = codes "topskip"
parameter_name WidowPenalty = codes "widowpenalty"
parameter_name Year = codes "year"

unfoldable pub parameter_kind : Parameter → ParameterKind
parameter_kind AdjDemerits = Number
parameter_kind BaselineSkip = Glue
parameter_kind BrokenPenalty = Number
parameter_kind ClubPenalty = Number
parameter_kind Day = Number
parameter_kind DoubleHyphenDemerits = Number
parameter_kind EvenSideMargin = Dimension
parameter_kind ExHyphenPenalty = Number
parameter_kind FinalHyphenDemerits = Number
parameter_kind FootSkip = Dimension
parameter_kind HeadHeight = Dimension
parameter_kind HeadSep = Dimension
parameter_kind HSize = Dimension
parameter_kind HyphenPenalty = Number
parameter_kind InterLinePenalty = Number
parameter_kind LeftSkip = Glue
parameter_kind LinePenalty = Number
parameter_kind LineSkip = Glue
parameter_kind LineSkipLimit = Dimension
parameter_kind MaxDepth = Dimension
parameter_kind Month = Number
parameter_kind OddSideMargin = Dimension
parameter_kind ParFillSkip = Glue
parameter_kind ParIndent = Dimension
parameter_kind ParSkip = Glue
parameter_kind Pretolerance = Number
parameter_kind RightSkip = Glue
parameter_kind TextHeight = Dimension
parameter_kind TextWidth = Dimension
parameter_kind Time = Number
parameter_kind Tolerance = Number
parameter_kind TopMargin = Dimension
parameter_kind TopSkip = Glue
parameter_kind WidowPenalty = Number
parameter_kind Year = Number

-- in the order of the bytes of their names
unfoldable pub parameter_rows : List Parameter
parameter_rows =
    AdjDemerits ∷ BaselineSkip ∷ BrokenPenalty ∷ ClubPenalty ∷ Day ∷ DoubleHyphenDemerits ∷ EvenSideMargin ∷
    ExHyphenPenalty ∷ FinalHyphenDemerits ∷ FootSkip ∷ HeadHeight ∷ HeadSep ∷ HSize ∷ HyphenPenalty ∷
    InterLinePenalty ∷ LeftSkip ∷ LinePenalty ∷ LineSkip ∷ LineSkipLimit ∷ MaxDepth ∷ Month ∷ OddSideMargin ∷
    ParFillSkip ∷ ParIndent ∷ ParSkip ∷ Pretolerance ∷ RightSkip ∷ TextHeight ∷ TextWidth ∷ Time ∷
    Tolerance ∷ TopMargin ∷ TopSkip ∷ WidowPenalty ∷ Year ∷ []

abbrev pub parameter_names : List (List ℕ)
parameter_names = map parameter_name parameter_rows
