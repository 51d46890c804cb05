-- The state in which a book begins (TeXbook, chapters 7, 11 and 12 for the codes; plain TeX and book.cls for the parameters).
use Rattle.std.specs.Prelude.{ℕ, ◌*◌, ◌+◌, ◌-◌, ◌==◌, ◌||◌, ◌&&◌, nat_lt, Bool, cond, List, [], ◌∷◌, Option, None, Some, nat_eq, if◌then◌else◌, ℤ, pos}
use Rattle.std.specs.Option.{option_map_or}
use Rattle.std.specs.Cmp.Lexicographic.{pointwise}
use Rattle.lb_base.specs.declared.glue.Order.TheVariants.{Finite, Fil}
use Rattle.lb_base.specs.declared.token.Category.{Category}
use Rattle.lb_base.specs.declared.token.Category.TheVariants.{Escape, BeginGroup, EndGroup, MathShift, AlignmentTab, EndOfLine, Parameter, Superscript, Subscript, Ignored, Space, Letter, Other, Active, Comment, Invalid}
use Rattle.lb_rows.specs.Commands.{command_name, command_rows}
use Rattle.lb_rows.specs.Parameters.{parameter_name, parameter_rows}
use Rattle.lb_rows.specs.declared.parameter.Parameter as parameters
use Rattle.lb_rows.specs.declared.parameter.Parameter.TheVariants.{AdjDemerits, BaselineSkip, BrokenPenalty, ClubPenalty, Day, DoubleHyphenDemerits, EvenSideMargin, ExHyphenPenalty, FinalHyphenDemerits, FootSkip, HeadHeight, HeadSep, HSize, HyphenPenalty, InterLinePenalty, LeftSkip, LinePenalty, LineSkip, LineSkipLimit, MaxDepth, Month, OddSideMargin, ParFillSkip, ParIndent, ParSkip, Pretolerance, RightSkip, TextHeight, TextWidth, Time, Tolerance, TopMargin, TopSkip, WidowPenalty, Year}
use Rattle.lb_values.specs.declared.cell.Cell.{Cell}
use Rattle.lb_values.specs.declared.cell.Cell.TheVariants as cell
use Rattle.lb_values.specs.declared.meaning.Meaning.TheVariants as meaning
use Rattle.lb_values.specs.declared.meaning.Register.TheVariants as register
use Rattle.lb_values.specs.declared.value.Form.TheVariants.{Arabic}
use Rattle.lb_values.specs.declared.value.PageStyle.TheVariants.{Plain}
use Rattle.lb_values.specs.declared.value.Value.{Value}
use Rattle.lb_values.specs.declared.value.Value.TheVariants as value
use Rattle.lb_model.specs.StartLists.{checkpoint_names, counter_at_start, resets_at_start}

-- ---- Codes

abbrev pub is_upper : ℕ → Bool
is_upper code = nat_lt 64 code && nat_lt code 91

abbrev pub is_lower : ℕ → Bool
is_lower code = nat_lt 96 code && nat_lt code 123

unfoldable pub start_category : ℕ → Category
start_category code =
    if is_upper code || is_lower code then Letter
    else if code == 92 then Escape
    else if code == 123 then BeginGroup
    else if code == 125 then EndGroup
    else if code == 36 then MathShift
    else if code == 38 then AlignmentTab
    else if code == 13 then EndOfLine
    else if code == 35 then Parameter
    else if code == 94 then Superscript
    else if code == 95 then Subscript
    else if code == 0 then Ignored
    else if code == 32 || code == 9 then Space
    else if code == 126 || code == 12 then Active
    else if code == 37 then Comment
    else if code == 127 then Invalid
    else Other

-- the lower-case form of a letter, and 0 of what is none
unfoldable pub start_lower : ℕ → ℕ
start_lower code = if is_upper code then code + 32 else if is_lower code then code else 0

unfoldable pub start_upper : ℕ → ℕ
start_upper code = if is_lower code then code - 32 else if is_upper code then code else 0

unfoldable pub start_space_factor : ℕ → ℕ
start_space_factor code =
    if is_upper code then 999
    else if code == 46 || (code == 63 || code == 33) then 3000
    else if code == 58 then 2000
    else if code == 59 then 1500
    else if code == 44 then 1250
    else if code == 41 || (code == 39 || code == 93) then 0
    else 1000

-- a value for each code from 0 to 255
abbrev pub coded : ℕ → Value → Value
coded code v = cond (nat_lt code 256) v value.Absent

-- ---- Parameters

abbrev pub points : ℕ → ℤ
points n = pos (n * 65536)

-- glue in points, with finite stretch
abbrev pub stretching : ℕ → ℕ → Value
stretching width stretch = value.Glue (record { width = points width; stretch = points stretch; stretch_order = Finite; shrink = pos 0; shrink_order = Finite })

unfoldable pub start_parameter : parameters.Parameter → Value
start_parameter AdjDemerits = value.Number (pos 10000)
start_parameter BaselineSkip = stretching 12 0
start_parameter BrokenPenalty = value.Number (pos 100)
start_parameter ClubPenalty = value.Number (pos 150)
start_parameter Day = value.Absent
start_parameter DoubleHyphenDemerits = value.Number (pos 10000)
start_parameter EvenSideMargin = value.Dimen (points 0)
start_parameter ExHyphenPenalty = value.Number (pos 50)
start_parameter FinalHyphenDemerits = value.Number (pos 5000)
start_parameter FootSkip = value.Dimen (points 25)
start_parameter HeadHeight = value.Dimen (points 12)
start_parameter HeadSep = value.Dimen (points 18)
start_parameter HSize = value.Dimen (points 345)
start_parameter HyphenPenalty = value.Number (pos 50)
start_parameter InterLinePenalty = value.Number (pos 0)
start_parameter LeftSkip = stretching 0 0
start_parameter LinePenalty = value.Number (pos 10)
start_parameter LineSkip = stretching 1 0
start_parameter LineSkipLimit = value.Dimen (points 0)
start_parameter MaxDepth = value.Dimen (points 5)
start_parameter Month = value.Absent
start_parameter OddSideMargin = value.Dimen (points 0)
start_parameter ParFillSkip = value.Glue (record { width = pos 0; stretch = points 1; stretch_order = Fil; shrink = pos 0; shrink_order = Finite })
start_parameter ParIndent = value.Dimen (points 15)
start_parameter ParSkip = stretching 0 1
start_parameter Pretolerance = value.Number (pos 100)
start_parameter RightSkip = stretching 0 0
start_parameter TextHeight = value.Dimen (points 538)
start_parameter TextWidth = value.Dimen (points 345)
start_parameter Time = value.Absent
start_parameter Tolerance = value.Number (pos 200)
start_parameter TopMargin = value.Dimen (points 0)
start_parameter TopSkip = stretching 10 0
start_parameter WidowPenalty = value.Number (pos 150)
start_parameter Year = value.Absent

-- ---- Meanings

-- the first row with a name
abbrev pub row_named : {X : Type 0} → (X → List ℕ) → List X → List ℕ → Option X
row_named name_of [] name = None
row_named name_of (row ∷ rows) name = cond (pointwise nat_eq (name_of row) name) (Some row) (row_named name_of rows name)

abbrev pub parameter_meaning : parameters.Parameter → Value
parameter_meaning parameter = value.Meaning (meaning.Register (register.Par parameter))

-- a control sequence means the command or the parameter of its name, if there is one
abbrev pub start_meaning : List ℕ → Value
start_meaning name =
    option_map_or (λ command. value.Meaning (meaning.Row command)) (row_named command_name command_rows name) (
    option_map_or parameter_meaning (row_named parameter_name parameter_rows name) value.Absent
    )

-- ---- The state

unfoldable pub start : Cell → Value
start (cell.Word name) = start_meaning name
start (cell.Cat code) = coded code (value.Category (start_category code))
start (cell.Lc code) = coded code (value.Code (start_lower code))
start (cell.Uc code) = coded code (value.Code (start_upper code))
start (cell.Sf code) = coded code (value.Number (pos (start_space_factor code)))
start (cell.Par parameter) = start_parameter parameter
start (cell.Counter name) = option_map_or value.Number (counter_at_start name) value.Absent
start cell.Counters = value.Names checkpoint_names
start (cell.Resets name) = option_map_or value.Names (resets_at_start name) value.Absent
start (cell.Fresh kind) = value.Number (pos 30)
start cell.Body = value.Number (pos 0)
start cell.Toc = value.Number (pos 0)
start cell.Matter = value.Number (pos 1)
start cell.PageForm = value.Form Arabic
start cell.PageStyle = value.PageStyle Plain
start cell.CurrentLabel = value.Text []
start cell.Env = value.Name []
start cell.Style = value.Number (pos 0)
start cell.Size = value.Number (pos 4)
start _ = value.Absent
