-- What each cell may hold: the kind of its value, and its range (TeXbook, chapters 20 and 24; tex.web, part 17; source2e, file ltcounts).
use Rattle.std.specs.Prelude.{ℕ, suc, ◌+◌, ◌==◌, ◌&&◌, nat_lt, Bool, true, false, not, List, [], ◌∷◌, ℤ, pos, nat_abs, int_lt, is_some, if◌then◌else◌}
use Rattle.lb_base.specs.declared.glue.Glue.{Glue}
use Rattle.lb_base.specs.declared.token.Tok.{Tok}
use Rattle.lb_base.specs.declared.token.Tok.TheVariants as token
use Rattle.lb_rows.specs.declared.parameter.Parameter.{Parameter}
use Rattle.lb_rows.specs.declared.parameter.Parameter.TheVariants.{Year, Month, Day, Time}
use Rattle.lb_rows.specs.declared.parameter.ParameterKind.{ParameterKind}
use Rattle.lb_rows.specs.declared.parameter.ParameterKind.TheVariants as parameter
use Rattle.lb_rows.specs.Parameters.{parameter_kind}
use Rattle.lb_values.specs.declared.cell.Cell.{Cell}
use Rattle.lb_values.specs.declared.cell.Cell.TheVariants.{Word, Active, Cat, Lc, Uc, Sf, Count, Dimen, Skip, Toks, Boxed, Par, Counter, Counters, Resets, Fresh, Label, Checkpoint, Only, Body, Toc, Matter, PageForm, PageStyle, ThisStyle, LeftMark, RightMark, CurrentLabel, Env, Style, Size, Job, Prefix, Steps, File}
use Rattle.lb_values.specs.declared.meaning.Meaning.{Meaning}
use Rattle.lb_values.specs.declared.meaning.Meaning.TheVariants as meaning
use Rattle.lb_values.specs.declared.meaning.MacroDef.{MacroDef}
use Rattle.lb_values.specs.declared.meaning.Pattern.{Pattern}
use Rattle.lb_values.specs.declared.value.Value.{Value}
use Rattle.lb_values.specs.declared.value.Value.TheVariants as value
use Rattle.lb_model.specs.StartLists.{counter_at_start, resets_at_start}

-- ---- Macros

-- whether the parameters among the tokens are numbered in order, from the one after n
abbrev pub in_order : ℕ → List Tok → Bool
in_order n [] = true
in_order n (token.Param k ∷ tokens) = (k == suc n) && in_order (suc n) tokens
in_order n (_ ∷ tokens) = in_order n tokens

abbrev pub parameters_among : List Tok → ℕ
parameters_among [] = 0
parameters_among (token.Param k ∷ tokens) = suc (parameters_among tokens)
parameters_among (_ ∷ tokens) = parameters_among tokens

-- how many parameters stand before those among the tokens: an optional first argument is parameter 1
abbrev pub optional_parameters : Pattern → ℕ
optional_parameters pattern = if is_some pattern.first then 1 else 0

abbrev pub parameter_count : Pattern → ℕ
parameter_count pattern = optional_parameters pattern + parameters_among pattern.tokens

-- a pattern has at most nine parameters, numbered in order
abbrev pub is_pattern : Pattern → Bool
is_pattern pattern = nat_lt (parameter_count pattern) 10 && in_order (optional_parameters pattern) pattern.tokens

-- each parameter among the tokens is one of the first n
abbrev pub has_parameters : ℕ → List Tok → Bool
has_parameters n [] = true
has_parameters n (token.Param k ∷ tokens) = (nat_lt 0 k && nat_lt k (suc n)) && has_parameters n tokens
has_parameters n (_ ∷ tokens) = has_parameters n tokens

-- each parameter of the body is one of the pattern's
abbrev pub is_macro : MacroDef → Bool
is_macro definition = is_pattern definition.pattern && has_parameters (parameter_count definition.pattern) definition.body

abbrev pub is_meaning : Meaning → Bool
is_meaning (meaning.Macro definition) = is_macro definition
is_meaning _ = true

-- ---- Numbers

-- the numbers of 32 bits without the least
abbrev pub is_number : ℤ → Bool
is_number n = nat_lt (nat_abs n) 2147483648

-- lengths are below 2^30 in size
abbrev pub is_dimension : ℤ → Bool
is_dimension n = nat_lt (nat_abs n) 1073741824

abbrev pub is_glue : Glue → Bool
is_glue glue = is_dimension glue.width && (is_dimension glue.stretch && is_dimension glue.shrink)

abbrev pub is_between : ℤ → ℤ → ℤ → Bool
is_between least most n = not (int_lt n least) && not (int_lt most n)

abbrev pub are_numbers : List (List ℕ × ℤ) → Bool
are_numbers [] = true
are_numbers (counter ∷ counters) = is_number counter.1 && are_numbers counters

-- ---- Cells

-- what a parameter of a kind may hold
abbrev pub fits_parameter : ParameterKind → Value → Bool
fits_parameter parameter.Number (value.Number n) = is_number n
fits_parameter parameter.Dimension (value.Dimen n) = is_dimension n
fits_parameter parameter.Glue (value.Glue glue) = is_glue glue
fits_parameter _ _ = false

-- what a cell that has a value may hold
abbrev pub fits_present : Cell → Value → Bool
fits_present (Word name) (value.Meaning m) = is_meaning m
fits_present (Active code) (value.Meaning m) = is_meaning m
fits_present (Cat code) (value.Category category) = true
fits_present (Lc code) (value.Code form) = true
fits_present (Uc code) (value.Code form) = true
fits_present (Sf code) (value.Number n) = is_between (pos 0) (pos 32767) n
fits_present (Count n) (value.Number number) = is_number number
fits_present (Dimen n) (value.Dimen number) = is_dimension number
fits_present (Skip n) (value.Glue glue) = is_glue glue
fits_present (Toks n) (value.Tokens tokens) = true
fits_present (Boxed n) (value.Boxed boxed) = true
fits_present (Par p) v = fits_parameter (parameter_kind p) v
fits_present (Counter name) (value.Number n) = is_number n
fits_present Counters (value.Names names) = true
fits_present (Resets name) (value.Names names) = true
fits_present (Fresh kind) (value.Number n) = is_between (pos 30) (pos 256) n
fits_present (Label key) (value.Label pair) = true
fits_present (Checkpoint name) (value.Checkpoint counters) = are_numbers counters
fits_present Only (value.Names names) = true
fits_present Body (value.Number n) = is_between (pos 0) (pos 1) n
fits_present Toc (value.Number n) = is_between (pos 0) (pos 1) n
fits_present Matter (value.Number n) = is_between (pos 0) (pos 2) n
fits_present PageForm (value.Form form) = true
fits_present PageStyle (value.PageStyle style) = true
fits_present ThisStyle (value.PageStyle style) = true
fits_present LeftMark (value.Boxed boxed) = true
fits_present RightMark (value.Boxed boxed) = true
fits_present CurrentLabel (value.Text text) = true
fits_present Env (value.Name name) = true
fits_present Style (value.Number n) = is_between (pos 0) (pos 5) n
fits_present Size (value.Number n) = is_between (pos 0) (pos 9) n
fits_present _ _ = false

abbrev pub is_date : Parameter → Bool
is_date Year = true
is_date Month = true
is_date Day = true
is_date Time = true
is_date _ = false

-- whether a cell may be without a value in a state
abbrev pub may_be_absent : Cell → Bool
may_be_absent (Cat code) = not (nat_lt code 256)
may_be_absent (Lc code) = not (nat_lt code 256)
may_be_absent (Uc code) = not (nat_lt code 256)
may_be_absent (Sf code) = not (nat_lt code 256)
may_be_absent (Par p) = is_date p
may_be_absent (Counter name) = not (is_some (counter_at_start name))
may_be_absent Counters = false
may_be_absent (Resets name) = not (is_some (resets_at_start name))
may_be_absent (Fresh kind) = false
may_be_absent Body = false
may_be_absent Toc = false
may_be_absent Matter = false
may_be_absent PageForm = false
may_be_absent PageStyle = false
may_be_absent CurrentLabel = false
may_be_absent Env = false
may_be_absent Style = false
may_be_absent Size = false
may_be_absent _ = true

-- what a cell may hold in a state
abbrev pub fits : Cell → Value → Bool
fits cell value.Absent = may_be_absent cell
fits cell v = fits_present cell v

-- whether a cell is of the state, and not of the world
abbrev pub is_of_state : Cell → Bool
is_of_state Job = false
is_of_state Prefix = false
is_of_state Steps = false
is_of_state (File name) = false
is_of_state _ = true

abbrev pub is_absent : Value → Bool
is_absent value.Absent = true
is_absent _ = false

abbrev pub is_date_cell : Cell → Bool
is_date_cell (Par p) = is_date p
is_date_cell _ = false

-- whether a cell may be set to a value: none of the world, and none of the date to Absent, since it then told the moment
abbrev pub is_settable : Cell → Value → Bool
is_settable cell v = is_of_state cell && not (is_date_cell cell && is_absent v)
