-- At the start each cell holds what it may hold.
use Rattle.std.proofs.Common.{◌≡◌, ◌∙◌, ℕ, Bool, true, false, not, cond, ◌&&◌, ◌||◌, ◌==◌, List, [], ◌∷◌, Option, Some, None, is_some, nat_lt, nat_eq, refl, sym, ap, ℤ, pos}
use Rattle.std.specs.Option.{option_map_or}
use Rattle.std.specs.Map.{lookup}
use Rattle.std.specs.Cmp.Lexicographic.{pointwise}
use Rattle.lb_rows.specs.declared.command.Command.{Command}
use Rattle.lb_rows.specs.declared.parameter.Parameter as parameters
use Rattle.lb_rows.specs.declared.parameter.Parameter.TheVariants.{AdjDemerits, BaselineSkip, BrokenPenalty, ClubPenalty, Day, DoubleHyphenDemerits, EvenSideMargin, ExHyphenPenalty, FinalHyphenDemerits, FootSkip, HeadHeight, HeadSep, HSize, HyphenPenalty, InterLinePenalty, LeftSkip, LinePenalty, LineSkip, LineSkipLimit, MaxDepth, Month, OddSideMargin, ParFillSkip, ParIndent, ParSkip, Pretolerance, RightSkip, TextHeight, TextWidth, Time, Tolerance, TopMargin, TopSkip, WidowPenalty, Year}
use Rattle.lb_rows.specs.Parameters.{parameter_kind}
use Rattle.lb_values.specs.declared.cell.Cell.{Cell}
use Rattle.lb_values.specs.declared.cell.Cell.TheVariants as cell
use Rattle.lb_values.specs.declared.meaning.Meaning.TheVariants as meaning
use Rattle.lb_values.specs.declared.value.Value.{Value}
use Rattle.lb_values.specs.declared.value.Value.TheVariants as value
use Rattle.lb_model.specs.Ranges.{fits, is_number, is_between}
use Rattle.lb_model.specs.StartLists.{start_counters, counter_at_start, resets_at_start}
use Rattle.lb_model.specs.StartState.{start, start_parameter, start_space_factor, is_upper, parameter_meaning}

word : (name : List ℕ) (command : Option Command) (parameter : Option parameters.Parameter) → fits (cell.Word name) (option_map_or (λ c. value.Meaning (meaning.Row c)) command (option_map_or parameter_meaning parameter value.Absent)) ≡ true
word name (Some command) parameter = refl
word name None (Some parameter) = refl
word name None None = refl

cat : (code : ℕ) (v : Value) (b : Bool) → nat_lt code 256 ≡ b → fits (cell.Cat code) v ≡ true → fits (cell.Cat code) (cond b v value.Absent) ≡ true
cat code v true e h = h
cat code v false e h = ap not e

lc : (code : ℕ) (v : Value) (b : Bool) → nat_lt code 256 ≡ b → fits (cell.Lc code) v ≡ true → fits (cell.Lc code) (cond b v value.Absent) ≡ true
lc code v true e h = h
lc code v false e h = ap not e

uc : (code : ℕ) (v : Value) (b : Bool) → nat_lt code 256 ≡ b → fits (cell.Uc code) v ≡ true → fits (cell.Uc code) (cond b v value.Absent) ≡ true
uc code v true e h = h
uc code v false e h = ap not e

sf : (code : ℕ) (v : Value) (b : Bool) → nat_lt code 256 ≡ b → fits (cell.Sf code) v ≡ true → fits (cell.Sf code) (cond b v value.Absent) ≡ true
sf code v true e h = h
sf code v false e h = ap not e

factor_by : (a b c d e f : Bool) → is_between (pos 0) (pos 32767) (pos (cond a 999 (cond b 3000 (cond c 2000 (cond d 1500 (cond e 1250 (cond f 0 1000))))))) ≡ true
factor_by true b c d e f = refl
factor_by false true c d e f = refl
factor_by false false true d e f = refl
factor_by false false false true e f = refl
factor_by false false false false true f = refl
factor_by false false false false false true = refl
factor_by false false false false false false = refl

factor : (code : ℕ) → is_between (pos 0) (pos 32767) (pos (start_space_factor code)) ≡ true
unfolding start_space_factor
factor code = factor_by (is_upper code) (code == 46 || (code == 63 || code == 33)) (code == 58) (code == 59) (code == 44) (code == 41 || (code == 39 || code == 93))

abbrev are_small : List (List ℕ × ℤ) → Bool
are_small [] = true
are_small (counter ∷ counters) = is_number counter.1 && are_small counters

number_at : (n : ℤ) (more : Option ℤ) (b : Bool) → is_number n ≡ true → option_map_or is_number more true ≡ true → option_map_or is_number (cond b (Some n) more) true ≡ true
number_at n more true here there = here
number_at n more false here there = there

left : (a b : Bool) → a && b ≡ true → a ≡ true
left true b h = refl
left false b h = h

right : (a b : Bool) → a && b ≡ true → b ≡ true
right true b h = h
right false b h = absurd (cc)

found_small : (name : List ℕ) (counters : List (List ℕ × ℤ)) → are_small counters ≡ true → option_map_or is_number (lookup (pointwise nat_eq name) counters) true ≡ true
found_small name [] h = refl
found_small name (c ∷ counters) h = number_at c.1 (lookup (pointwise nat_eq name) counters) (pointwise nat_eq name c.0) (left (is_number c.1) (are_small counters) h) (found_small name counters (right (is_number c.1) (are_small counters) h))

all_small : are_small start_counters ≡ true
unfolding start_counters
all_small = refl

parameter_fits : (p : parameters.Parameter) → fits (cell.Par p) (start_parameter p) ≡ true
unfolding start_parameter parameter_kind
parameter_fits AdjDemerits = refl
parameter_fits BaselineSkip = refl
parameter_fits BrokenPenalty = refl
parameter_fits ClubPenalty = refl
parameter_fits Day = refl
parameter_fits DoubleHyphenDemerits = refl
parameter_fits EvenSideMargin = refl
parameter_fits ExHyphenPenalty = refl
parameter_fits FinalHyphenDemerits = refl
parameter_fits FootSkip = refl
parameter_fits HeadHeight = refl
parameter_fits HeadSep = refl
parameter_fits HSize = refl
parameter_fits HyphenPenalty = refl
parameter_fits InterLinePenalty = refl
parameter_fits LeftSkip = refl
parameter_fits LinePenalty = refl
parameter_fits LineSkip = refl
parameter_fits LineSkipLimit = refl
parameter_fits MaxDepth = refl
parameter_fits Month = refl
parameter_fits OddSideMargin = refl
parameter_fits ParFillSkip = refl
parameter_fits ParIndent = refl
parameter_fits ParSkip = refl
parameter_fits Pretolerance = refl
parameter_fits RightSkip = refl
parameter_fits TextHeight = refl
parameter_fits TextWidth = refl
parameter_fits Time = refl
parameter_fits Tolerance = refl
parameter_fits TopMargin = refl
parameter_fits TopSkip = refl
parameter_fits WidowPenalty = refl
parameter_fits Year = refl

counter : (name : List ℕ) (number : Option ℤ) → counter_at_start name ≡ number → fits (cell.Counter name) (option_map_or value.Number number value.Absent) ≡ true
counter name None e = ap (λ n. not (is_some n)) e
counter name (Some n) e = sym (ap (λ m. option_map_or is_number m true) e) ∙ found_small name start_counters all_small

resets : (name : List ℕ) (names : Option (List (List ℕ))) → resets_at_start name ≡ names → fits (cell.Resets name) (option_map_or value.Names names value.Absent) ≡ true
resets name None e = ap (λ n. not (is_some n)) e
resets name (Some names) e = refl

pub start-fits : (c : Cell) → fits c (start c) ≡ true
unfolding start
start-fits (cell.Word name) = word name _ _
start-fits (cell.Cat code) = cat code _ (nat_lt code 256) refl refl
start-fits (cell.Lc code) = lc code _ (nat_lt code 256) refl refl
start-fits (cell.Uc code) = uc code _ (nat_lt code 256) refl refl
start-fits (cell.Sf code) = sf code _ (nat_lt code 256) refl (factor code)
start-fits (cell.Par parameter) = parameter_fits parameter
start-fits (cell.Counter name) = counter name _ refl
start-fits (cell.Resets name) = resets name _ refl
start-fits (cell.Active code) = refl
start-fits (cell.Count n) = refl
start-fits (cell.Dimen n) = refl
start-fits (cell.Skip n) = refl
start-fits (cell.Toks n) = refl
start-fits (cell.Boxed n) = refl
start-fits (cell.Fresh kind) = refl
start-fits (cell.Label key) = refl
start-fits (cell.Checkpoint name) = refl
start-fits (cell.File name) = refl
start-fits cell.Counters = refl
start-fits cell.Only = refl
start-fits cell.Body = refl
start-fits cell.Toc = refl
start-fits cell.Matter = refl
start-fits cell.PageForm = refl
start-fits cell.PageStyle = refl
start-fits cell.ThisStyle = refl
start-fits cell.LeftMark = refl
start-fits cell.RightMark = refl
start-fits cell.CurrentLabel = refl
start-fits cell.Env = refl
start-fits cell.Style = refl
start-fits cell.Size = refl
start-fits cell.Job = refl
start-fits cell.Prefix = refl
start-fits cell.Steps = refl
