-- The entries of the state in which a book begins, by the kinds of their cells.
use Rattle.std.specs.Prelude.{ℕ, cond, nat_lt, List, [], ◌∷◌, Option, Some, None, pos}
use Rattle.lb_rows.specs.Commands.{command_name, command_rows}
use Rattle.lb_rows.specs.Parameters.{parameter_name, parameter_rows}
use Rattle.lb_values.specs.declared.cell.Cell.{Cell}
use Rattle.lb_values.specs.declared.cell.Cell.TheVariants.{Word, Cat, Lc, Uc, Sf, Par, Counter, Counters, Resets, Fresh, Body, Toc, Matter, PageForm, PageStyle, CurrentLabel, Env, Style, Size}
use Rattle.lb_values.specs.declared.cell.RegisterKind.TheVariants as kind
use Rattle.lb_values.specs.declared.meaning.Meaning.TheVariants as meaning
use Rattle.lb_values.specs.declared.value.Form.TheVariants.{Arabic}
use Rattle.lb_values.specs.declared.value.PageStyle.TheVariants.{Plain}
use Rattle.lb_values.specs.declared.value.Value.{Value}
use Rattle.lb_values.specs.declared.value.Value.TheVariants as value
use Rattle.lb_values.specs.Kept.{put}
use Rattle.lb_model.specs.StartLists.{checkpoint_names, start_counters, start_resets}
use Rattle.lb_model.specs.StartState.{parameter_meaning, start_category, start_lower, start_upper, start_space_factor, start_parameter}

-- what is stored for each cell, None where there is no entry
abbrev pub Entries : Type 0
Entries = Cell → Option Value

-- each row's cell holds the row's value; of rows with one cell, the first counts
abbrev pub rows_over : {X : Type 0} → (X → Cell) → (X → Value) → List X → Entries → Entries
rows_over cell_of value_of [] f = f
rows_over cell_of value_of (x ∷ rows) f = put (cell_of x) (Some (value_of x)) (rows_over cell_of value_of rows f)

-- a control sequence for each command, and for each parameter
abbrev pub commands_over : Entries → Entries
commands_over = rows_over (λ command. Word (command_name command)) (λ command. value.Meaning (meaning.Row command)) command_rows

abbrev pub parameter_words_over : Entries → Entries
parameter_words_over = rows_over (λ parameter. Word (parameter_name parameter)) parameter_meaning parameter_rows

-- the values of the parameters
abbrev pub parameters_over : Entries → Entries
parameters_over = rows_over Par start_parameter parameter_rows

-- the numbers of the counters, and those that a step of each resets
abbrev pub counters_over : Entries → Entries
counters_over = rows_over (λ counter. Counter counter.0) (λ counter. value.Number counter.1) start_counters

abbrev pub resets_over : Entries → Entries
resets_over = rows_over (λ row. Resets row.0) (λ row. value.Names row.1) start_resets

-- the four values of each code below this one
abbrev pub codes_below : ℕ → Entries → Entries
codes_below end f (Cat code) = cond (nat_lt code end) (Some (value.Category (start_category code))) (f (Cat code))
codes_below end f (Lc code) = cond (nat_lt code end) (Some (value.Code (start_lower code))) (f (Lc code))
codes_below end f (Uc code) = cond (nat_lt code end) (Some (value.Code (start_upper code))) (f (Uc code))
codes_below end f (Sf code) = cond (nat_lt code end) (Some (value.Number (pos (start_space_factor code)))) (f (Sf code))
codes_below end f cell = f cell

-- the four values of one code
abbrev pub code_over : ℕ → Entries → Entries
code_over code f =
    put (Sf code) (Some (value.Number (pos (start_space_factor code)))) (put (Uc code) (Some (value.Code (start_upper code))) (
    put (Lc code) (Some (value.Code (start_lower code))) (put (Cat code) (Some (value.Category (start_category code))) f)
    ))

-- the next free register of each kind
abbrev pub fresh_over : Entries → Entries
fresh_over f =
    put (Fresh kind.Boxed) (Some (value.Number (pos 30))) (put (Fresh kind.Toks) (Some (value.Number (pos 30))) (
    put (Fresh kind.Skip) (Some (value.Number (pos 30))) (put (Fresh kind.Dimen) (Some (value.Number (pos 30))) (
    put (Fresh kind.Count) (Some (value.Number (pos 30))) f
    ))
    ))

-- what tells where the text stands in the book, and how its pages look
abbrev pub layout_over : Entries → Entries
layout_over f =
    put PageStyle (Some (value.PageStyle Plain)) (put PageForm (Some (value.Form Arabic)) (
    put Matter (Some (value.Number (pos 1))) (put Toc (Some (value.Number (pos 0))) (put Body (Some (value.Number (pos 0))) f))
    ))

-- the label, the environment and the font of the text
abbrev pub text_over : Entries → Entries
text_over f =
    put Size (Some (value.Number (pos 4))) (put Style (Some (value.Number (pos 0))) (
    put Env (Some (value.Name [])) (put CurrentLabel (Some (value.Text [])) f)
    ))

-- the counters of a checkpoint
abbrev pub checkpoint_over : Entries → Entries
checkpoint_over f = put Counters (Some (value.Names checkpoint_names)) f

-- what is read off tables
abbrev pub tables : Entries
tables = resets_over (counters_over (commands_over (parameter_words_over (parameters_over (λ _. None)))))

-- the entries of the state in which a book begins
abbrev pub start_entries : Entries
start_entries = text_over (layout_over (fresh_over (checkpoint_over (codes_below 256 tables))))
