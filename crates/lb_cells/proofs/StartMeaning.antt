-- What the entries of the state in which a book begins mean.
use Rattle.std.proofs.Common.{◌≡◌, ℕ, Bool, true, false, cond, nat_eq, nat_lt, pos, List, [], ◌∷◌, Option, Some, None, refl, ap, ◌∙◌, zero, suc, slice_get}
use Rattle.std.specs.Prelude.{unwrap_or}
use Rattle.std.specs.Option.{option_and_then, option_map_or}
use Rattle.std.specs.Map.{lookup}
use Rattle.std.specs.Cmp.Lexicographic.{pointwise, nat_list_eq_equiv}
use Rattle.lb_rows.specs.Commands.{command_name, command_rows}
use Rattle.lb_rows.specs.Parameters.{parameter_name, parameter_rows}
use Rattle.lb_rows.specs.declared.parameter.Parameter.{Parameter}
use Rattle.lb_rows.proofs.Placed.{parameter_placed}
use Rattle.lb_values.specs.Cells.{cell_eq}
use Rattle.lb_values.proofs.SameCells.{cell_eq-refl, cell_eq-true}
use Rattle.lb_values.specs.declared.cell.Cell.{Cell}
use Rattle.lb_values.specs.declared.cell.Cell.TheVariants.{Word, Active, Cat, Lc, Uc, Sf, Count, Dimen, Skip, Toks, Boxed, Par, Counter, Counters, Resets, Fresh, Label, Checkpoint, Only, Body, Toc, Matter, PageForm, PageStyle, ThisStyle, LeftMark, RightMark, CurrentLabel, Env, Style, Size, Job, Prefix, Steps, File}
use Rattle.lb_values.specs.declared.cell.RegisterKind.TheVariants as kind
use Rattle.lb_values.specs.declared.meaning.Meaning.TheVariants as meaning
use Rattle.lb_values.specs.declared.value.Value.{Value}
use Rattle.lb_values.specs.declared.value.Value.TheVariants as value
use Rattle.lb_model.specs.StartLists.{start_counters, start_resets}
use Rattle.lb_model.specs.StartState.{start, row_named, parameter_meaning, start_parameter, start_category, start_lower, start_upper, start_space_factor}
use Rattle.lb_maps.specs.CellMap.{at}
use Rattle.lb_cells.specs.StateCells.{state_of}
use Rattle.lb_cells.specs.StartEntries.{Entries, rows_over, commands_over, parameter_words_over, parameters_over, counters_over, tables, start_entries}

-- rows of other cells change nothing
other : {X : Type 0} (cell_of : X → Cell) (value_of : X → Value) (rows : List X) (f : Entries) (q : Cell) → ((x : X) → cell_eq (cell_of x) q ≡ false) → rows_over cell_of value_of rows f q ≡ f q
other cell_of value_of [] f q apart = refl
other cell_of value_of (x ∷ rows) f q apart =
    ap (λ b. cond b (Some (value_of x)) (rows_over cell_of value_of rows f q)) (apart x) ∙ other cell_of value_of rows f q apart

-- what a control sequence has is that of the first row with its name
first : {X : Type 0} (name_of : X → List ℕ) (value_of : X → Value) (rows : List X) (f : Entries) (name : List ℕ) → rows_over (λ x. Word (name_of x)) value_of rows f (Word name) ≡ option_map_or (λ x. Some (value_of x)) (row_named name_of rows name) (f (Word name))
unfolding cell_eq
first name_of value_of [] f name = refl
first {X = X} name_of value_of (x ∷ rows) f name = step (row_named name_of rows name) (rows_over (λ x. Word (name_of x)) value_of rows f (Word name)) (pointwise nat_eq (name_of x) name) (first name_of value_of rows f name) where
  step : (o : Option X) (l : Option Value) (b : Bool) → l ≡ option_map_or (λ x. Some (value_of x)) o (f (Word name)) → cond b (Some (value_of x)) l ≡ option_map_or (λ x. Some (value_of x)) (cond b (Some x) o) (f (Word name))
  step o l true e = refl
  step o l false e = e

-- what a named cell has is that of the first row with its name
keyed : {Y : Type 0} (cell_of : List ℕ → Cell) (value_of : Y → Value) (rows : List (List ℕ × Y)) (f : Entries) (name : List ℕ) → ((k : List ℕ) → cell_eq (cell_of k) (cell_of name) ≡ pointwise nat_eq k name)
    → rows_over (λ r. cell_of r.0) (λ r. value_of r.1) rows f (cell_of name) ≡ option_map_or (λ y. Some (value_of y)) (lookup (pointwise nat_eq name) rows) (f (cell_of name))
keyed cell_of value_of [] f name test = refl
keyed {Y = Y} cell_of value_of (r ∷ rows) f name test =
    ap (λ b. cond b (Some (value_of r.1)) (rows_over (λ r. cell_of r.0) (λ r. value_of r.1) rows f (cell_of name))) (test r.0 ∙ nat_list_eq_equiv.symm r.0 name)
    ∙ step (lookup (pointwise nat_eq name) rows) (rows_over (λ r. cell_of r.0) (λ r. value_of r.1) rows f (cell_of name)) (pointwise nat_eq name r.0) (keyed cell_of value_of rows f name test) where
      step : (o : Option Y) (l : Option Value) (b : Bool) → l ≡ option_map_or (λ y. Some (value_of y)) o (f (cell_of name)) → cond b (Some (value_of r.1)) l ≡ option_map_or (λ y. Some (value_of y)) (cond b (Some r.1) o) (f (cell_of name))
      step o l true e = refl
      step o l false e = e

-- the value of what is stored, or absent
or_absent : {X : Type 0} (value_of : X → Value) (o : Option X) (d : Option Value) → unwrap_or (option_map_or (λ x. Some (value_of x)) o d) value.Absent ≡ option_map_or value_of o (unwrap_or d value.Absent)
or_absent value_of (Some x) d = refl
or_absent value_of None d = refl

-- a cell of another kind is in no table
none : (q : Cell) → ((n : List ℕ) → cell_eq (Resets n) q ≡ false) → ((n : List ℕ) → cell_eq (Counter n) q ≡ false) → ((n : List ℕ) → cell_eq (Word n) q ≡ false) → ((p : Parameter) → cell_eq (Par p) q ≡ false) → tables q ≡ None
none q resets counters words parameters =
    other (λ row. Resets row.0) (λ row. value.Names row.1) start_resets _ q (λ row. resets row.0)
    ∙ other (λ counter. Counter counter.0) (λ counter. value.Number counter.1) start_counters _ q (λ counter. counters counter.0)
    ∙ other (λ command. Word (command_name command)) (λ command. value.Meaning (meaning.Row command)) command_rows _ q (λ command. words (command_name command))
    ∙ other (λ parameter. Word (parameter_name parameter)) parameter_meaning parameter_rows _ q (λ parameter. words (parameter_name parameter))
    ∙ other Par start_parameter parameter_rows (λ _. None) q parameters

coded_or : (b : Bool) (v : Value) (o : Option Value) → o ≡ None → unwrap_or (cond b (Some v) o) value.Absent ≡ cond b v value.Absent
coded_or true v o e = refl
coded_or false v o e = ap (λ o. unwrap_or o value.Absent) e

-- a row's own cell has its value
own : (rows : List Parameter) (i : ℕ) (p : Parameter) (f : Entries) → slice_get rows i ≡ Some p → rows_over Par start_parameter rows f (Par p) ≡ Some (start_parameter p)
own [] i p f here = absurd (cc)
own (x ∷ rows) zero p f here =
    let same : x ≡ p = cc in
    ap (λ b. cond b (Some (start_parameter x)) (rows_over Par start_parameter rows f (Par p))) (ap (λ r. cell_eq (Par r) (Par p)) same ∙ cell_eq-refl (Par p)) ∙ ap (λ r. Some (start_parameter r)) same
own (x ∷ rows) (suc i) p f here = step (rows_over Par start_parameter rows f (Par p)) (cell_eq (Par x) (Par p)) (λ t. par_of (cell_eq-true (Par x) (Par p) t)) (own rows i p f here) where
  par_of : Par x ≡ Par p → x ≡ p
  par_of e = cc

  step : (o : Option Value) (b : Bool) → (b ≡ true → x ≡ p) → o ≡ Some (start_parameter p) → cond b (Some (start_parameter x)) o ≡ Some (start_parameter p)
  step o true same e = ap (λ r. Some (start_parameter r)) (same refl)
  step o false same e = e

placed : (rows : List Parameter) (o : Option ℕ) (p : Parameter) (f : Entries) → option_and_then (slice_get rows) o ≡ Some p → rows_over Par start_parameter rows f (Par p) ≡ Some (start_parameter p)
placed rows None p f e = absurd (cc)
placed rows (Some i) p f e = own rows i p f e

absent : (q : Cell) → tables q ≡ None → unwrap_or (tables q) value.Absent ≡ value.Absent
absent q e = ap (λ o. unwrap_or o value.Absent) e

word : (name : List ℕ) → unwrap_or (tables (Word name)) value.Absent ≡ start (Word name)
unfolding start cell_eq
word name =
    let above = other (λ row. Resets row.0) (λ row. value.Names row.1) start_resets _ (Word name) (λ row. refl)
    ∙ other (λ counter. Counter counter.0) (λ counter. value.Number counter.1) start_counters _ (Word name) (λ counter. refl)
    ∙ first command_name (λ command. value.Meaning (meaning.Row command)) command_rows _ name in
    let below : parameter_words_over (parameters_over (λ _. None)) (Word name) ≡ option_map_or (λ p. Some (parameter_meaning p)) (row_named parameter_name parameter_rows name) None =
    first parameter_name parameter_meaning parameter_rows _ name
    ∙ ap (option_map_or (λ p. Some (parameter_meaning p)) (row_named parameter_name parameter_rows name)) (other Par start_parameter parameter_rows (λ _. None) (Word name) (λ p. refl)) in
    ap (λ o. unwrap_or o value.Absent) above
    ∙ or_absent (λ command. value.Meaning (meaning.Row command)) (row_named command_name command_rows name) _
    ∙ ap (λ d. option_map_or (λ command. value.Meaning (meaning.Row command)) (row_named command_name command_rows name) d)
    (ap (λ o. unwrap_or o value.Absent) below ∙ or_absent parameter_meaning (row_named parameter_name parameter_rows name) None)

counter : (name : List ℕ) → unwrap_or (tables (Counter name)) value.Absent ≡ start (Counter name)
unfolding start cell_eq
counter name =
    let none_there : commands_over (parameter_words_over (parameters_over (λ _. None))) (Counter name) ≡ None =
    other (λ command. Word (command_name command)) (λ command. value.Meaning (meaning.Row command)) command_rows _ (Counter name) (λ command. refl)
    ∙ other (λ parameter. Word (parameter_name parameter)) parameter_meaning parameter_rows _ (Counter name) (λ parameter. refl)
    ∙ other Par start_parameter parameter_rows (λ _. None) (Counter name) (λ p. refl) in
    ap (λ o. unwrap_or o value.Absent) (other (λ row. Resets row.0) (λ row. value.Names row.1) start_resets _ (Counter name) (λ row. refl)
    ∙ keyed Counter value.Number start_counters _ name (λ k. refl))
    ∙ or_absent value.Number (lookup (pointwise nat_eq name) start_counters) _
    ∙ ap (λ d. option_map_or value.Number (lookup (pointwise nat_eq name) start_counters) (unwrap_or d value.Absent)) none_there

resets : (name : List ℕ) → unwrap_or (tables (Resets name)) value.Absent ≡ start (Resets name)
unfolding start cell_eq
resets name =
    let none_there : counters_over (commands_over (parameter_words_over (parameters_over (λ _. None)))) (Resets name) ≡ None =
    other (λ counter. Counter counter.0) (λ counter. value.Number counter.1) start_counters _ (Resets name) (λ counter. refl)
    ∙ other (λ command. Word (command_name command)) (λ command. value.Meaning (meaning.Row command)) command_rows _ (Resets name) (λ command. refl)
    ∙ other (λ parameter. Word (parameter_name parameter)) parameter_meaning parameter_rows _ (Resets name) (λ parameter. refl)
    ∙ other Par start_parameter parameter_rows (λ _. None) (Resets name) (λ p. refl) in
    ap (λ o. unwrap_or o value.Absent) (keyed Resets value.Names start_resets _ name (λ k. refl))
    ∙ or_absent value.Names (lookup (pointwise nat_eq name) start_resets) _
    ∙ ap (λ d. option_map_or value.Names (lookup (pointwise nat_eq name) start_resets) (unwrap_or d value.Absent)) none_there

parameter : (p : Parameter) → unwrap_or (tables (Par p)) value.Absent ≡ start (Par p)
unfolding start cell_eq
parameter p =
    ap (λ o. unwrap_or o value.Absent) (other (λ row. Resets row.0) (λ row. value.Names row.1) start_resets _ (Par p) (λ row. refl)
    ∙ other (λ counter. Counter counter.0) (λ counter. value.Number counter.1) start_counters _ (Par p) (λ counter. refl)
    ∙ other (λ command. Word (command_name command)) (λ command. value.Meaning (meaning.Row command)) command_rows _ (Par p) (λ command. refl)
    ∙ other (λ parameter. Word (parameter_name parameter)) parameter_meaning parameter_rows _ (Par p) (λ parameter. refl)
    ∙ placed parameter_rows _ p (λ _. None) (parameter_placed p))

-- what is stored for each cell means what the start state has there
meaning_of : (q : Cell) → unwrap_or (start_entries q) value.Absent ≡ start q
unfolding start cell_eq
meaning_of (Word name) = word name
meaning_of (Counter name) = counter name
meaning_of (Resets name) = resets name
meaning_of (Par p) = parameter p
meaning_of (Cat code) = coded_or (nat_lt code 256) (value.Category (start_category code)) (tables (Cat code)) (none (Cat code) (λ n. refl) (λ n. refl) (λ n. refl) (λ p. refl))
meaning_of (Lc code) = coded_or (nat_lt code 256) (value.Code (start_lower code)) (tables (Lc code)) (none (Lc code) (λ n. refl) (λ n. refl) (λ n. refl) (λ p. refl))
meaning_of (Uc code) = coded_or (nat_lt code 256) (value.Code (start_upper code)) (tables (Uc code)) (none (Uc code) (λ n. refl) (λ n. refl) (λ n. refl) (λ p. refl))
meaning_of (Sf code) = coded_or (nat_lt code 256) (value.Number (pos (start_space_factor code))) (tables (Sf code)) (none (Sf code) (λ n. refl) (λ n. refl) (λ n. refl) (λ p. refl))
meaning_of (Fresh kind.Count) = refl
meaning_of (Fresh kind.Dimen) = refl
meaning_of (Fresh kind.Skip) = refl
meaning_of (Fresh kind.Toks) = refl
meaning_of (Fresh kind.Boxed) = refl
meaning_of Counters = refl
meaning_of Body = refl
meaning_of Toc = refl
meaning_of Matter = refl
meaning_of PageForm = refl
meaning_of PageStyle = refl
meaning_of CurrentLabel = refl
meaning_of Env = refl
meaning_of Style = refl
meaning_of Size = refl
meaning_of (Active k) = absent (Active k) (none (Active k) (λ n. refl) (λ n. refl) (λ n. refl) (λ p. refl))
meaning_of (Count k) = absent (Count k) (none (Count k) (λ n. refl) (λ n. refl) (λ n. refl) (λ p. refl))
meaning_of (Dimen k) = absent (Dimen k) (none (Dimen k) (λ n. refl) (λ n. refl) (λ n. refl) (λ p. refl))
meaning_of (Skip k) = absent (Skip k) (none (Skip k) (λ n. refl) (λ n. refl) (λ n. refl) (λ p. refl))
meaning_of (Toks k) = absent (Toks k) (none (Toks k) (λ n. refl) (λ n. refl) (λ n. refl) (λ p. refl))
meaning_of (Boxed k) = absent (Boxed k) (none (Boxed k) (λ n. refl) (λ n. refl) (λ n. refl) (λ p. refl))
meaning_of (Label k) = absent (Label k) (none (Label k) (λ n. refl) (λ n. refl) (λ n. refl) (λ p. refl))
meaning_of (Checkpoint k) = absent (Checkpoint k) (none (Checkpoint k) (λ n. refl) (λ n. refl) (λ n. refl) (λ p. refl))
meaning_of (File k) = absent (File k) (none (File k) (λ n. refl) (λ n. refl) (λ n. refl) (λ p. refl))
meaning_of Only = absent Only (none Only (λ n. refl) (λ n. refl) (λ n. refl) (λ p. refl))
meaning_of ThisStyle = absent ThisStyle (none ThisStyle (λ n. refl) (λ n. refl) (λ n. refl) (λ p. refl))
meaning_of LeftMark = absent LeftMark (none LeftMark (λ n. refl) (λ n. refl) (λ n. refl) (λ p. refl))
meaning_of RightMark = absent RightMark (none RightMark (λ n. refl) (λ n. refl) (λ n. refl) (λ p. refl))
meaning_of Job = absent Job (none Job (λ n. refl) (λ n. refl) (λ n. refl) (λ p. refl))
meaning_of Prefix = absent Prefix (none Prefix (λ n. refl) (λ n. refl) (λ n. refl) (λ p. refl))
meaning_of Steps = absent Steps (none Steps (λ n. refl) (λ n. refl) (λ n. refl) (λ p. refl))

pub starts : (entries : List (Cell × Value)) → at entries ≡ start_entries → state_of entries ≡ start
starts entries e = (λ i q. unwrap_or (e i q) value.Absent) ∙ (λ i q. meaning_of q i)
