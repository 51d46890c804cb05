-- What arithmetic comes to is in the range of the cell.
use Rattle.std.proofs.Common.{◌≡◌, Bool, true, false, cond, ℕ, ℤ, Some, None, refl, subst, sym}
use Rattle.std.specs.Prelude.{IfSome, Option, ◌==◌, ◌*ℤ◌, int_div, nat_abs}
use Rattle.std.specs.Option.{option_and_then}
use Rattle.lb_base.specs.declared.glue.Glue.{Glue}
use Rattle.lb_rows.specs.declared.parameter.Parameter.{Parameter}
use Rattle.lb_rows.specs.declared.parameter.ParameterKind.{ParameterKind}
use Rattle.lb_rows.specs.declared.parameter.ParameterKind.TheVariants as parameter
use Rattle.lb_rows.specs.Parameters.{parameter_kind}
use Rattle.lb_values.specs.declared.cell.Cell.{Cell}
use Rattle.lb_values.specs.declared.cell.Cell.TheVariants.{Word, Active, Cat, Lc, Uc, Sf, Count, Dimen, Skip, Toks, Boxed, Par, Counter, Counters, Resets, Fresh, Label, Checkpoint, Only, Body, Toc, Matter, PageForm, PageStyle, ThisStyle, LeftMark, RightMark, CurrentLabel, Env, Style, Size, Job, Prefix, Steps, File}
use Rattle.lb_values.specs.declared.value.Value.{Value}
use Rattle.lb_values.specs.declared.value.Value.TheVariants as value
use Rattle.lb_model_grammar.specs.declared.given.Quantity.{Quantity}
use Rattle.lb_model_grammar.specs.declared.given.Quantity.TheVariants as quantity
use Rattle.lb_model.specs.declared.arith.Arith.{Arith}
use Rattle.lb_model.specs.declared.arith.Arith.TheVariants.{Advance, Multiply, Divide}
use Rattle.lb_model.specs.Assignments.{arithmetic, arithmetic_as, arithmetic_at, arithmetic_kind, dimension_worked, glue_added, glue_by, glue_value, glue_worked, number_worked}
use Rattle.lb_model.specs.HeldNumbers.{held_as}
use Rattle.lb_model.specs.Kinds.{dimension_of, glue_of, number_of}
use Rattle.lb_model.specs.Ranges.{fits, fits_parameter, is_absent, is_dimension, is_glue, is_number}
use Rattle.lb_assign.specs.Changes.{MaySet}
use Rattle.lb_assign.proofs.Registered.{by_test, may_set}

present : (kind : ParameterKind) (w : Value) → fits_parameter kind w ≡ true → is_absent w ≡ false
present parameter.Number value.Absent h = absurd (cc)
present parameter.Number (value.Meaning m) h = refl
present parameter.Number (value.Category c) h = refl
present parameter.Number (value.Code k) h = refl
present parameter.Number (value.Number n) h = refl
present parameter.Number (value.Dimen n) h = refl
present parameter.Number (value.Glue g) h = refl
present parameter.Number (value.Tokens t) h = refl
present parameter.Number (value.Boxed b) h = refl
present parameter.Number (value.Text t) h = refl
present parameter.Number (value.Name n) h = refl
present parameter.Number (value.Names n) h = refl
present parameter.Number (value.Label l) h = refl
present parameter.Number (value.Checkpoint c) h = refl
present parameter.Number (value.Form f) h = refl
present parameter.Number (value.PageStyle s) h = refl
present parameter.Number (value.Steps n) h = refl
present parameter.Dimension value.Absent h = absurd (cc)
present parameter.Dimension (value.Meaning m) h = refl
present parameter.Dimension (value.Category c) h = refl
present parameter.Dimension (value.Code k) h = refl
present parameter.Dimension (value.Number n) h = refl
present parameter.Dimension (value.Dimen n) h = refl
present parameter.Dimension (value.Glue g) h = refl
present parameter.Dimension (value.Tokens t) h = refl
present parameter.Dimension (value.Boxed b) h = refl
present parameter.Dimension (value.Text t) h = refl
present parameter.Dimension (value.Name n) h = refl
present parameter.Dimension (value.Names n) h = refl
present parameter.Dimension (value.Label l) h = refl
present parameter.Dimension (value.Checkpoint c) h = refl
present parameter.Dimension (value.Form f) h = refl
present parameter.Dimension (value.PageStyle s) h = refl
present parameter.Dimension (value.Steps n) h = refl
present parameter.Glue value.Absent h = absurd (cc)
present parameter.Glue (value.Meaning m) h = refl
present parameter.Glue (value.Category c) h = refl
present parameter.Glue (value.Code k) h = refl
present parameter.Glue (value.Number n) h = refl
present parameter.Glue (value.Dimen n) h = refl
present parameter.Glue (value.Glue g) h = refl
present parameter.Glue (value.Tokens t) h = refl
present parameter.Glue (value.Boxed b) h = refl
present parameter.Glue (value.Text t) h = refl
present parameter.Glue (value.Name n) h = refl
present parameter.Glue (value.Names n) h = refl
present parameter.Glue (value.Label l) h = refl
present parameter.Glue (value.Checkpoint c) h = refl
present parameter.Glue (value.Form f) h = refl
present parameter.Glue (value.PageStyle s) h = refl
present parameter.Glue (value.Steps n) h = refl

held_in : (o : Option ℤ) (of : ℤ → Value) (test : ℤ → Bool) (kind : ParameterKind) (w : Value) → ((n : ℤ) → test n ≡ true → fits_parameter kind (of n) ≡ true) → option_and_then (held_as of test) o ≡ Some w
    → fits_parameter kind w ≡ true
held_in None of test kind w f h = absurd (cc)
held_in (Some n) of test kind w f h = by_test (λ x. fits_parameter kind x ≡ true) (test n) (of n) w h (f n)

glue_in : (g : Glue) (w : Value) → glue_value g ≡ Some w → fits_parameter parameter.Glue w ≡ true
unfolding glue_value
glue_in g w h = by_test (λ x. fits_parameter parameter.Glue x ≡ true) (is_glue g) (value.Glue g) w h (λ t. t)

or_none : (b : Bool) (g : Glue) (w : Value) → cond b None (glue_value g) ≡ Some w → fits_parameter parameter.Glue w ≡ true
or_none true g w h = absurd (cc)
or_none false g w h = glue_in g w h

glue_worked_in : (op : Arith) (g : Glue) (by : Quantity) (w : Value) → glue_worked op g by ≡ Some w → fits_parameter parameter.Glue w ≡ true
glue_worked_in Advance g quantity.NotOne w h = absurd (cc)
glue_worked_in Advance g (quantity.Number m) w h = absurd (cc)
glue_worked_in Advance g (quantity.Dimen m) w h = absurd (cc)
glue_worked_in Advance g (quantity.Skip s) w h = glue_in (glue_added g s) w h
glue_worked_in Multiply g quantity.NotOne w h = absurd (cc)
glue_worked_in Multiply g (quantity.Number m) w h = glue_in (glue_by (λ n. n *ℤ m) g) w h
glue_worked_in Multiply g (quantity.Dimen m) w h = absurd (cc)
glue_worked_in Multiply g (quantity.Skip s) w h = absurd (cc)
glue_worked_in Divide g quantity.NotOne w h = absurd (cc)
glue_worked_in Divide g (quantity.Number m) w h = or_none (nat_abs m == 0) (glue_by (λ n. int_div n m) g) w h
glue_worked_in Divide g (quantity.Dimen m) w h = absurd (cc)
glue_worked_in Divide g (quantity.Skip s) w h = absurd (cc)

worked_in : (op : Arith) (kind : ParameterKind) (v : Value) (by : Quantity) (w : Value) → arithmetic op kind v by ≡ Some w → fits_parameter kind w ≡ true
worked_in op parameter.Number v by w h = held_in (number_worked op (number_of v) by) value.Number is_number parameter.Number w (λ n t. t) h
worked_in op parameter.Dimension v by w h = held_in (dimension_worked op (dimension_of v) by) value.Dimen is_dimension parameter.Dimension w (λ n t. t) h
worked_in op parameter.Glue v by w h = glue_worked_in op (glue_of v) by w h

-- what fits the kind of a register fits it
count_fits : (n : ℕ) (w : Value) → fits_parameter parameter.Number w ≡ true → fits (Count n) w ≡ true
count_fits r value.Absent h = absurd (cc)
count_fits r (value.Meaning m) h = absurd (cc)
count_fits r (value.Category c) h = absurd (cc)
count_fits r (value.Code k) h = absurd (cc)
count_fits r (value.Number n) h = h
count_fits r (value.Dimen n) h = absurd (cc)
count_fits r (value.Glue g) h = absurd (cc)
count_fits r (value.Tokens t) h = absurd (cc)
count_fits r (value.Boxed b) h = absurd (cc)
count_fits r (value.Text t) h = absurd (cc)
count_fits r (value.Name n) h = absurd (cc)
count_fits r (value.Names n) h = absurd (cc)
count_fits r (value.Label l) h = absurd (cc)
count_fits r (value.Checkpoint c) h = absurd (cc)
count_fits r (value.Form f) h = absurd (cc)
count_fits r (value.PageStyle s) h = absurd (cc)
count_fits r (value.Steps n) h = absurd (cc)

dimen_fits : (n : ℕ) (w : Value) → fits_parameter parameter.Dimension w ≡ true → fits (Dimen n) w ≡ true
dimen_fits r value.Absent h = absurd (cc)
dimen_fits r (value.Meaning m) h = absurd (cc)
dimen_fits r (value.Category c) h = absurd (cc)
dimen_fits r (value.Code k) h = absurd (cc)
dimen_fits r (value.Number n) h = absurd (cc)
dimen_fits r (value.Dimen n) h = h
dimen_fits r (value.Glue g) h = absurd (cc)
dimen_fits r (value.Tokens t) h = absurd (cc)
dimen_fits r (value.Boxed b) h = absurd (cc)
dimen_fits r (value.Text t) h = absurd (cc)
dimen_fits r (value.Name n) h = absurd (cc)
dimen_fits r (value.Names n) h = absurd (cc)
dimen_fits r (value.Label l) h = absurd (cc)
dimen_fits r (value.Checkpoint c) h = absurd (cc)
dimen_fits r (value.Form f) h = absurd (cc)
dimen_fits r (value.PageStyle s) h = absurd (cc)
dimen_fits r (value.Steps n) h = absurd (cc)

skip_fits : (n : ℕ) (w : Value) → fits_parameter parameter.Glue w ≡ true → fits (Skip n) w ≡ true
skip_fits r value.Absent h = absurd (cc)
skip_fits r (value.Meaning m) h = absurd (cc)
skip_fits r (value.Category c) h = absurd (cc)
skip_fits r (value.Code k) h = absurd (cc)
skip_fits r (value.Number n) h = absurd (cc)
skip_fits r (value.Dimen n) h = absurd (cc)
skip_fits r (value.Glue g) h = h
skip_fits r (value.Tokens t) h = absurd (cc)
skip_fits r (value.Boxed b) h = absurd (cc)
skip_fits r (value.Text t) h = absurd (cc)
skip_fits r (value.Name n) h = absurd (cc)
skip_fits r (value.Names n) h = absurd (cc)
skip_fits r (value.Label l) h = absurd (cc)
skip_fits r (value.Checkpoint c) h = absurd (cc)
skip_fits r (value.Form f) h = absurd (cc)
skip_fits r (value.PageStyle s) h = absurd (cc)
skip_fits r (value.Steps n) h = absurd (cc)

parameter_fits : (p : Parameter) (w : Value) → is_absent w ≡ false → fits_parameter (parameter_kind p) w ≡ true → fits (Par p) w ≡ true
parameter_fits p value.Absent a h = absurd (cc)
parameter_fits p (value.Meaning m) a h = h
parameter_fits p (value.Category c) a h = h
parameter_fits p (value.Code k) a h = h
parameter_fits p (value.Number n) a h = h
parameter_fits p (value.Dimen n) a h = h
parameter_fits p (value.Glue g) a h = h
parameter_fits p (value.Tokens t) a h = h
parameter_fits p (value.Boxed b) a h = h
parameter_fits p (value.Text t) a h = h
parameter_fits p (value.Name n) a h = h
parameter_fits p (value.Names n) a h = h
parameter_fits p (value.Label l) a h = h
parameter_fits p (value.Checkpoint c) a h = h
parameter_fits p (value.Form f) a h = h
parameter_fits p (value.PageStyle s) a h = h
parameter_fits p (value.Steps n) a h = h

some : {X : Type 0} {x y : X} → Some x ≡ Some y → x ≡ y
some h = cc

at_kind : (cell : Cell) (kind : ParameterKind) (w : Value) → arithmetic_kind cell ≡ Some kind → fits_parameter kind w ≡ true → MaySet cell w
at_kind (Word name) kind w e h = absurd (cc)
at_kind (Active code) kind w e h = absurd (cc)
at_kind (Cat code) kind w e h = absurd (cc)
at_kind (Lc code) kind w e h = absurd (cc)
at_kind (Uc code) kind w e h = absurd (cc)
at_kind (Sf code) kind w e h = absurd (cc)
at_kind (Count n) kind w e h = let same : kind ≡ parameter.Number = sym (some e) in let f : fits_parameter parameter.Number w ≡ true = subst (λ k. fits_parameter k w ≡ true) same h in may_set (Count n) w refl (present kind w h) (count_fits n w f)
at_kind (Dimen n) kind w e h = let same : kind ≡ parameter.Dimension = sym (some e) in let f : fits_parameter parameter.Dimension w ≡ true = subst (λ k. fits_parameter k w ≡ true) same h in may_set (Dimen n) w refl (present kind w h) (dimen_fits n w f)
at_kind (Skip n) kind w e h = let same : kind ≡ parameter.Glue = sym (some e) in let f : fits_parameter parameter.Glue w ≡ true = subst (λ k. fits_parameter k w ≡ true) same h in may_set (Skip n) w refl (present kind w h) (skip_fits n w f)
at_kind (Toks n) kind w e h = absurd (cc)
at_kind (Boxed n) kind w e h = absurd (cc)
at_kind (Par p) kind w e h = may_set (Par p) w refl (present kind w h) (parameter_fits p w (present kind w h) (subst (λ k. fits_parameter k w ≡ true) (sym (some e)) h))
at_kind (Counter name) kind w e h = absurd (cc)
at_kind Counters kind w e h = absurd (cc)
at_kind (Resets name) kind w e h = absurd (cc)
at_kind (Fresh register) kind w e h = absurd (cc)
at_kind (Label key) kind w e h = absurd (cc)
at_kind (Checkpoint name) kind w e h = absurd (cc)
at_kind Only kind w e h = absurd (cc)
at_kind Body kind w e h = absurd (cc)
at_kind Toc kind w e h = absurd (cc)
at_kind Matter kind w e h = absurd (cc)
at_kind PageForm kind w e h = absurd (cc)
at_kind PageStyle kind w e h = absurd (cc)
at_kind ThisStyle kind w e h = absurd (cc)
at_kind LeftMark kind w e h = absurd (cc)
at_kind RightMark kind w e h = absurd (cc)
at_kind CurrentLabel kind w e h = absurd (cc)
at_kind Env kind w e h = absurd (cc)
at_kind Style kind w e h = absurd (cc)
at_kind Size kind w e h = absurd (cc)
at_kind Job kind w e h = absurd (cc)
at_kind Prefix kind w e h = absurd (cc)
at_kind Steps kind w e h = absurd (cc)
at_kind (File name) kind w e h = absurd (cc)

by_kind : (o : Option ParameterKind) (op : Arith) (cell : Cell) (v : Value) (by : Quantity) (w : Value) → arithmetic_kind cell ≡ o → arithmetic_as o op v by ≡ Some w → MaySet cell w
by_kind None op cell v by w e h = absurd (cc)
by_kind (Some kind) op cell v by w e h = at_kind cell kind w e (worked_in op kind v by w h)

pub arithmetic_may : (op : Arith) (cell : Cell) (v : Value) (by : Quantity) (w : Value) → arithmetic_at op cell v by ≡ Some w → MaySet cell w
arithmetic_may op cell v by w h = by_kind (arithmetic_kind cell) op cell v by w refl h

pub arithmetic_may_at : (op : Arith) (cell : Cell) (v : Value) (by : Quantity) (o : Option Value) → o ≡ arithmetic_at op cell v by → IfSome o (λ w. MaySet cell w)
arithmetic_may_at op cell v by None h = tt
arithmetic_may_at op cell v by (Some w) h = arithmetic_may op cell v by w (sym h)
