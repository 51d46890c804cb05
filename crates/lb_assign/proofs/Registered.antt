-- What registers, parameters and codes are set to is in their range, and they may be set to it.
use Rattle.std.proofs.Common.{◌≡◌, Bool, true, false, cond, ℤ, Some, None, refl, sym, subst}
use Rattle.std.specs.Prelude.{Option, not, ◌&&◌}
use Rattle.lb_base.specs.declared.glue.Glue.{Glue}
use Rattle.lb_base.specs.declared.node.Boxed.{Boxed as Box}
use Rattle.lb_base.specs.declared.token.Tok.{Tok}
use Rattle.std.specs.Prelude.{IfSome, List}
use Rattle.lb_rows.specs.declared.parameter.Parameter.{Parameter}
use Rattle.lb_rows.specs.declared.parameter.ParameterKind.{ParameterKind}
use Rattle.lb_rows.specs.declared.parameter.ParameterKind.TheVariants as parameter
use Rattle.lb_rows.specs.Parameters.{parameter_kind}
use Rattle.lb_values.specs.declared.cell.Cell.{Cell}
use Rattle.lb_values.specs.declared.cell.Cell.TheVariants.{Word, Active, Cat, Lc, Uc, Sf, Count, Dimen, Skip, Toks, Boxed, Par, Counter, Counters, Resets, Fresh, Label, Checkpoint, Only, Body, Toc, Matter, PageForm, PageStyle, ThisStyle, LeftMark, RightMark, CurrentLabel, Env, Style, Size, Job, Prefix, Steps, File}
use Rattle.lb_values.specs.declared.value.Value.{Value}
use Rattle.lb_values.specs.declared.value.Value.TheVariants as value
use Rattle.lb_model.specs.Assignments.{is_glue_kind, registered, takes, takes_box, takes_dimension, takes_glue, takes_number, takes_tokens}
use Rattle.lb_assign.specs.Changes.{MaySet}
use Rattle.lb_model.specs.HeldNumbers.{held_of, number_in}
use Rattle.lb_model.specs.Ranges.{fits, fits_parameter, is_absent, is_date, is_glue, is_of_state, is_settable}

-- ---- The cells that are set are of the state

at_present : (a b : Bool) → b ≡ false → not (a && b) ≡ true
at_present true true h = absurd (cc)
at_present true false h = refl
at_present false b h = refl

present_settable : (cell : Cell) (w : Value) → is_of_state cell ≡ true → is_absent w ≡ false → is_settable cell w ≡ true
present_settable (Word name) w h e = refl
present_settable (Active code) w h e = refl
present_settable (Cat code) w h e = refl
present_settable (Lc code) w h e = refl
present_settable (Uc code) w h e = refl
present_settable (Sf code) w h e = refl
present_settable (Count n) w h e = refl
present_settable (Dimen n) w h e = refl
present_settable (Skip n) w h e = refl
present_settable (Toks n) w h e = refl
present_settable (Boxed n) w h e = refl
present_settable (Par p) w h e = at_present (is_date p) (is_absent w) e
present_settable (Counter name) w h e = refl
present_settable Counters w h e = refl
present_settable (Resets name) w h e = refl
present_settable (Fresh kind) w h e = refl
present_settable (Label key) w h e = refl
present_settable (Checkpoint name) w h e = refl
present_settable Only w h e = refl
present_settable Body w h e = refl
present_settable Toc w h e = refl
present_settable Matter w h e = refl
present_settable PageForm w h e = refl
present_settable PageStyle w h e = refl
present_settable ThisStyle w h e = refl
present_settable LeftMark w h e = refl
present_settable RightMark w h e = refl
present_settable CurrentLabel w h e = refl
present_settable Env w h e = refl
present_settable Style w h e = refl
present_settable Size w h e = refl
present_settable Job w h e = absurd (cc)
present_settable Prefix w h e = absurd (cc)
present_settable Steps w h e = absurd (cc)
present_settable (File name) w h e = absurd (cc)

takes_number-state : (cell : Cell) → takes_number cell ≡ true → is_of_state cell ≡ true
takes_number-state (Word name) h = absurd (cc)
takes_number-state (Active code) h = absurd (cc)
takes_number-state (Cat code) h = refl
takes_number-state (Lc code) h = refl
takes_number-state (Uc code) h = refl
takes_number-state (Sf code) h = refl
takes_number-state (Count n) h = refl
takes_number-state (Dimen n) h = absurd (cc)
takes_number-state (Skip n) h = absurd (cc)
takes_number-state (Toks n) h = absurd (cc)
takes_number-state (Boxed n) h = absurd (cc)
takes_number-state (Par p) h = refl
takes_number-state (Counter name) h = absurd (cc)
takes_number-state Counters h = absurd (cc)
takes_number-state (Resets name) h = absurd (cc)
takes_number-state (Fresh kind) h = absurd (cc)
takes_number-state (Label key) h = absurd (cc)
takes_number-state (Checkpoint name) h = absurd (cc)
takes_number-state Only h = absurd (cc)
takes_number-state Body h = absurd (cc)
takes_number-state Toc h = absurd (cc)
takes_number-state Matter h = absurd (cc)
takes_number-state PageForm h = absurd (cc)
takes_number-state PageStyle h = absurd (cc)
takes_number-state ThisStyle h = absurd (cc)
takes_number-state LeftMark h = absurd (cc)
takes_number-state RightMark h = absurd (cc)
takes_number-state CurrentLabel h = absurd (cc)
takes_number-state Env h = absurd (cc)
takes_number-state Style h = absurd (cc)
takes_number-state Size h = absurd (cc)
takes_number-state Job h = absurd (cc)
takes_number-state Prefix h = absurd (cc)
takes_number-state Steps h = absurd (cc)
takes_number-state (File name) h = absurd (cc)

takes_dimension-state : (cell : Cell) → takes_dimension cell ≡ true → is_of_state cell ≡ true
takes_dimension-state (Word name) h = absurd (cc)
takes_dimension-state (Active code) h = absurd (cc)
takes_dimension-state (Cat code) h = absurd (cc)
takes_dimension-state (Lc code) h = absurd (cc)
takes_dimension-state (Uc code) h = absurd (cc)
takes_dimension-state (Sf code) h = absurd (cc)
takes_dimension-state (Count n) h = absurd (cc)
takes_dimension-state (Dimen n) h = refl
takes_dimension-state (Skip n) h = absurd (cc)
takes_dimension-state (Toks n) h = absurd (cc)
takes_dimension-state (Boxed n) h = absurd (cc)
takes_dimension-state (Par p) h = refl
takes_dimension-state (Counter name) h = absurd (cc)
takes_dimension-state Counters h = absurd (cc)
takes_dimension-state (Resets name) h = absurd (cc)
takes_dimension-state (Fresh kind) h = absurd (cc)
takes_dimension-state (Label key) h = absurd (cc)
takes_dimension-state (Checkpoint name) h = absurd (cc)
takes_dimension-state Only h = absurd (cc)
takes_dimension-state Body h = absurd (cc)
takes_dimension-state Toc h = absurd (cc)
takes_dimension-state Matter h = absurd (cc)
takes_dimension-state PageForm h = absurd (cc)
takes_dimension-state PageStyle h = absurd (cc)
takes_dimension-state ThisStyle h = absurd (cc)
takes_dimension-state LeftMark h = absurd (cc)
takes_dimension-state RightMark h = absurd (cc)
takes_dimension-state CurrentLabel h = absurd (cc)
takes_dimension-state Env h = absurd (cc)
takes_dimension-state Style h = absurd (cc)
takes_dimension-state Size h = absurd (cc)
takes_dimension-state Job h = absurd (cc)
takes_dimension-state Prefix h = absurd (cc)
takes_dimension-state Steps h = absurd (cc)
takes_dimension-state (File name) h = absurd (cc)

takes_glue-state : (cell : Cell) → takes_glue cell ≡ true → is_of_state cell ≡ true
takes_glue-state (Word name) h = absurd (cc)
takes_glue-state (Active code) h = absurd (cc)
takes_glue-state (Cat code) h = absurd (cc)
takes_glue-state (Lc code) h = absurd (cc)
takes_glue-state (Uc code) h = absurd (cc)
takes_glue-state (Sf code) h = absurd (cc)
takes_glue-state (Count n) h = absurd (cc)
takes_glue-state (Dimen n) h = absurd (cc)
takes_glue-state (Skip n) h = refl
takes_glue-state (Toks n) h = absurd (cc)
takes_glue-state (Boxed n) h = absurd (cc)
takes_glue-state (Par p) h = refl
takes_glue-state (Counter name) h = absurd (cc)
takes_glue-state Counters h = absurd (cc)
takes_glue-state (Resets name) h = absurd (cc)
takes_glue-state (Fresh kind) h = absurd (cc)
takes_glue-state (Label key) h = absurd (cc)
takes_glue-state (Checkpoint name) h = absurd (cc)
takes_glue-state Only h = absurd (cc)
takes_glue-state Body h = absurd (cc)
takes_glue-state Toc h = absurd (cc)
takes_glue-state Matter h = absurd (cc)
takes_glue-state PageForm h = absurd (cc)
takes_glue-state PageStyle h = absurd (cc)
takes_glue-state ThisStyle h = absurd (cc)
takes_glue-state LeftMark h = absurd (cc)
takes_glue-state RightMark h = absurd (cc)
takes_glue-state CurrentLabel h = absurd (cc)
takes_glue-state Env h = absurd (cc)
takes_glue-state Style h = absurd (cc)
takes_glue-state Size h = absurd (cc)
takes_glue-state Job h = absurd (cc)
takes_glue-state Prefix h = absurd (cc)
takes_glue-state Steps h = absurd (cc)
takes_glue-state (File name) h = absurd (cc)

takes_tokens-state : (cell : Cell) → takes_tokens cell ≡ true → is_of_state cell ≡ true
takes_tokens-state (Word name) h = absurd (cc)
takes_tokens-state (Active code) h = absurd (cc)
takes_tokens-state (Cat code) h = absurd (cc)
takes_tokens-state (Lc code) h = absurd (cc)
takes_tokens-state (Uc code) h = absurd (cc)
takes_tokens-state (Sf code) h = absurd (cc)
takes_tokens-state (Count n) h = absurd (cc)
takes_tokens-state (Dimen n) h = absurd (cc)
takes_tokens-state (Skip n) h = absurd (cc)
takes_tokens-state (Toks n) h = refl
takes_tokens-state (Boxed n) h = absurd (cc)
takes_tokens-state (Par p) h = absurd (cc)
takes_tokens-state (Counter name) h = absurd (cc)
takes_tokens-state Counters h = absurd (cc)
takes_tokens-state (Resets name) h = absurd (cc)
takes_tokens-state (Fresh kind) h = absurd (cc)
takes_tokens-state (Label key) h = absurd (cc)
takes_tokens-state (Checkpoint name) h = absurd (cc)
takes_tokens-state Only h = absurd (cc)
takes_tokens-state Body h = absurd (cc)
takes_tokens-state Toc h = absurd (cc)
takes_tokens-state Matter h = absurd (cc)
takes_tokens-state PageForm h = absurd (cc)
takes_tokens-state PageStyle h = absurd (cc)
takes_tokens-state ThisStyle h = absurd (cc)
takes_tokens-state LeftMark h = absurd (cc)
takes_tokens-state RightMark h = absurd (cc)
takes_tokens-state CurrentLabel h = absurd (cc)
takes_tokens-state Env h = absurd (cc)
takes_tokens-state Style h = absurd (cc)
takes_tokens-state Size h = absurd (cc)
takes_tokens-state Job h = absurd (cc)
takes_tokens-state Prefix h = absurd (cc)
takes_tokens-state Steps h = absurd (cc)
takes_tokens-state (File name) h = absurd (cc)

takes_box-state : (cell : Cell) → takes_box cell ≡ true → is_of_state cell ≡ true
takes_box-state (Word name) h = absurd (cc)
takes_box-state (Active code) h = absurd (cc)
takes_box-state (Cat code) h = absurd (cc)
takes_box-state (Lc code) h = absurd (cc)
takes_box-state (Uc code) h = absurd (cc)
takes_box-state (Sf code) h = absurd (cc)
takes_box-state (Count n) h = absurd (cc)
takes_box-state (Dimen n) h = absurd (cc)
takes_box-state (Skip n) h = absurd (cc)
takes_box-state (Toks n) h = absurd (cc)
takes_box-state (Boxed n) h = refl
takes_box-state (Par p) h = absurd (cc)
takes_box-state (Counter name) h = absurd (cc)
takes_box-state Counters h = absurd (cc)
takes_box-state (Resets name) h = absurd (cc)
takes_box-state (Fresh kind) h = absurd (cc)
takes_box-state (Label key) h = absurd (cc)
takes_box-state (Checkpoint name) h = absurd (cc)
takes_box-state Only h = absurd (cc)
takes_box-state Body h = absurd (cc)
takes_box-state Toc h = absurd (cc)
takes_box-state Matter h = absurd (cc)
takes_box-state PageForm h = absurd (cc)
takes_box-state PageStyle h = absurd (cc)
takes_box-state ThisStyle h = absurd (cc)
takes_box-state LeftMark h = absurd (cc)
takes_box-state RightMark h = absurd (cc)
takes_box-state CurrentLabel h = absurd (cc)
takes_box-state Env h = absurd (cc)
takes_box-state Style h = absurd (cc)
takes_box-state Size h = absurd (cc)
takes_box-state Job h = absurd (cc)
takes_box-state Prefix h = absurd (cc)
takes_box-state Steps h = absurd (cc)
takes_box-state (File name) h = absurd (cc)

takes-state : (cell : Cell) (v : Value) → takes cell v ≡ true → is_of_state cell ≡ true
takes-state cell value.Absent h = absurd (cc)
takes-state cell (value.Meaning m) h = absurd (cc)
takes-state cell (value.Category c) h = absurd (cc)
takes-state cell (value.Code k) h = absurd (cc)
takes-state cell (value.Number n) h = takes_number-state cell h
takes-state cell (value.Dimen n) h = takes_dimension-state cell h
takes-state cell (value.Glue g) h = takes_glue-state cell h
takes-state cell (value.Tokens t) h = takes_tokens-state cell h
takes-state cell (value.Boxed b) h = takes_box-state cell h
takes-state cell (value.Text t) h = absurd (cc)
takes-state cell (value.Name n) h = absurd (cc)
takes-state cell (value.Names n) h = absurd (cc)
takes-state cell (value.Label l) h = absurd (cc)
takes-state cell (value.Checkpoint c) h = absurd (cc)
takes-state cell (value.Form f) h = absurd (cc)
takes-state cell (value.PageStyle s) h = absurd (cc)
takes-state cell (value.Steps n) h = absurd (cc)

-- ---- What they hold fits them

glue_parameter : (p : Parameter) (kind : ParameterKind) (g : Glue) → parameter_kind p ≡ kind → is_glue_kind kind ≡ true → is_glue g ≡ true → fits (Par p) (value.Glue g) ≡ true
glue_parameter p parameter.Number g e h t = absurd (cc)
glue_parameter p parameter.Dimension g e h t = absurd (cc)
glue_parameter p parameter.Glue g e h t = subst (λ k. fits_parameter k (value.Glue g) ≡ true) (sym e) t

glue-fits : (cell : Cell) (g : Glue) → takes_glue cell ≡ true → is_glue g ≡ true → fits cell (value.Glue g) ≡ true
glue-fits (Word name) g h t = absurd (cc)
glue-fits (Active code) g h t = absurd (cc)
glue-fits (Cat code) g h t = absurd (cc)
glue-fits (Lc code) g h t = absurd (cc)
glue-fits (Uc code) g h t = absurd (cc)
glue-fits (Sf code) g h t = absurd (cc)
glue-fits (Count n) g h t = absurd (cc)
glue-fits (Dimen n) g h t = absurd (cc)
glue-fits (Skip n) g h t = t
glue-fits (Toks n) g h t = absurd (cc)
glue-fits (Boxed n) g h t = absurd (cc)
glue-fits (Par p) g h t = glue_parameter p (parameter_kind p) g refl h t
glue-fits (Counter name) g h t = absurd (cc)
glue-fits Counters g h t = absurd (cc)
glue-fits (Resets name) g h t = absurd (cc)
glue-fits (Fresh kind) g h t = absurd (cc)
glue-fits (Label key) g h t = absurd (cc)
glue-fits (Checkpoint name) g h t = absurd (cc)
glue-fits Only g h t = absurd (cc)
glue-fits Body g h t = absurd (cc)
glue-fits Toc g h t = absurd (cc)
glue-fits Matter g h t = absurd (cc)
glue-fits PageForm g h t = absurd (cc)
glue-fits PageStyle g h t = absurd (cc)
glue-fits ThisStyle g h t = absurd (cc)
glue-fits LeftMark g h t = absurd (cc)
glue-fits RightMark g h t = absurd (cc)
glue-fits CurrentLabel g h t = absurd (cc)
glue-fits Env g h t = absurd (cc)
glue-fits Style g h t = absurd (cc)
glue-fits Size g h t = absurd (cc)
glue-fits Job g h t = absurd (cc)
glue-fits Prefix g h t = absurd (cc)
glue-fits Steps g h t = absurd (cc)
glue-fits (File name) g h t = absurd (cc)

tokens-fit : (cell : Cell) (t : List Tok) → takes_tokens cell ≡ true → fits cell (value.Tokens t) ≡ true
tokens-fit (Word name) t h = absurd (cc)
tokens-fit (Active code) t h = absurd (cc)
tokens-fit (Cat code) t h = absurd (cc)
tokens-fit (Lc code) t h = absurd (cc)
tokens-fit (Uc code) t h = absurd (cc)
tokens-fit (Sf code) t h = absurd (cc)
tokens-fit (Count n) t h = absurd (cc)
tokens-fit (Dimen n) t h = absurd (cc)
tokens-fit (Skip n) t h = absurd (cc)
tokens-fit (Toks n) t h = refl
tokens-fit (Boxed n) t h = absurd (cc)
tokens-fit (Par p) t h = absurd (cc)
tokens-fit (Counter name) t h = absurd (cc)
tokens-fit Counters t h = absurd (cc)
tokens-fit (Resets name) t h = absurd (cc)
tokens-fit (Fresh kind) t h = absurd (cc)
tokens-fit (Label key) t h = absurd (cc)
tokens-fit (Checkpoint name) t h = absurd (cc)
tokens-fit Only t h = absurd (cc)
tokens-fit Body t h = absurd (cc)
tokens-fit Toc t h = absurd (cc)
tokens-fit Matter t h = absurd (cc)
tokens-fit PageForm t h = absurd (cc)
tokens-fit PageStyle t h = absurd (cc)
tokens-fit ThisStyle t h = absurd (cc)
tokens-fit LeftMark t h = absurd (cc)
tokens-fit RightMark t h = absurd (cc)
tokens-fit CurrentLabel t h = absurd (cc)
tokens-fit Env t h = absurd (cc)
tokens-fit Style t h = absurd (cc)
tokens-fit Size t h = absurd (cc)
tokens-fit Job t h = absurd (cc)
tokens-fit Prefix t h = absurd (cc)
tokens-fit Steps t h = absurd (cc)
tokens-fit (File name) t h = absurd (cc)

box-fits : (cell : Cell) (b : Box) → takes_box cell ≡ true → fits cell (value.Boxed b) ≡ true
box-fits (Word name) b h = absurd (cc)
box-fits (Active code) b h = absurd (cc)
box-fits (Cat code) b h = absurd (cc)
box-fits (Lc code) b h = absurd (cc)
box-fits (Uc code) b h = absurd (cc)
box-fits (Sf code) b h = absurd (cc)
box-fits (Count n) b h = absurd (cc)
box-fits (Dimen n) b h = absurd (cc)
box-fits (Skip n) b h = absurd (cc)
box-fits (Toks n) b h = absurd (cc)
box-fits (Boxed n) b h = refl
box-fits (Par p) b h = absurd (cc)
box-fits (Counter name) b h = absurd (cc)
box-fits Counters b h = absurd (cc)
box-fits (Resets name) b h = absurd (cc)
box-fits (Fresh kind) b h = absurd (cc)
box-fits (Label key) b h = absurd (cc)
box-fits (Checkpoint name) b h = absurd (cc)
box-fits Only b h = absurd (cc)
box-fits Body b h = absurd (cc)
box-fits Toc b h = absurd (cc)
box-fits Matter b h = absurd (cc)
box-fits PageForm b h = absurd (cc)
box-fits PageStyle b h = absurd (cc)
box-fits ThisStyle b h = absurd (cc)
box-fits LeftMark b h = absurd (cc)
box-fits RightMark b h = absurd (cc)
box-fits CurrentLabel b h = absurd (cc)
box-fits Env b h = absurd (cc)
box-fits Style b h = absurd (cc)
box-fits Size b h = absurd (cc)
box-fits Job b h = absurd (cc)
box-fits Prefix b h = absurd (cc)
box-fits Steps b h = absurd (cc)
box-fits (File name) b h = absurd (cc)

pub by_test : (P : Value → Type 0) (b : Bool) (x w : Value) → cond b (Some x) None ≡ Some w → (b ≡ true → P x) → P w
by_test P true x w h f = subst P (cc) (f refl)
by_test P false x w h f = absurd (cc)

some : {X : Type 0} {x y : X} → Some x ≡ Some y → x ≡ y
some h = cc

numbered : (w : Value) (n : ℤ) → number_in w ≡ Some n → is_absent w ≡ false
numbered value.Absent n h = absurd (cc)
numbered (value.Meaning m) n h = refl
numbered (value.Category c) n h = refl
numbered (value.Code k) n h = refl
numbered (value.Number m) n h = refl
numbered (value.Dimen m) n h = refl
numbered (value.Glue g) n h = refl
numbered (value.Tokens t) n h = refl
numbered (value.Boxed b) n h = refl
numbered (value.Text t) n h = refl
numbered (value.Name m) n h = refl
numbered (value.Names m) n h = refl
numbered (value.Label l) n h = refl
numbered (value.Checkpoint c) n h = refl
numbered (value.Form f) n h = refl
numbered (value.PageStyle s) n h = refl
numbered (value.Steps m) n h = refl

pub may_set : (cell : Cell) (w : Value) → is_of_state cell ≡ true → is_absent w ≡ false → fits cell w ≡ true → MaySet cell w
may_set cell w s a f = record { settable = present_settable cell w s a; fits = f }

pub registered_may : (cell : Cell) (v w : Value) → ((cell : Cell) (n : ℤ) (v : Value) → held_of cell n ≡ Some v → fits cell v ≡ true) → ((cell : Cell) (n : ℤ) (v : Value) → held_of cell n ≡ Some v → number_in v ≡ Some n)
    → takes cell v ≡ true → registered cell v ≡ Some w → MaySet cell w
registered_may cell value.Absent w fit number t h = absurd (cc)
registered_may cell (value.Meaning m) w fit number t h = absurd (cc)
registered_may cell (value.Category c) w fit number t h = absurd (cc)
registered_may cell (value.Code k) w fit number t h = absurd (cc)
registered_may cell (value.Number n) w fit number t h = may_set cell w (takes-state cell (value.Number n) t) (numbered w n (number cell n w h)) (fit cell n w h)
registered_may cell (value.Dimen n) w fit number t h = may_set cell w (takes-state cell (value.Dimen n) t) (numbered w n (number cell n w h)) (fit cell n w h)
registered_may cell (value.Glue g) w fit number t h = by_test (MaySet cell) (is_glue g) (value.Glue g) w h (λ i. may_set cell (value.Glue g) (takes_glue-state cell t) refl (glue-fits cell g t i))
registered_may cell (value.Tokens x) w fit number t h = subst (MaySet cell) (some h) (may_set cell (value.Tokens x) (takes_tokens-state cell t) refl (tokens-fit cell x t))
registered_may cell (value.Boxed b) w fit number t h = subst (MaySet cell) (some h) (may_set cell (value.Boxed b) (takes_box-state cell t) refl (box-fits cell b t))
registered_may cell (value.Text x) w fit number t h = absurd (cc)
registered_may cell (value.Name n) w fit number t h = absurd (cc)
registered_may cell (value.Names n) w fit number t h = absurd (cc)
registered_may cell (value.Label l) w fit number t h = absurd (cc)
registered_may cell (value.Checkpoint c) w fit number t h = absurd (cc)
registered_may cell (value.Form f) w fit number t h = absurd (cc)
registered_may cell (value.PageStyle s) w fit number t h = absurd (cc)
registered_may cell (value.Steps n) w fit number t h = absurd (cc)

pub held_may : (cell : Cell) (v u : Value) (o : Option Value) → ((cell : Cell) (n : ℤ) (v : Value) → held_of cell n ≡ Some v → fits cell v ≡ true) → ((cell : Cell) (n : ℤ) (v : Value) → held_of cell n ≡ Some v → number_in v ≡ Some n)
    → u ≡ v → takes cell u ≡ true → o ≡ registered cell v → IfSome o (λ w. MaySet cell w)
held_may cell v u None fit number e t h = tt
held_may cell v u (Some w) fit number e t h = registered_may cell v w fit number (subst (λ x. takes cell x ≡ true) e t) (sym h)
