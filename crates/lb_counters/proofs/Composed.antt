-- Looks and changes, one after another.
use Rattle.std.proofs.Common.{◌≡◌, ◌∙◌, ◌+◌, ◌<◌, ◌++◌, ◌+ℤ◌, ap, sym, cond, Bool, true, false, ℕ, ℤ, pos, List, [], ◌∷◌, Some, None, refl, length, get_or, drop}
use Rattle.std.specs.Prelude.{Option, Ok, if◌then◌else◌}
use Rattle.std.specs.Option.{option_map}
use Rattle.std.proofs.lemmas.List.{drop_more}
use Rattle.lb_base.specs.declared.fault.Kind.TheVariants.{Overflow}
use Rattle.lb_values.specs.declared.cell.Cell.{Cell}
use Rattle.lb_values.specs.declared.cell.Cell.TheVariants.{Counter}
use Rattle.lb_values.specs.declared.value.Value.{Value}
use Rattle.lb_values.specs.Kept.{Kept}
use Rattle.lb_model.specs.declared.cells.Cells.{Ghosts}
use Rattle.lb_model.specs.declared.world.World.{World}
use Rattle.lb_model.specs.Ranges.{is_number}
use Rattle.lb_model.specs.Settings.{Notes, Setting, State, noted, noted_all}
use Rattle.lb_model.specs.Told.{Tells}
use Rattle.lb_model_counters.specs.Counters.{numbered, step_as, stepped, zeros}
use Rattle.lb_model_counters.specs.Effects.{Effect, all_changed, changed_by, changes_noted, noted_by, refuses, sets}
use Rattle.lb_counters.specs.Does.{Does}
use Rattle.lb_counters.specs.Sets.{Sets}

-- ---- Counters that are reset, from a place on

zeros-from : (names : List (List ℕ)) (i : ℕ) (name : List ℕ) → i < length names → name ≡ get_or names i name
    → zeros (drop i names) ≡ numbered name (pos 0) ∷ zeros (drop (i + 1) names)
zeros-from names i name h e = ap zeros (drop_more names i name h) ∙ ap (λ m. numbered m (pos 0) ∷ zeros (drop (i + 1) names)) (sym e)

pub changed-from : (names : List (List ℕ)) (i : ℕ) (name : List ℕ) (new old : Kept Value) → i < length names → name ≡ get_or names i name
    → new ≡ all_changed (numbered name (pos 0) ∷ []) old → all_changed (zeros (drop (i + 1) names)) new ≡ all_changed (zeros (drop i names)) old
changed-from names i name new old h e n =
    ap (all_changed (zeros (drop (i + 1) names))) n ∙ ap (λ changes. all_changed changes old) (sym (zeros-from names i name h e))

notes-next : (changes : List (Cell × Value)) (c : Cell × Value) (o : Option Notes)
    → option_map (changes_noted changes) (option_map (changes_noted (c ∷ [])) o) ≡ option_map (changes_noted (c ∷ changes)) o
notes-next changes c None = refl
notes-next changes c (Some n) = refl

pub notes-from : (names : List (List ℕ)) (i : ℕ) (name : List ℕ) (new old : Option Notes) → i < length names → name ≡ get_or names i name
    → new ≡ option_map (changes_noted (numbered name (pos 0) ∷ [])) old
    → option_map (changes_noted (zeros (drop (i + 1) names))) new ≡ option_map (changes_noted (zeros (drop i names))) old
notes-from names i name new old h e n =
    ap (option_map (changes_noted (zeros (drop (i + 1) names)))) n ∙ notes-next (zeros (drop (i + 1) names)) (numbered name (pos 0)) old
    ∙ ap (λ changes. option_map (changes_noted changes) old) (sym (zeros-from names i name h e))

-- ---- Cells that are looked at

-- cells that were looked at, one after another
pub record Looked {S : Type 0} (C : Ghosts S) (looks : List Cell) (new old : S) : Type 0 where
  pub narrows : (p : Setting) → C.agrees new p → C.agrees old p
  pub stays : (p : Setting) → C.agrees new p → C.meaning new p ≡ C.meaning old p
  pub notes : C.notes new ≡ option_map (noted_all looks) (C.notes old)
  pub made : C.made new ≡ C.made old
  pub loan : C.loan new ≡ C.loan old

noted_all-one : (cell : Cell) (o : Option Notes) → option_map (noted cell) o ≡ option_map (noted_all (cell ∷ [])) o
noted_all-one cell None = refl
noted_all-one cell (Some n) = refl

noted_all-more : (cells : List Cell) (cell : Cell) (n : Notes) → noted cell (noted_all cells n) ≡ noted_all (cells ++ cell ∷ []) n
noted_all-more [] cell n = refl
noted_all-more (c ∷ cells) cell n = noted_all-more cells cell (noted c n)

noted-more : (cells : List Cell) (cell : Cell) (o : Option Notes)
    → option_map (noted cell) (option_map (noted_all cells) o) ≡ option_map (noted_all (cells ++ cell ∷ [])) o
noted-more cells cell None = refl
noted-more cells cell (Some n) = ap Some (noted_all-more cells cell n)

pub looked : {S X E : Type 0} (C : Ghosts S) (cell : Cell) (f : Value → X) (x : X) (new old : S)
    → Tells {E = E} C cell f (Ok x) new old → Looked C (cell ∷ []) new old
looked C cell f x new old t = record {
  narrows = t.narrows;
  stays = t.stays;
  notes = t.notes ∙ noted_all-one cell (C.notes old);
  made = t.made;
  loan = t.loan;
}

pub looked-more : {S X E : Type 0} (C : Ghosts S) (cells : List Cell) (cell : Cell) (f : Value → X) (x : X) (new mid old : S)
    → Looked C cells mid old → Tells {E = E} C cell f (Ok x) new mid → Looked C (cells ++ cell ∷ []) new old
looked-more C cells cell f x new mid old l t = record {
  narrows = λ p h. l.narrows p (t.narrows p h);
  stays = λ p h. t.stays p h ∙ l.stays p (t.narrows p h);
  notes = t.notes ∙ ap (option_map (noted cell)) l.notes ∙ noted-more cells cell (C.notes old);
  made = t.made ∙ l.made;
  loan = t.loan ∙ l.loan;
}

-- ---- Looks, and then changes

noted-sets : (looks : List Cell) (changes : List (Cell × Value)) (o : Option Notes)
    → option_map (changes_noted changes) (option_map (noted_all looks) o) ≡ option_map (noted_by (sets looks changes)) o
noted-sets looks changes None = refl
noted-sets looks changes (Some n) = refl

-- a call that looked at cells and then set some does what an effect says that comes to these
pub does-sets : {S X E : Type 0} (C : Ghosts S) (effect : World → State → Effect Unit) (looks : List Cell) (changes : List (Cell × Value)) (x : X)
    (new mid old : S) → Looked C looks mid old → Sets {E = E} C changes (Ok x) new mid
    → ((p : Setting) → C.agrees mid p → effect p.world (C.meaning old p).now ≡ sets looks changes)
    → Does C effect (Ok tt) new old
does-sets C effect looks changes x new mid old l s is = record {
  narrows = λ p h. l.narrows p (s.narrows p h);
  answer = λ p h. ap (λ e. e.answer) (is p (s.narrows p h));
  done =
      λ p h.
      s.changed p h ∙ ap (all_changed changes) (l.stays p (s.narrows p h)) ∙ sym (ap (λ e. changed_by e (C.meaning old p)) (is p (s.narrows p h)));
  notes =
      λ p h.
      s.notes ∙ ap (option_map (changes_noted changes)) l.notes ∙ noted-sets looks changes (C.notes old)
      ∙ sym (ap (λ e. option_map (noted_by e) (C.notes old)) (is p (s.narrows p h)));
  saves = λ p h. s.saves p h ∙ ap (λ k. length k.saves) (l.stays p (s.narrows p h));
  made = s.made ∙ l.made;
  loan = s.loan ∙ l.loan;
}

-- ---- What a step comes to

step_if-is : (b resets : Bool) (name : List ℕ) (list : List (List ℕ)) (sum m : ℤ) → cond b (Some sum) None ≡ Some m
    → (if b then stepped resets name list sum else refuses (Counter name ∷ []) Overflow) ≡ stepped resets name list m
step_if-is true resets name list sum m h = let same : sum ≡ m = cc in ap (stepped resets name list) same
step_if-is false resets name list sum m h = cc

pub step-is : (name : List ℕ) (by : ℤ) (resets : Bool) (list : List (List ℕ)) (number : Option ℤ) (n m : ℤ)
    → number ≡ Some n → cond (is_number (n +ℤ by)) (Some (n +ℤ by)) None ≡ Some m → step_as name by resets list number ≡ stepped resets name list m
step-is name by resets list number n m e h =
    ap (step_as name by resets list) e ∙ step_if-is (is_number (n +ℤ by)) resets name list (n +ℤ by) m h

-- the same with the numbers as they were handed on
pub step-comes : (name : List ℕ) (by B : ℤ) (resets : Bool) (list : List (List ℕ)) (number : Option ℤ) (n N m M : ℤ)
    → number ≡ Some n → N ≡ n → B ≡ by → M ≡ m → Some m ≡ cond (is_number (N +ℤ B)) (Some (N +ℤ B)) None
    → step_as name by resets list number ≡ stepped resets name list M
step-comes name by B resets list number n N m M e same_n same_by same_m h =
    ap (λ b. step_as name b resets list number) (sym same_by)
    ∙ step-is name B resets list number N M (e ∙ ap Some (sym same_n)) (sym h ∙ ap Some (sym same_m))
