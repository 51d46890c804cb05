-- What cells hold once the effects of counters are done.
use Rattle.std.proofs.Common.{◌≡◌, ◌∙◌, ◌+ℤ◌, ap, cond, Bool, true, false, ℕ, ℤ, pos, List, [], ◌∷◌, ◌++◌, inl, inr, Some, None, refl, arith}
use Rattle.std.specs.Prelude.{Contains, Option, Ok, Err, if◌then◌else◌, unwrap_or}
use Rattle.std.proofs.lemmas.List.Elements.{Contains-append_cases, Contains-append_right, Contains-push, Contains-push_cases}
use Rattle.lb_base.specs.declared.fault.Kind.{Kind}
use Rattle.lb_base.specs.declared.fault.Kind.TheVariants.{Overflow}
use Rattle.lb_values.proofs.SameCells.{cell_eq-refl}
use Rattle.lb_values.specs.Cells.{cell_eq}
use Rattle.lb_values.specs.Kept.{Kept, changed}
use Rattle.lb_values.specs.declared.cell.Cell.{Cell}
use Rattle.lb_values.specs.declared.cell.Cell.TheVariants.{Counter, Counters, Resets}
use Rattle.lb_values.specs.declared.reach.Reach.TheVariants.{Global}
use Rattle.lb_values.specs.declared.value.Form.{Form}
use Rattle.lb_values.specs.declared.value.Value.{Value}
use Rattle.lb_values.specs.declared.value.Value.TheVariants.{Names, Number}
use Rattle.lb_model.specs.declared.world.World.{World}
use Rattle.lb_model.specs.Forms.{in_form}
use Rattle.lb_model.specs.Kinds.{names_of}
use Rattle.lb_model.specs.Quantities.{counter_in}
use Rattle.lb_model.specs.Ranges.{is_number}
use Rattle.lb_model.specs.Settings.{State}
use Rattle.lb_model_counters.specs.Counters.{begun, begun_as, begun_within, names_in, new_as, print_as, printed_as, set_as, step_as, stepped, zeros}
use Rattle.lb_model_counters.specs.Effects.{Effect, all_changed, refuses}

put-here : (b : Bool) (x y : Value) → b ≡ true → cond b x y ≡ x
put-here true x y h = refl
put-here false x y h = cc

put-elsewhere : (b : Bool) (x y : Value) → b ≡ false → cond b x y ≡ y
put-elsewhere true x y h = cc
put-elsewhere false x y h = refl

put-zero : (b : Bool) (v : Value) → v ≡ Number (pos 0) → cond b (Number (pos 0)) v ≡ Number (pos 0)
put-zero true v h = refl
put-zero false v h = h

-- ---- Counters that are reset

zeros-keep : (names : List (List ℕ)) (k : Kept Value) (c : Cell) → k.now c ≡ Number (pos 0) → (all_changed (zeros names) k).now c ≡ Number (pos 0)
zeros-keep [] k c h = h
zeros-keep (m ∷ names) k c h = zeros-keep names (changed Global (Counter m) (Number (pos 0)) k) c (put-zero (cell_eq (Counter m) c) (k.now c) h)

zeros-first : (m n : List ℕ) (names : List (List ℕ)) (k : Kept Value) → m ≡ n → (all_changed (zeros (m ∷ names)) k).now (Counter n) ≡ Number (pos 0)
zeros-first m n names k e =
    zeros-keep names (changed Global (Counter m) (Number (pos 0)) k) (Counter n)
    (put-here (cell_eq (Counter m) (Counter n)) (Number (pos 0)) (k.now (Counter n)) (ap (λ x. cell_eq (Counter x) (Counter n)) e ∙ cell_eq-refl (Counter n)))

none-in : (n : List ℕ) → Contains {X = List ℕ} [] n → ⊥
none-in n h = omega arith

one-in : (m n : List ℕ) → Contains (m ∷ []) n → m ≡ n
one-in m n h = elim (Contains-push_cases [] m n h) as (λ _. m ≡ n) [ inl i ↦ absurd (none-in n i) | inr e ↦ e ]

pub zeros-reset : (names : List (List ℕ)) (k : Kept Value) (n : List ℕ) → Contains names n → (all_changed (zeros names) k).now (Counter n) ≡ Number (pos 0)
zeros-reset [] k n h = absurd (none-in n h)
zeros-reset (m ∷ names) k n h =
    elim (Contains-append_cases (m ∷ []) names n h) as (λ _. (all_changed (zeros (m ∷ names)) k).now (Counter n) ≡ Number (pos 0)) [
      | inl i ↦ zeros-first m n names k (one-in m n i)
      | inr i ↦ zeros-reset names (changed Global (Counter m) (Number (pos 0)) k) n i
    ]

contains-first : (m : List ℕ) (names : List (List ℕ)) → Contains (m ∷ names) m
contains-first m names = (0, omega arith, refl)

contains-more : (m n : List ℕ) (names : List (List ℕ)) → Contains names n → Contains (m ∷ names) n
contains-more m n names h = Contains-append_right (m ∷ []) names n h

-- a cell that is none of these counters
pub zeros-others : (names : List (List ℕ)) (k : Kept Value) (c : Cell)
    → ((n : List ℕ) → Contains names n → cell_eq (Counter n) c ≡ false) → (all_changed (zeros names) k).now c ≡ k.now c
zeros-others [] k c h = refl
zeros-others (m ∷ names) k c h =
    zeros-others names (changed Global (Counter m) (Number (pos 0)) k) c (λ n i. h n (contains-more m n names i))
    ∙ put-elsewhere (cell_eq (Counter m) c) (Number (pos 0)) (k.now c) (h m (contains-first m names))

-- ---- Counters that are set

pub set-number : (name : List ℕ) (n : ℤ) (o : Option ℤ) (k : Kept Value)
    → (set_as name n o).answer ≡ Ok tt → (all_changed (set_as name n o).changes k).now (Counter name) ≡ Number n
set-number name n None k h = cc
set-number name n (Some m) k h = put-here (cell_eq (Counter name) (Counter name)) (Number n) (k.now (Counter name)) (cell_eq-refl (Counter name))

pub set-others : (name : List ℕ) (n : ℤ) (o : Option ℤ) (k : Kept Value) (c : Cell)
    → cell_eq (Counter name) c ≡ false → (all_changed (set_as name n o).changes k).now c ≡ k.now c
set-others name n None k c h = refl
set-others name n (Some m) k c h = put-elsewhere (cell_eq (Counter name) c) (Number n) (k.now c) h

-- ---- Steps

-- a step, where its sum is in the range of numbers
abbrev step_if : Bool → Bool → List ℕ → List (List ℕ) → ℤ → Effect Unit
step_if b resets name list n = if b then stepped resets name list n else refuses (Counter name ∷ []) Overflow

abbrev AreOthers : List (List ℕ) → Cell → Type 0
AreOthers list c = (n : List ℕ) → Contains list n → cell_eq (Counter n) c ≡ false

step_if-reset : (b : Bool) (name : List ℕ) (list : List (List ℕ)) (n : ℤ) (k : Kept Value) (other : List ℕ)
    → (step_if b true name list n).answer ≡ Ok tt → Contains list other
    → (all_changed (step_if b true name list n).changes k).now (Counter other) ≡ Number (pos 0)
step_if-reset true name list n k other h i = zeros-reset list (changed Global (Counter name) (Number n) k) other i
step_if-reset false name list n k other h i = cc

step_if-others : (b resets : Bool) (name : List ℕ) (list : List (List ℕ)) (n : ℤ) (k : Kept Value) (c : Cell)
    → cell_eq (Counter name) c ≡ false → AreOthers list c → (all_changed (step_if b resets name list n).changes k).now c ≡ k.now c
step_if-others false resets name list n k c h o = refl
step_if-others true false name list n k c h o = put-elsewhere (cell_eq (Counter name) c) (Number n) (k.now c) h
step_if-others true true name list n k c h o =
    zeros-others list (changed Global (Counter name) (Number n) k) c o ∙ put-elsewhere (cell_eq (Counter name) c) (Number n) (k.now c) h

step_if-sum : (b resets : Bool) (name : List ℕ) (list : List (List ℕ)) (n : ℤ) (k : Kept Value)
    → (step_if b resets name list n).answer ≡ Ok tt → AreOthers list (Counter name)
    → (all_changed (step_if b resets name list n).changes k).now (Counter name) ≡ Number n
step_if-sum false resets name list n k h o = cc
step_if-sum true false name list n k h o = put-here (cell_eq (Counter name) (Counter name)) (Number n) (k.now (Counter name)) (cell_eq-refl (Counter name))
step_if-sum true true name list n k h o =
    zeros-others list (changed Global (Counter name) (Number n) k) (Counter name) o
    ∙ put-here (cell_eq (Counter name) (Counter name)) (Number n) (k.now (Counter name)) (cell_eq-refl (Counter name))

pub step-reset : (name : List ℕ) (by : ℤ) (list : List (List ℕ)) (number : Option ℤ) (k : Kept Value) (other : List ℕ)
    → (step_as name by true list number).answer ≡ Ok tt → Contains list other
    → (all_changed (step_as name by true list number).changes k).now (Counter other) ≡ Number (pos 0)
step-reset name by list None k other h i = cc
step-reset name by list (Some n) k other h i = step_if-reset (is_number (n +ℤ by)) name list (n +ℤ by) k other h i

pub step-others : (name : List ℕ) (by : ℤ) (resets : Bool) (list : List (List ℕ)) (number : Option ℤ) (k : Kept Value) (c : Cell)
    → cell_eq (Counter name) c ≡ false → AreOthers list c → (all_changed (step_as name by resets list number).changes k).now c ≡ k.now c
step-others name by resets list None k c h o = refl
step-others name by resets list (Some n) k c h o = step_if-others (is_number (n +ℤ by)) resets name list (n +ℤ by) k c h o

pub step-sum : (name : List ℕ) (n by : ℤ) (resets : Bool) (list : List (List ℕ)) (number : Option ℤ) (k : Kept Value)
    → number ≡ Some n → (step_as name by resets list number).answer ≡ Ok tt → AreOthers list (Counter name)
    → (all_changed (step_as name by resets list number).changes k).now (Counter name) ≡ Number (n +ℤ by)
step-sum name n by resets list None k e h o = cc
step-sum name n by resets list (Some m) k e h o =
    let same : m ≡ n = cc in
    step_if-sum (is_number (m +ℤ by)) resets name list (m +ℤ by) k h o ∙ ap (λ x. Number (x +ℤ by)) same

-- ---- New counters

begun-number : (name : List ℕ) (cp : List (List ℕ)) (k : Kept Value) → (all_changed (begun name cp) k).now (Counter name) ≡ Number (pos 0)
unfolding cell_eq
begun-number name cp k = put-here (cell_eq (Counter name) (Counter name)) (Number (pos 0)) (k.now (Counter name)) (cell_eq-refl (Counter name))

within-number : (name within : List ℕ) (cp list : List (List ℕ)) (o : Option ℤ) (k : Kept Value)
    → (begun_within name within cp list o).answer ≡ Ok tt → (all_changed (begun_within name within cp list o).changes k).now (Counter name) ≡ Number (pos 0)
unfolding cell_eq
within-number name within cp list None k h = cc
within-number name within cp list (Some n) k h = begun-number name cp k

begun_as-number : (name : List ℕ) (within : Option (List ℕ)) (w : World) (s : State) (k : Kept Value)
    → (begun_as name within w s).answer ≡ Ok tt → (all_changed (begun_as name within w s).changes k).now (Counter name) ≡ Number (pos 0)
begun_as-number name None w s k h = begun-number name (names_in w s Counters) k
begun_as-number name (Some within) w s k h =
    within-number name within (names_in w s Counters) (names_in w s (Resets within)) (counter_in w s within) k h

pub new-number : (name : List ℕ) (within : Option (List ℕ)) (w : World) (s : State) (o : Option ℤ) (k : Kept Value)
    → (new_as name within w s o).answer ≡ Ok tt → (all_changed (new_as name within w s o).changes k).now (Counter name) ≡ Number (pos 0)
new-number name within w s None k h = begun_as-number name within w s k h
new-number name within w s (Some n) k h = cc

-- the names that a value lists
abbrev listed_in : Value → List (List ℕ)
listed_in v = unwrap_or (names_of v) []

within-checkpoint : (name within : List ℕ) (cp list : List (List ℕ)) (o : Option ℤ) (k : Kept Value)
    → (begun_within name within cp list o).answer ≡ Ok tt
    → Contains (listed_in ((all_changed (begun_within name within cp list o).changes k).now Counters)) name
unfolding cell_eq
within-checkpoint name within cp list None k h = absurd (cc)
within-checkpoint name within cp list (Some n) k h = Contains-push cp name

begun_as-checkpoint : (name : List ℕ) (within : Option (List ℕ)) (w : World) (s : State) (k : Kept Value)
    → (begun_as name within w s).answer ≡ Ok tt → Contains (listed_in ((all_changed (begun_as name within w s).changes k).now Counters)) name
unfolding cell_eq
begun_as-checkpoint name None w s k h = Contains-push (names_in w s Counters) name
begun_as-checkpoint name (Some within) w s k h =
    within-checkpoint name within (names_in w s Counters) (names_in w s (Resets within)) (counter_in w s within) k h

pub new-checkpoint : (name : List ℕ) (within : Option (List ℕ)) (w : World) (s : State) (o : Option ℤ) (k : Kept Value)
    → (new_as name within w s o).answer ≡ Ok tt → Contains (listed_in ((all_changed (new_as name within w s o).changes k).now Counters)) name
new-checkpoint name within w s None k h = begun_as-checkpoint name within w s k h
new-checkpoint name within w s (Some n) k h = absurd (cc)

listed-here : (b : Bool) (list : List (List ℕ)) (name : List ℕ) (v : Value) → b ≡ true → Contains (listed_in (cond b (Names (list ++ name ∷ [])) v)) name
listed-here true list name v h = Contains-push list name
listed-here false list name v h = absurd (cc)

within-reset : (name within : List ℕ) (cp list : List (List ℕ)) (o : Option ℤ) (k : Kept Value)
    → (begun_within name within cp list o).answer ≡ Ok tt
    → Contains (listed_in ((all_changed (begun_within name within cp list o).changes k).now (Resets within))) name
within-reset name within cp list None k h = absurd (cc)
within-reset name within cp list (Some n) k h =
    listed-here (cell_eq (Resets within) (Resets within)) list name ((all_changed (begun name cp) k).now (Resets within)) (cell_eq-refl (Resets within))

pub new-reset : (name within : List ℕ) (w : World) (s : State) (o : Option ℤ) (k : Kept Value)
    → (new_as name (Some within) w s o).answer ≡ Ok tt
    → Contains (listed_in ((all_changed (new_as name (Some within) w s o).changes k).now (Resets within))) name
new-reset name within w s None k h =
    within-reset name within (names_in w s Counters) (names_in w s (Resets within)) (counter_in w s within) k h
new-reset name within w s (Some n) k h = absurd (cc)

-- ---- Faults

pub set-fault : (name : List ℕ) (n : ℤ) (o : Option ℤ) (k : Kind) → (set_as name n o).answer ≡ Err k → (set_as name n o).changes ≡ []
set-fault name n None k h = refl
set-fault name n (Some m) k h = cc

step_if-fault : (b resets : Bool) (name : List ℕ) (list : List (List ℕ)) (n : ℤ) (k : Kind)
    → (step_if b resets name list n).answer ≡ Err k → (step_if b resets name list n).changes ≡ []
step_if-fault false resets name list n k h = refl
step_if-fault true false name list n k h = cc
step_if-fault true true name list n k h = cc

pub step-fault : (name : List ℕ) (by : ℤ) (resets : Bool) (list : List (List ℕ)) (o : Option ℤ) (k : Kind)
    → (step_as name by resets list o).answer ≡ Err k → (step_as name by resets list o).changes ≡ []
step-fault name by resets list None k h = refl
step-fault name by resets list (Some n) k h = step_if-fault (is_number (n +ℤ by)) resets name list (n +ℤ by) k h

within-fault : (name within : List ℕ) (cp list : List (List ℕ)) (o : Option ℤ) (k : Kind)
    → (begun_within name within cp list o).answer ≡ Err k → (begun_within name within cp list o).changes ≡ []
within-fault name within cp list None k h = refl
within-fault name within cp list (Some n) k h = cc

pub new-fault : (name : List ℕ) (within : Option (List ℕ)) (w : World) (s : State) (o : Option ℤ) (k : Kind)
    → (new_as name within w s o).answer ≡ Err k → (new_as name within w s o).changes ≡ []
new-fault name None w s None k h = cc
new-fault name (Some within) w s None k h =
    within-fault name within (names_in w s Counters) (names_in w s (Resets within)) (counter_in w s within) k h
new-fault name within w s (Some n) k h = refl

printed-changes : (name : List ℕ) (text : Option (List ℕ)) → (printed_as name text).changes ≡ []
printed-changes name None = refl
printed-changes name (Some text) = refl

pub print-changes : (name : List ℕ) (form : Form) (o : Option ℤ) → (print_as name form o).changes ≡ []
print-changes name form None = refl
print-changes name form (Some n) = printed-changes name (in_form form n)
