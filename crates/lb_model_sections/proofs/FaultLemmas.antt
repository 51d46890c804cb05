-- What ends in a fault changes nothing, and a heading with a star steps no counter.
use Rattle.std.proofs.Common.{◌≡◌, ap, Bool, true, false, ℕ, ℤ, pos, List, [], Some, None, refl}
use Rattle.std.specs.Prelude.{Option, Result, Ok, Err}
use Rattle.lb_base.specs.declared.fault.Kind.{Kind}
use Rattle.lb_base.specs.declared.token.Tok.{Tok}
use Rattle.lb_values.specs.declared.cell.Cell.TheVariants.{Counter, Matter, Resets}
use Rattle.lb_values.specs.declared.value.Value.{Value}
use Rattle.lb_model.specs.declared.world.World.{World}
use Rattle.lb_model.specs.Quantities.{counter_in}
use Rattle.lb_model.specs.Kinds.{number_of}
use Rattle.lb_model.specs.Settings.{State, look}
use Rattle.lb_model_counters.specs.Counters.{names_in, step_counter}
use Rattle.lb_model_counters.proofs.Changed.{step-fault}
use Rattle.lb_model_sections.specs.declared.display.Display.{Display}
use Rattle.lb_model_sections.specs.declared.display.Display.TheVariants.{Itemize, Enumerate, Description, Quote, Quotation, Center, FlushLeft, FlushRight}
use Rattle.lb_model_sections.specs.declared.heading.HeadLevel.{HeadLevel}
use Rattle.lb_model_sections.specs.declared.heading.HeadWant.{HeadWant}
use Rattle.lb_model_sections.specs.Headings.{depth_counter, heading_at, heading_if, is_numbered, is_numbered_in, matter_set, type_of}
use Rattle.lb_model_sections.specs.Joined.{answer_seen}
use Rattle.lb_model_sections.specs.Lists.{item_counter, item_in, item_labelled, label_of}

seen-fault : {X Y : Type 0} (f : X → Y) (r : Result X Kind) (k : Kind) → answer_seen f r ≡ Err k → r ≡ Err k
seen-fault f (Ok x) k h = cc
seen-fault f (Err j) k h = let same : j ≡ k = cc in ap Err same

counted-fault : (name : List ℕ) (w : World) (s : State) (k : Kind)
    → (step_counter name (pos 1) true w s).answer ≡ Err k → (step_counter name (pos 1) true w s).changes ≡ []
unfolding step_counter
counted-fault name w s k h = step-fault name (pos 1) true (names_in w s (Resets name)) (counter_in w s name) k h

if-fault : (b : Bool) (level : HeadLevel) (want : HeadWant) (w : World) (s : State) (k : Kind)
    → (heading_if b level want w s).answer ≡ Err k → (heading_if b level want w s).changes ≡ []
if-fault false level want w s k h = refl
if-fault true level want w s k h = counted-fault (type_of level) w s k (seen-fault _ (step_counter (type_of level) (pos 1) true w s).answer k h)

pub heading-fault : (o : Option HeadLevel) (want : HeadWant) (w : World) (s : State) (k : Kind)
    → (heading_at o want w s).answer ≡ Err k → (heading_at o want w s).changes ≡ []
heading-fault None want w s k h = refl
heading-fault (Some level) want w s k h = if-fault (is_numbered_in level want.star w s) level want w s k h

pub matter-fault : (o : Option Value) (k : Kind) → (matter_set o).answer ≡ Err k → (matter_set o).changes ≡ []
matter-fault None k h = refl
matter-fault (Some v) k h = cc

label-fault : (kind : Display) (lists : List Display) (w : World) (s : State) (k : Kind)
    → (label_of kind lists w s).answer ≡ Err k → (label_of kind lists w s).changes ≡ []
label-fault Itemize lists w s k h = refl
label-fault Enumerate lists w s k h =
    counted-fault (item_counter lists) w s k (seen-fault _ (step_counter (item_counter lists) (pos 1) true w s).answer k h)
label-fault Description lists w s k h = refl
label-fault Quote lists w s k h = refl
label-fault Quotation lists w s k h = refl
label-fault Center lists w s k h = refl
label-fault FlushLeft lists w s k h = refl
label-fault FlushRight lists w s k h = refl

labelled-fault : (kind : Display) (lists : List Display) (label : Option (List Tok)) (w : World) (s : State) (k : Kind)
    → (item_labelled kind lists label w s).answer ≡ Err k → (item_labelled kind lists label w s).changes ≡ []
labelled-fault kind lists None w s k h = label-fault kind lists w s k (seen-fault _ (label_of kind lists w s).answer k h)
labelled-fault kind lists (Some label) w s k h = refl

pub item-fault : (o : Option Display) (lists : List Display) (label : Option (List Tok)) (w : World) (s : State) (k : Kind)
    → (item_in o lists label w s).answer ≡ Err k → (item_in o lists label w s).changes ≡ []
item-fault None lists label w s k h = refl
item-fault (Some kind) lists label w s k h = labelled-fault kind lists label w s k h

-- ---- Stars

starred : (star : Bool) (level : HeadLevel) (depth matter : ℤ) (want : HeadWant) (w : World) (s : State) → star ≡ true
    → (heading_if (is_numbered level star depth matter) level want w s).changes ≡ []
starred true level depth matter want w s h = refl
starred false level depth matter want w s h = cc

pub starred-steps : (o : Option HeadLevel) (want : HeadWant) (w : World) (s : State) → want.star ≡ true → (heading_at o want w s).changes ≡ []
starred-steps None want w s h = refl
starred-steps (Some level) want w s h =
    starred want.star level (number_of (look w s (Counter depth_counter))) (number_of (look w s Matter)) want w s h
