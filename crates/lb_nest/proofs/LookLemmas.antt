-- Cells that are looked at, one after another.
use Rattle.std.proofs.Common.{◌≡◌, ◌∙◌, ◌++◌, List, [], ◌∷◌, Some, None, ap, refl, subst, sym}
use Rattle.std.specs.Prelude.{Option, Result, Ok}
use Rattle.std.specs.Option.{option_map}
use Rattle.lb_groups.specs.Open.{TellsIn}
use Rattle.lb_values.specs.declared.cell.Cell.{Cell}
use Rattle.lb_values.specs.declared.value.Value.{Value}
use Rattle.lb_model.specs.declared.cells.Cells.{Ghosts}
use Rattle.lb_model.specs.declared.group.Group.{Group}
use Rattle.lb_model.specs.Settings.{look}
use Rattle.lb_model.specs.Stacked.{StackedNotes, looked, looked_all, stacked_notes}
use Rattle.lb_model_nest.specs.Wholes.{Whole, tells}
use Rattle.lb_nest.specs.Leads.{Looks}
use Rattle.lb_nest.proofs.LeadsLemmas.{looked-append-of}

-- one cell more
pub looks-more : {S X Y E : Type 0} {C : Ghosts S} {g : List Group} {cells : List Cell} {cell : Cell} {f : Whole → X} {h : Value → Y} {x : X} {y : Y} {new mid old : S}
    → Looks {E = E} C g cells f (Ok x) mid old → TellsIn {E = E} C g cell h (Ok y) new mid → Looks {E = E} {X = X × Y} C g (cells ++ cell ∷ []) (λ w. (f w, h (tells w cell))) (Ok (x, y)) new old
looks-more {S} {X} {Y} {E} {C} {g} {cells} {cell} {f} {h} {x} {y} {new} {mid} {old} first second =
    record {
      narrows = λ p a. first.narrows p (second.narrows p a);
      value =
          λ p a w left n i. (
            first.value p (second.narrows p a) w left n i,
            (ap (λ k. h (look p.world k.now cell)) (sym (first.stays p (second.narrows p a))) ∙ second.value p a) i,
          );
      stays = λ p a. second.stays p a ∙ first.stays p (second.narrows p a);
      notes = second.notes ∙ ap (option_map (looked cell)) first.notes ∙ sym (looked-append-of cells (cell ∷ []) (stacked_notes g (C.notes old)));
      made = second.made ∙ first.made;
      loan = second.loan ∙ first.loan;
    }

-- what is made of what they tell
pub looks-made : {S X Y E : Type 0} {C : Ghosts S} {g : List Group} {cells : List Cell} {f : Whole → X} {x : X} {new old : S} (make : X → Y)
    → Looks {E = E} C g cells f (Ok x) new old → Looks {E = E} C g cells (λ w. make (f w)) (Ok (make x)) new old
looks-made make l = record { narrows = l.narrows; value = λ p a w left n. ap make (l.value p a w left n); stays = l.stays; notes = l.notes; made = l.made; loan = l.loan }

none-looked : (o : Option StackedNotes) → o ≡ option_map (looked_all []) o
none-looked None = refl
none-looked (Some n) = refl

-- what is told, or asked, where it is another
pub looks-as : {S X E : Type 0} {C : Ghosts S} {g : List Group} {cells : List Cell} {f : Whole → X} {x y : X} {new old : S} → Looks {E = E} C g cells f (Ok x) new old → x ≡ y → Looks {E = E} C g cells f (Ok y) new old
looks-as {S} {X} {E} {C} {g} {cells} {f} {x} {y} {new} {old} l e = subst (λ z. Looks {E = E} C g cells f (Ok z) new old) e l

pub looks-of : {S X Y E : Type 0} {C : Ghosts S} {g : List Group} {cells : List Cell} (f : Y → Whole → X) {a b : Y} {result : Result X E} {new old : S} → a ≡ b → Looks C g cells (f b) result new old → Looks C g cells (f a) result new old
looks-of {C = C} {g = g} {cells = cells} f {result = result} {new = new} {old = old} e l = subst (λ z. Looks C g cells (f z) result new old) (sym e) l
