-- Effects inside groups.
use Rattle.std.proofs.Common.{◌≡◌, ◌∙◌, ◌≤◌, ap, sym, subst, List, [], ◌∷◌, Some, None, refl}
use Rattle.std.specs.Prelude.{Option, Result, Ok, Err}
use Rattle.std.specs.Option.{option_map}
use Rattle.lb_base.specs.declared.fault.Stop.{Stop}
use Rattle.lb_base.specs.declared.fault.Stop.TheVariants.{Memory, Fault, At}
use Rattle.lb_values.specs.declared.cell.Cell.{Cell}
use Rattle.lb_values.specs.declared.reach.Reach.TheVariants.{Global}
use Rattle.lb_values.specs.declared.value.Value.{Value}
use Rattle.lb_values.specs.Kept.{Kept, changed}
use Rattle.lb_model.specs.declared.cells.Cells.{Ghosts}
use Rattle.lb_model.specs.declared.group.Group.{Group}
use Rattle.lb_model.specs.declared.world.World.{World}
use Rattle.lb_model.specs.Settings.{Notes, State, noted, noted_all, noted_change}
use Rattle.lb_model.specs.Stacked.{looked_all, saves_in, stacked, stacked_notes}
use Rattle.lb_groups.proofs.StackedLemmas.{notes-global, notes-looked, stacked-global}
use Rattle.lb_model_counters.specs.Effects.{Effect, all_assigned, all_changed, all_notes_assigned, changes_noted, looked_by, noted_by}
use Rattle.lb_counters.specs.Does.{Does, DoesIn, UnlessMemory}

stacked-all : (groups : List Group) (changes : List (Cell × Value)) (k : Kept Value)
    → stacked groups (all_changed changes k) ≡ all_assigned changes (stacked groups k)
stacked-all groups [] k = refl
stacked-all groups (c ∷ changes) k = stacked-all groups changes (changed Global c.0 c.1 k) ∙ ap (all_assigned changes) (stacked-global groups c.0 c.1 k)

notes-changed : (groups : List Group) (changes : List (Cell × Value)) (n : Notes)
    → stacked_notes groups (Some (changes_noted changes n)) ≡ option_map (all_notes_assigned changes) (stacked_notes groups (Some n))
notes-changed groups [] n = refl
notes-changed groups (c ∷ changes) n =
    notes-changed groups changes (noted_change Global c.0 n) ∙ ap (option_map (all_notes_assigned changes)) (notes-global groups c.0 (Some n))

notes-all-looked : (groups : List Group) (cells : List Cell) (n : Notes)
    → stacked_notes groups (Some (noted_all cells n)) ≡ option_map (looked_all cells) (stacked_notes groups (Some n))
notes-all-looked groups [] n = refl
notes-all-looked groups (c ∷ cells) n = notes-all-looked groups cells (noted c n) ∙ ap (option_map (looked_all cells)) (notes-looked groups c (Some n))

notes-by : {X : Type 0} (groups : List Group) (e : Effect X) (o : Option Notes)
    → stacked_notes groups (option_map (noted_by e) o) ≡ option_map (looked_by e) (stacked_notes groups o)
notes-by groups e None = refl
notes-by groups e (Some n) =
    notes-changed groups e.changes (noted_all e.looks n) ∙ ap (option_map (all_notes_assigned e.changes)) (notes-all-looked groups e.looks n)

ended : {X : Type 0} (result : Result X Stop) (P Q : Type 0) → (P → Q) → UnlessMemory result P → UnlessMemory result Q
ended (Ok x) P Q f h = f h
ended (Err Memory) P Q f h = tt
ended (Err (Fault kind)) P Q f h = f h
ended (Err (At fault)) P Q f h = h

-- a call that does what an effect says does so inside whatever groups are open
pub does_in : {S X : Type 0} (C : Ghosts S) (groups : List Group) (effect : World → State → Effect X) (result : Result X Stop) (new old : S)
    → Does C effect result new old → DoesIn C groups effect result new old
does_in C groups effect result new old d = record {
  narrows = d.narrows;
  answer = d.answer;
  done =
      ended result _ _
      (λ h p a. ap (stacked groups) (h p a) ∙ stacked-all groups (effect p.world (C.meaning old p).now).changes (C.meaning old p)) d.done;
  notes =
      ended result _ _
      (λ h p a. ap (stacked_notes groups) (h p a) ∙ notes-by groups (effect p.world (C.meaning old p).now) (C.notes old)) d.notes;
  standing = λ p a h. subst (λ n. saves_in groups ≤ n) (sym (d.saves p a)) h;
  made = d.made;
  loan = d.loan;
}
