-- Ends of environments.
use Rattle.std.proofs.Common.{◌≡◌, ◌∙◌, ◌∷◌, ap, false, refl, sym, subst, true, List, ℕ, []}
use Rattle.std.specs.Prelude.{Result, Ok, Err}
use Rattle.lb_values.specs.declared.cell.Cell.{Cell}
use Rattle.lb_values.specs.declared.value.Value.{Value}
use Rattle.lb_model.specs.declared.cells.Cells.{Ghosts}
use Rattle.lb_model.specs.Settings.{Setting}
use Rattle.lb_model.specs.Sources.{Item, is_boundary}
use Rattle.lb_model.specs.Sources.Item.{Pending, Text}
use Rattle.lb_model_engine.specs.Environments.{behind_boundary, bounded, is_bounded}
use Rattle.lb_model_nest.specs.Wholes.{Executed, Whole, looking, tells}
use Rattle.lb_groups.specs.Open.{TellsIn}
use Rattle.lb_nest.proofs.WordLemmas.{tells-looks}
use Rattle.lb_tokens.specs.Layers.{begins_bounded, behind_pending}
use Rattle.lb_engine.specs.Ends.{IsBounded}
use Rattle.lb_engine.specs.Leads.{Holds, Leads, Passes}
use Rattle.lb_engine.specs.Views.{whole}
use Rattle.lb_engine.specs.declared.engine.Engine.{Engine}
use Rattle.lb_engine.proofs.LeadsLemmas.{leads-after, passes-engine}
use Rattle.lb_engine.proofs.LooksLemmas.{looks-holds, looks-then}

-- a boundary stands first
pub bounded-is : (s : List Item) → is_bounded s ≡ begins_bounded s
bounded-is [] = refl
bounded-is (Pending tok ∷ s) = refl
bounded-is (Text x ∷ s) = refl

-- and is taken away
pub behind-is : (s : List Item) → begins_bounded s ≡ true → behind_boundary s ≡ behind_pending s
behind-is [] h = cc
behind-is (Pending tok ∷ s) h = refl
behind-is (Text x ∷ s) h = cc

-- what is done with what a cell tells
pub told-then : {S E F X Y : Type 0} (C : Ghosts S) (cell : Cell) (f : Value → X) (row : X → Whole → Executed) {rest : Y → Whole → Executed} (v : X) (result : Result Y F) {new : S} {en : Engine} {mid old : S} {e : Engine}
    → TellsIn {E = E} C e.desk.groups cell f (Ok v) mid old → Leads C (row v) rest result new en mid e → Leads C (λ w. looking (cell ∷ []) (row (f (tells w cell)) w)) rest result new en old e
told-then C cell f row v result t second = looks-then C (cell ∷ []) (λ w. f (tells w cell)) row v result (tells-looks t) second

pub told-holds : {S E X : Type 0} (C : Ghosts S) (e : Engine) {cell : Cell} {f : Value → X} {v : X} {new old : S} → Holds C old e → TellsIn {E = E} C e.desk.groups cell f (Ok v) new old → Holds C new e
told-holds C e holds t = looks-holds C e holds (tells-looks t)

-- what an engine is changed to first
pub engine-then : {S F Y : Type 0} (C : Ghosts S) (act mid : Whole → Executed) {rest : Y → Whole → Executed} (result : Result Y F) {new : S} {en em : Engine} {old : S} {eo : Engine}
    → em.desk.groups ≡ eo.desk.groups → ((p : Setting) → act (whole p (C.meaning old p) eo) ≡ mid (whole p (C.meaning old p) em))
    → Leads C mid rest result new en old em → Leads C act rest result new en old eo
engine-then C act mid result {old = old} groups e second = leads-after result (λ p h. h) (passes-engine C old groups e) refl refl second
