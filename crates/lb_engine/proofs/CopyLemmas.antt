-- Meanings that are told, and that names may have.
use Rattle.std.proofs.Common.{◌≡◌, ◌∙◌, ap, refl, subst, sym, true}
use Rattle.std.specs.Prelude.{Option, IfOk, OnOk, Result, Ok, Err}
use Rattle.std.specs.Option.{option_map}
use Rattle.lb_base.specs.declared.token.Tok.{Tok}
use Rattle.lb_base.specs.declared.token.Tok.TheVariants as token
use Rattle.lb_values.specs.Kept.{Kept}
use Rattle.lb_values.specs.declared.cell.Cell.{Cell}
use Rattle.lb_values.specs.declared.cell.Cell.TheVariants as cell
use Rattle.lb_values.specs.declared.meaning.Meaning.{Meaning}
use Rattle.lb_values.specs.declared.meaning.Meaning.TheVariants as meaning
use Rattle.lb_values.specs.declared.value.Value.{Value}
use Rattle.lb_values.specs.declared.value.Value.TheVariants as value
use Rattle.lb_model.specs.declared.cells.Cells.{Ghosts}
use Rattle.lb_model.specs.declared.world.World.{World}
use Rattle.lb_model.specs.Configs.{looks_of_meaning}
use Rattle.lb_model.specs.Kinds.{meaning_of}
use Rattle.lb_model.specs.Meanings.{token_meaning}
use Rattle.lb_model.specs.Ranges.{fits, is_meaning, is_settable}
use Rattle.lb_model.specs.Settings.{IsState, Setting, State, noted_all}
use Rattle.lb_model.specs.Stacked.{Standing}
use Rattle.lb_model.specs.Told.{Told}
use Rattle.lb_model_engine.specs.Definitions.{meaning_value}
use Rattle.lb_model_nest.specs.Wholes.{Executed, Whole}
use Rattle.lb_engine.specs.CopiedMeanings.{told_meaning}
use Rattle.lb_engine.specs.Leads.{Holds, Leads}
use Rattle.lb_engine.specs.Names.{is_name}
use Rattle.lb_engine.specs.declared.engine.Engine.{Engine}
use Rattle.lb_engine.proofs.AssignLemmas.{name-fits}
use Rattle.lb_engine.proofs.ReadingLemmas.{meaning-passes}

-- ---- What a token means

pub meaning-leads : {S E : Type 0} (C : Ghosts S) (row : Option Meaning → Whole → Executed) (tok : Tok) (result : Result (Option Meaning) E) {new old : S} {e : Engine}
    → Holds C old e → Told C new old → IfOk result (λ m. (p : Setting) → C.agrees new p → token_meaning p.world (C.meaning old p).now tok ≡ m)
    → OnOk result (C.notes new ≡ option_map (noted_all (looks_of_meaning tok)) (C.notes old))
    → Leads C (told_meaning tok row) row result new e old e
meaning-leads C row tok (Ok m) {new} {old} {e} holds told value notes =
    record {
      narrows = told.narrows;
      passes = meaning-passes C (λ t. row) tok m told value notes;
      keeps = λ p h. let k = holds p (told.narrows p h) in record { standing = subst (Standing e.desk.groups) (sym (told.stays p h)) k.standing; fonts = k.fonts };
      made = told.made;
      loan = told.loan;
    }
meaning-leads C row tok (Err f) holds told value notes = record { narrows = told.narrows; passes = tt; keeps = tt; made = told.made; loan = told.loan }

pub meaning-stays : {S E : Type 0} (C : Ghosts S) (tok : Tok) (result : Result (Option Meaning) E) {new old : S}
    → Told C new old → IfOk result (λ m. (p : Setting) → C.agrees new p → token_meaning p.world (C.meaning old p).now tok ≡ m)
    → IfOk result (λ m. (p : Setting) → C.agrees new p → token_meaning p.world (C.meaning new p).now tok ≡ m)
meaning-stays C tok (Ok m) told value = λ p h. ap (λ (k : Kept Value). token_meaning p.world k.now tok) (told.stays p h) ∙ value p h
meaning-stays C tok (Err f) told value = tt

-- ---- A name may have it

pub name-settable-to : (c : Cell) (v : Value) → is_name c ≡ true → is_settable c v ≡ true
name-settable-to (cell.Word name) v e = refl
name-settable-to (cell.Active code) v e = refl
name-settable-to c v e = cc

name-absent : (c : Cell) → is_name c ≡ true → fits c value.Absent ≡ true
name-absent (cell.Word name) e = refl
name-absent (cell.Active code) e = refl
name-absent c e = cc

kept-meaning : (c : Cell) (m : Meaning) → is_name c ≡ true → fits c (value.Meaning m) ≡ true → is_meaning m ≡ true
kept-meaning (cell.Word name) m e h = h
kept-meaning (cell.Active code) m e h = h
kept-meaning c m e h = cc

held-fits : (name c : Cell) (v : Value) → is_name name ≡ true → is_name c ≡ true → fits c v ≡ true → fits name (meaning_value (meaning_of v)) ≡ true
held-fits name c (value.Meaning m) n e h = name-fits name m n (kept-meaning c m e h)
held-fits name c v n e h = name-absent name n

token-fits : (w : World) (s : State) (tok : Tok) (name : Cell) → is_name name ≡ true → IsState s → fits name (meaning_value (token_meaning w s tok)) ≡ true
token-fits w s (token.Char cat code) name n h = name-fits name (meaning.Char cat code) n refl
token-fits w s (token.Word word) name n h = held-fits name (cell.Word word) (s (cell.Word word)) n refl (h (cell.Word word))
token-fits w s (token.Active code) name n h = held-fits name (cell.Active code) (s (cell.Active code)) n refl (h (cell.Active code))
token-fits w s (token.Param k) name n h = name-absent name n

pub copied-fits : (w : World) (s : State) (tok : Tok) (name : Cell) (m : Option Meaning) → is_name name ≡ true → IsState s → token_meaning w s tok ≡ m → fits name (meaning_value m) ≡ true
copied-fits w s tok name m n h e = ap (λ x. fits name (meaning_value x)) (sym e) ∙ token-fits w s tok name n h
