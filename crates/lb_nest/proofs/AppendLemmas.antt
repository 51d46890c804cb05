-- What is added to the journal.
use Rattle.std.proofs.Common.{◌≡◌, ◌∙◌, ◌++◌, Bool, true, false, ℕ, List, [], ◌∷◌, Some, None, ap, append-nil, append_assoc, refl, sym}
use Rattle.std.specs.Prelude.{if◌then◌else◌}
use Rattle.lb_base.specs.declared.fault.Kind.TheVariants.{CounterTooLarge}
use Rattle.lb_base.specs.declared.node.Note.{Note}
use Rattle.lb_values.specs.declared.value.Value.{Value}
use Rattle.lb_values.specs.Kept.{Kept}
use Rattle.lb_model.specs.declared.append.Append.{Append}
use Rattle.lb_model.specs.declared.group.Group.{Group}
use Rattle.lb_model.specs.Settings.{Setting}
use Rattle.lb_model_paper.specs.Fonts.{FontData}
use Rattle.lb_model_nest.specs.declared.turn.Went.TheVariants.{On, Stopped}
use Rattle.lb_model_nest.specs.Pages.{all_missing_logged, has_code, lines_appended, missing_logged, notes_written}
use Rattle.lb_model_nest.specs.Wholes.{Whole, appended, executed}
use Rattle.lb_nest.specs.Appends.{has_note, is_without_appends, missing_append, missing_appends, note_append, note_appends}
use Rattle.lb_nest.specs.Views.{whole}
use Rattle.lb_nest.specs.declared.nest.Nest.{Nest}

-- appends behind those of a configuration
abbrev pub with_appends : List Append → Whole → Whole
with_appends l w = record w { feed = record w.feed { appends = w.feed.appends ++ l } }

with-both : (a b : List Append) (w : Whole) → with_appends b (with_appends a w) ≡ with_appends (a ++ b) w
with-both a b w i = record w { feed = record w.feed { appends = append_assoc w.feed.appends a b i } }

with-none : (w : Whole) → w ≡ with_appends [] w
with-none w i = record w { feed = record w.feed { appends = sym (append-nil w.feed.appends) i } }

-- the entries of a nest are appends
pub entries-added : (l : List Append) (n : Nest) (w : Whole) (p : Setting) (k : Kept Value) (g : List Group) (left : ℕ)
    → with_appends l (whole w p k g left n) ≡ whole w p k g left (record n { entries = n.entries ++ l })
entries-added l n w p k g left i = record (whole w p k g left n) { feed = record (whole w p k g left n).feed { appends = append_assoc w.feed.appends n.entries l i } }

-- ---- Notes

lines-added : (number : List ℕ) (notes : List Note) (w : Whole) → lines_appended number notes w ≡ with_appends (note_appends number notes) w
lines-added number [] w = with-none w
lines-added number (n ∷ notes) w = lines-added number notes (appended (note_append number n) w) ∙ with-both (note_append number n ∷ []) (note_appends number notes) w

pub notes-added : (number : List ℕ) (notes : List Note) (w : Whole) → notes_written (Some number) notes w ≡ executed On (with_appends (note_appends number notes) w)
notes-added number [] w = ap (executed On) (with-none w)
notes-added number (n ∷ notes) w = ap (executed On) (lines-added number (n ∷ notes) w)

pub no-notes : (notes : List Note) (w : Whole) → has_note notes ≡ false → notes_written None notes w ≡ executed On w
no-notes [] w e = refl
no-notes (n ∷ notes) w e = cc

pub too-large : (notes : List Note) (w : Whole) → has_note notes ≡ true → notes_written None notes w ≡ executed (Stopped CounterTooLarge) w
too-large [] w e = cc
too-large (n ∷ notes) w e = refl

pub notes-there : (number : List ℕ) (notes : List Note) → is_without_appends (note_appends number notes) ≡ true → has_note notes ≡ false
notes-there number [] e = refl
notes-there number (n ∷ notes) e = cc

pub notes-not-there : (number : List ℕ) (notes : List Note) → is_without_appends (note_appends number notes) ≡ false → has_note notes ≡ true
notes-not-there number [] e = cc
notes-not-there number (n ∷ notes) e = refl

-- ---- Characters that a font lacks

missing-as : (b : Bool) (font : FontData) (code : ℕ) (l : List Append) (w : Whole)
    → with_appends l (if b then w else missing_logged font code w) ≡ with_appends (if b then l else missing_append font code ∷ l) w
missing-as true font code l w = refl
missing-as false font code l w = with-both (missing_append font code ∷ []) l w

pub missing-added : (font : FontData) (text : List ℕ) (w : Whole) → all_missing_logged font text w ≡ with_appends (missing_appends font text) w
missing-added font [] w = with-none w
missing-added font (code ∷ text) w =
    missing-added font text (if has_code font code then w else missing_logged font code w) ∙ missing-as (has_code font code) font code (missing_appends font text) w
