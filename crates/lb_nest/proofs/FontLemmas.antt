-- Fonts that are looked for.
use Rattle.std.proofs.Common.{◌≡◌, ◌∙◌, ℕ, List, ap, refl, sym}
use Rattle.std.specs.Prelude.{Ok, pos}
use Rattle.std.specs.Option.{option_map}
use Rattle.lb_base.specs.declared.fault.Fault.{Fault}
use Rattle.lb_base.specs.declared.fault.Kind.{Kind}
use Rattle.lb_base.specs.declared.fault.Stop.TheVariants as stop
use Rattle.lb_model.specs.declared.cells.Cells.{Ghosts}
use Rattle.lb_model.specs.declared.group.Group.{Group}
use Rattle.lb_model.specs.Settings.{Setting, noted_all}
use Rattle.lb_model.specs.Stacked.{looked_all, stacked_notes}
use Rattle.lb_model.specs.Told.{Told}
use Rattle.lb_model_paper.specs.Fonts.{FontData}
use Rattle.lb_model_paper.specs.FoundFonts.{FontFound, Found}
use Rattle.lb_model_nest.specs.declared.turn.Went.TheVariants.{Stopped, StoppedAt}
use Rattle.lb_model_nest.specs.Fonts.{font_to, in_number_font, present}
use Rattle.lb_model_nest.specs.Wholes.{Executed, Whole, looking}
use Rattle.lb_fonts.specs.Loads.{IsRefused}
use Rattle.lb_fonts.specs.declared.shelf.FontKey.{FontKey}
use Rattle.lb_fonts.specs.Shelves.{cells_by, file_by, found_by}
use Rattle.lb_nest.specs.Fonts.{behind_font, style_cells, styled}
use Rattle.lb_nest.specs.Leads.{Leads, Looks, Passes}
use Rattle.lb_nest.specs.Views.{Keeps, anywhere, whole}
use Rattle.lb_nest.specs.declared.fonts.Chosen.{Chosen}
use Rattle.lb_nest.specs.declared.fonts.Chosen.TheVariants as chosen
use Rattle.lb_nest.specs.declared.nest.Nest.{Nest}
use Rattle.lb_nest.proofs.LeadsLemmas.{look-passes, looked-append-of, notes-looked-all, passes-then, same-left}

-- what is done with what was found
pub font-found : (f : FontFound) (file : List ℕ) (font : FontData) (row : FontData → Whole → Executed) (w : Whole) → f ≡ Found font → font_to f file row w ≡ behind_font row (chosen.Font font) w
font-found f file font row w e = ap (λ f. font_to f file row w) e

pub font-missing : (f : FontFound) (file : List ℕ) (kind : Kind) (row : FontData → Whole → Executed) (w : Whole) → IsRefused f file (stop.Fault kind) → font_to f file row w ≡ behind_font row (chosen.Stops (Stopped kind)) w
font-missing f file kind row w e = ap (λ f. font_to f file row w) e.1 ∙ ap (λ k. behind_font row (chosen.Stops (Stopped k)) w) (sym e.0)

pub font-broken : (f : FontFound) (file : List ℕ) (fault : Fault) (row : FontData → Whole → Executed) (w : Whole) → IsRefused f file (stop.At fault) → font_to f file row w ≡ behind_font row (chosen.Stops (StoppedAt fault)) w
font-broken f file fault row w e =
    ap (λ f. font_to f file row w) e.2 ∙ (λ i. behind_font row (chosen.Stops (StoppedAt (record { kind = sym e.0 i; file = sym e.1 i; line = fault.line }))) w)

-- the font of a style and a size
abbrev pub font_by : (FontData → Whole → Executed) → FontKey → Whole → Executed
font_by row s w = looking (cells_by w.feed.world s) (font_to (found_by w.feed.world s) (file_by w.feed.world s) row w)

font-passes : {S : Type 0} (C : Ghosts S) (row : FontData → Whole → Executed) (s : FontKey) (c : Chosen) {g : List Group} {l : ℕ} {nn no : Nest} {new old : S} → Told C new old → nn ≡ record no { shelf = nn.shelf }
    → ((p : Setting) → C.agrees new p → (w : Whole) → font_to (found_by p.world s) (file_by p.world s) row w ≡ behind_font row c w)
    → ((p : Setting) → C.agrees new p → C.notes new ≡ option_map (noted_all (cells_by p.world s)) (C.notes old))
    → Passes C anywhere (font_by row s) (behind_font row c) new g l nn old g l no
font-passes C row s c {g} {l} {nn} {no} {new} {old} told same found notes =
    record {
      done =
          λ w p o h.
          ap (λ (e : Executed). e.done) (found p h (whole w p (C.meaning old p) g l no))
          ∙ ap (λ k. (behind_font row c (whole w p k g l no)).done) (sym (told.stays p h))
          ∙ ap (λ n. (behind_font row c (whole w p (C.meaning new p) g l n)).done) (sym same);
      notes =
          λ w p o h.
          let a = option_map (looked_all (cells_by p.world s)) (stacked_notes g (C.notes old)) in
          ap (λ (e : Executed). e.noted a) (found p h (whole w p (C.meaning old p) g l no))
          ∙ ap (λ k. (behind_font row c (whole w p k g l no)).noted a) (sym (told.stays p h))
          ∙ ap (λ n. (behind_font row c (whole w p (C.meaning new p) g l n)).noted a) (sym same)
          ∙ ap (λ b. (behind_font row c (whole w p (C.meaning new p) g l nn)).noted b) (sym (notes-looked-all g (cells_by p.world s) (C.notes old)) ∙ ap (stacked_notes g) (sym (notes p h)));
    }

abbrev pub number_key : FontKey
number_key = record { style = pos 0; size = pos 4 }

pub number-leads : {S E : Type 0} (C : Ghosts S) (row : FontData → Whole → Executed) (c : Chosen) {g : List Group} {l : ℕ} {nn no : Nest} {new old : S} → Told C new old → nn ≡ record no { shelf = nn.shelf }
    → ((p : Setting) → C.agrees new p → (w : Whole) → font_to (found_by p.world number_key) (file_by p.world number_key) row w ≡ behind_font row c w)
    → ((p : Setting) → C.agrees new p → C.notes new ≡ option_map (noted_all (cells_by p.world number_key)) (C.notes old))
    → ((p : Setting) → C.agrees new p → Keeps p (C.meaning new p) g nn)
    → Leads {E = E} C anywhere (in_number_font row) (behind_font row) (Ok c) new g l nn old g l no
number-leads C row c {g} {l} {nn} {no} told same found notes keeps =
    let by = font-passes C row number_key c {g = g} {l = l} {nn = nn} {no = no} told same found notes in
    record { narrows = told.narrows; passes = record { done = by.done; notes = by.notes }; keeps = keeps; left = same-left l; made = told.made; loan = told.loan }

present-passes : {S : Type 0} (C : Ghosts S) (row : FontData → Whole → Executed) (s : S) (g : List Group) (l : ℕ) (n : Nest) → Passes C anywhere (present row) (λ w. looking style_cells (font_by row (styled w) w)) s g l n s g l n
present-passes C row s g l n =
    record {
      done = λ w p o h. refl;
      notes =
          λ w p o h.
          let v : Whole = whole w p (C.meaning s p) g l n in
          ap (λ a. (font_to (found_by p.world (styled v)) (file_by p.world (styled v)) row v).noted a)
          (looked-append-of style_cells (cells_by p.world (styled v)) (stacked_notes g (C.notes s)));
    }

pub present-leads : {S E F : Type 0} (C : Ghosts S) (row : FontData → Whole → Executed) (s : FontKey) (c : Chosen) {g : List Group} {l : ℕ} {nn no : Nest} {new m old : S} → Looks {E = F} C g style_cells styled (Ok s) m old → Told C new m → nn ≡ record no { shelf = nn.shelf }
    → ((p : Setting) → C.agrees new p → (w : Whole) → font_to (found_by p.world s) (file_by p.world s) row w ≡ behind_font row c w)
    → ((p : Setting) → C.agrees new p → C.notes new ≡ option_map (noted_all (cells_by p.world s)) (C.notes m))
    → ((p : Setting) → C.agrees new p → Keeps p (C.meaning new p) g nn)
    → Leads {E = E} C anywhere (present row) (behind_font row) (Ok c) new g l nn old g l no
present-leads C row s c {g} {l} {nn} {no} {new} {m} {old} looks told same found notes keeps =
    record {
      narrows = λ p h. looks.narrows p (told.narrows p h);
      passes =
          passes-then (λ p h. looks.narrows p (told.narrows p h)) (present-passes C row old g l no)
          (passes-then told.narrows (look-passes (font_by row) s looks) (font-passes C row s c told same found notes));
      keeps = keeps;
      left = same-left l;
      made = told.made ∙ looks.made;
      loan = told.loan ∙ looks.loan;
    }
