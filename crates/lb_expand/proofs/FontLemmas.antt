-- Sizes of the present font.
use Rattle.std.proofs.Common.{◌≡◌, ◌∙◌, List, ap, refl, sym}
use Rattle.std.specs.Option.{option_map}
use Rattle.lb_model.specs.declared.cells.Cells.{Ghosts}
use Rattle.lb_model.specs.declared.open.Purpose.{Purpose}
use Rattle.lb_model.specs.Configs.{Config}
use Rattle.lb_model.specs.Quantities.{Internal}
use Rattle.lb_model.specs.Settings.{Setting, noted_all}
use Rattle.lb_model.specs.Stacked.{looked_all, stacked_notes}
use Rattle.lb_model.specs.Told.{Told}
use Rattle.lb_model_grammar.specs.declared.given.Given.{Given}
use Rattle.lb_model_grammar.specs.declared.given.ScanKind.{ScanKind}
use Rattle.lb_model_grammar.specs.declared.given.Want.{Want}
use Rattle.lb_model_paper.specs.FoundFonts.{Broken, FontFound, Found, Missing}
use Rattle.lb_model.specs.PresentFont.{font_file_now, looks_of_font}
use Rattle.lb_model_expansion.specs.Expansion.{font_size, present_font}
use Rattle.lb_model_expansion.specs.Steps.{Performed, looking}
use Rattle.lb_expand.specs.Measures.{measured, measured_as}
use Rattle.lb_expand.specs.Performs.{Passes}
use Rattle.lb_expand.specs.Views.{config}
use Rattle.lb_expand.specs.declared.desk.Desk.{Desk}
use Rattle.lb_expand.specs.declared.fonts.Measured.{Measured}
use Rattle.lb_expand.proofs.PassLemmas.{looked_from, standing-told}

pub told-then : {S : Type 0} {C : Ghosts S} {new mid old : S} → Told C mid old → Told C new mid → Told C new old
told-then first second =
    record {
      narrows = λ p h. first.narrows p (second.narrows p h);
      stays = λ p h. second.stays p h ∙ first.stays p (second.narrows p h);
      made = second.made ∙ first.made;
      loan = second.loan ∙ first.loan;
    }

font-measured : (found : FontFound) (want : Want) (k : ScanKind) (purpose : Purpose) (given : List Given) (more : Internal → Config → Performed) (c : Config)
    → font_size found want k purpose given more c ≡ measured_as (measured found (font_file_now c) want) k purpose given more c
font-measured (Found font) want k purpose given more c = refl
font-measured Missing want k purpose given more c = refl
font-measured (Broken word) want k purpose given more c = refl

-- the present font is asked for a size
pub measure-passes : {S : Type 0} (C : Ghosts S) (m : Measured) (want : Want) (k : ScanKind) (purpose : Purpose) (given : List Given) (more : Internal → Config → Performed) {new old : S} {desk : Desk} → Told C new old
    → ((p : Setting) → C.agrees new p → (d : Desk) → measured (present_font (config p.world (C.meaning old p) d)) (font_file_now (config p.world (C.meaning old p) d)) want ≡ m)
    → ((p : Setting) → C.agrees new p → (d : Desk) → C.notes new ≡ option_map (noted_all (looks_of_font (config p.world (C.meaning old p) d))) (C.notes old))
    → Passes C (λ c. looking (looks_of_font c) (font_size (present_font c) want k purpose given more c)) (measured_as m k purpose given more) new desk old desk
measure-passes C m want k purpose given more {new} {old} {desk} told size notes =
    record {
      done =
          λ p h.
          let c = config p.world (C.meaning old p) desk in
          ap (λ (q : Performed). q.done) (font-measured (present_font c) want k purpose given more c)
          ∙ ap (λ x. (measured_as x k purpose given more c).done) (size p h desk)
          ∙ ap (λ kept. (measured_as m k purpose given more (config p.world kept desk)).done) (sym (told.stays p h));
      notes =
          λ p h.
          let c = config p.world (C.meaning old p) desk in
          let n = option_map (looked_all (looks_of_font c)) (stacked_notes desk.groups (C.notes old)) in
          ap (λ (q : Performed). q.noted n) (font-measured (present_font c) want k purpose given more c)
          ∙ ap (λ x. (measured_as x k purpose given more c).noted n) (size p h desk)
          ∙ ap (λ kept. (measured_as m k purpose given more (config p.world kept desk)).noted n) (sym (told.stays p h))
          ∙ ap (λ after. (measured_as m k purpose given more (config p.world (C.meaning new p) desk)).noted after)
          (looked_from desk.groups desk.groups (looks_of_font c) (C.notes new) (C.notes old) refl (sym (notes p h desk)));
      standing = standing-told C new old desk.groups desk.groups told refl;
    }
