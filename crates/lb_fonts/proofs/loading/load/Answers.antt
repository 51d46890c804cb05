use Rattle.std.proofs.Common.{◌≡◌, ◌∙◌, ap, sym, refl, Option, Some, None, Result, Ok, Err, OnOk}
use Rattle.std.specs.Option.{option_map}
use Rattle.lb_model.specs.Kinds.{text_of}
use Rattle.lb_model.specs.Settings.{look, noted}
use Rattle.lb_values.specs.declared.cell.Cell.TheVariants.{Prefix, File}
use Rattle.lb_model_paper.specs.FoundFonts.{font_found}
use Rattle.lb_fonts.specs.Loads.{bytes_of, file_of}
use Rattle.lb_fonts.proofs.Noting.{noted-both}
use Rattle.lb_fonts.proofs.loading.load.Goals as goal

-- what holds, holds where there is no error
on_ok : {T E : Type 0} (r : Result T E) {P : Type 0} → P → OnOk r P
on_ok (Ok x) p = p
on_ok (Err e) p = tt

pub returns-clause-notes : goal.returns-clause-notes
returns-clause-notes g c = on_ok c.font_from.result (λ p h.
    let file : File c.in_ok-clone.field-0 ≡ File (file_of p.world (g.C.Cells.meaning c.args.cells.now p).now c.args.name.now)
    = ap File (c.in_ok-clone.ensures.cases ∙ sym (c.in_ok-file.ensures.value p (c.in_ok-bytes.ensures.tells.narrows p h))) in
    noted-both Prefix (File (file_of p.world (g.C.Cells.meaning c.args.cells.now p).now c.args.name.now))
    (g.C.Cells.notes c.args.cells.now) (g.C.Cells.notes c.file_name.new.cells) (g.C.Cells.notes c.text.new.cells)
    (c.in_ok-bytes.ensures.tells.notes ∙ ap (λ cell. option_map (noted cell) (g.C.Cells.notes c.file_name.new.cells)) file)
    c.in_ok-file.ensures.notes)

none_of : {X : Type 0} (o : Option X) → ((x : X) → o ≡ Some x → ⊥) → o ≡ None
none_of None n = refl
none_of (Some x) n = absurd (n x refl)

pub returns-in_default-clause-refused : goal.returns-in_default-clause-refused
unfolding font_found
returns-in_default-clause-refused g c = λ p h.
    let name = c.args.name.now in
    let old = g.C.Cells.meaning c.args.cells.now p in
    let narrows = c.in_ok-bytes.ensures.tells.narrows p h in
    let file : c.in_ok-clone.field-0 ≡ file_of p.world old.now name = c.in_ok-clone.ensures.cases ∙ sym (c.in_ok-file.ensures.value p narrows) in
    let none : bytes_of p.world old.now name ≡ None =
    ap (λ f. text_of (look p.world old.now (File f))) (sym file)
    ∙ ap (λ k. text_of (look p.world k.now (File c.in_ok-clone.field-0))) (sym (c.in_ok-file.ensures.told.stays p narrows))
    ∙ c.in_ok-bytes.ensures.tells.value p h
    ∙ none_of _ c.in_default.not-Some in
    (refl, ap (λ bytes. font_found bytes name.name name.size) none)
