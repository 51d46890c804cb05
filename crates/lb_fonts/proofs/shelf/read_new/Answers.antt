use Rattle.std.proofs.Common.{◌≡◌, ◌∙◌, [], Option, Some, None, ap, sym, refl}
use Rattle.std.specs.Option.{option_map}
use Rattle.std.specs.Prelude.{unwrap_or, ℕ, ℤ, pos, List}
use Rattle.lb_values.specs.declared.cell.Cell.TheVariants.{Prefix, File}
use Rattle.lb_model.specs.FontTable.{font_file}
use Rattle.lb_model.specs.Kinds.{text_of}
use Rattle.lb_model.specs.Settings.{look, noted}
use Rattle.lb_model_paper.specs.FoundFonts.{font_found}
use Rattle.lb_fonts.specs.Shelves.{file_by, named_by, value_in}
use Rattle.lb_fonts.proofs.Noting.{noted-both}
use Rattle.lb_fonts.proofs.shelf.read_new.Goals as goal

none_of : {X : Type 0} (o : Option X) → ((x : X) → o ≡ Some x → ⊥) → o ≡ None
none_of None n = refl
none_of (Some x) n = absurd (n x refl)

pub returns-in_default-clause-refused : goal.returns-in_default-clause-refused
unfolding font_found
returns-in_default-clause-refused g c = λ p h.
    let w = p.world in
    let key = c.args.key.now in
    let tells = c.in_ok-bytes.ensures.tells in
    let name : named_by key ≡ (c.args.name.now.name, c.args.name.now.size) = ap (λ o. unwrap_or o ([], pos 0)) c.requires.named in
    let file : c.in_ok-clone.field-0 ≡ file_by w key =
    c.in_ok-clone.ensures.cases ∙ sym (c.in_ok-file.ensures.value p (tells.narrows p h)) ∙ ap (λ (n : List ℕ × ℤ). font_file w.prefix n.0) (sym name) in
    let none : text_of (value_in w (file_by w key)) ≡ None =
    ap (λ f. text_of (value_in w f)) (sym file) ∙ ap (λ cell. text_of (look w (g.C.Cells.meaning c.file_name.new.cells p).now cell)) (sym c.in_ok-clone-2.ensures.cases) ∙ tells.value p h ∙ none_of _ c.in_default.not-Some in
    (refl, ap (λ bytes. font_found bytes (named_by key).0 (named_by key).1) none)

pub returns-clause-notes : goal.returns-clause-notes
returns-clause-notes g c = λ p h.
    let w = p.world in
    let key = c.args.key.now in
    let tells = c.in_ok-bytes.ensures.tells in
    let name : named_by key ≡ (c.args.name.now.name, c.args.name.now.size) = ap (λ o. unwrap_or o ([], pos 0)) c.requires.named in
    let file : c.in_ok-clone.field-0 ≡ file_by w key =
    c.in_ok-clone.ensures.cases ∙ sym (c.in_ok-file.ensures.value p (tells.narrows p h)) ∙ ap (λ (n : List ℕ × ℤ). font_file w.prefix n.0) (sym name) in
    noted-both Prefix (File (file_by w key)) (g.C.Cells.notes c.args.cells.now) (g.C.Cells.notes c.file_name.new.cells) (g.C.Cells.notes c.text.new.cells)
    (tells.notes ∙ ap (λ cell. option_map (noted cell) (g.C.Cells.notes c.file_name.new.cells)) (c.in_ok-clone-2.ensures.cases ∙ ap File file))
    c.in_ok-file.ensures.notes
