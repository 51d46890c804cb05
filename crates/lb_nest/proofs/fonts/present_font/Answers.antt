use Rattle.std.proofs.Common.{◌∙◌, refl, subst, sym}
use Rattle.std.proofs.Common.{◌≡◌}
use Rattle.std.specs.Option.{option_map}
use Rattle.lb_fonts.specs.Loads.{IfFault, IsRefused}
use Rattle.lb_fonts.specs.Shelves.{cells_by, file_by, found_by}
use Rattle.lb_fonts.specs.declared.shelf.FontKey.{FontKey}
use Rattle.lb_model.specs.Settings.{Setting, noted_all}
use Rattle.lb_model.specs.Stacked.{Standing}
use Rattle.lb_model_nest.specs.declared.turn.Went.TheVariants.{Stopped, StoppedAt}
use Rattle.lb_nest.specs.Views.{HasRight}
use Rattle.lb_nest.specs.declared.fonts.Chosen.TheVariants as chosen
use Rattle.lb_nest.proofs.FontLemmas.{font-broken, font-found, font-missing, present-leads}
use Rattle.lb_nest.proofs.fonts.present_font.Goals as goal

pub returns-in-Ok-clause-leads : goal.returns-in-Ok-clause-leads
unfolding HasRight
returns-in-Ok-clause-leads g c =
    λ row left.
    let e = c.in-Ok.ensures in
    let key : FontKey = c.in_ok-key.key in
    present-leads g.C.Cells row key (chosen.Font c.in-Ok.font) c.in_ok-key.ensures.looks e.told refl
    (λ p h w. font-found (found_by p.world key) (file_by p.world key) c.in-Ok.font row w (e.font p h))
    (e.notes)
    (λ p h. record { standing = subst (Standing c.args.groups.now) (sym (e.told.stays p h ∙ c.in_ok-key.ensures.looks.stays p (e.told.narrows p h))) (c.requires.keeps p (c.in_ok-key.ensures.looks.narrows p (e.told.narrows p h))).standing; fonts = e.right p h })

pub returns-in-Err-Fault-clause-leads : goal.returns-in-Err-Fault-clause-leads
unfolding HasRight
returns-in-Err-Fault-clause-leads g c =
    λ row left.
    let e = c.in-Err-Fault.ensures in
    let key : FontKey = c.in_ok-key.key in
    present-leads g.C.Cells row key (chosen.Stops (Stopped c.in-Err-Fault.kind)) c.in_ok-key.ensures.looks e.told refl
    (λ p h w. font-missing (found_by p.world key) (file_by p.world key) c.in-Err-Fault.kind row w (subst (IsRefused (found_by p.world key) (file_by p.world key)) c.in-Err-Fault.field-0-is (e.refused p h)))
    (subst (λ s. IfFault s ((p : Setting) → g.C.Cells.agrees c.choose.new.cells p → g.C.Cells.notes c.choose.new.cells ≡ option_map (noted_all (cells_by p.world key)) (g.C.Cells.notes c.style_and_size.new.cells))) c.in-Err-Fault.field-0-is e.notes_on_fault)
    (λ p h. record { standing = subst (Standing c.args.groups.now) (sym (e.told.stays p h ∙ c.in_ok-key.ensures.looks.stays p (e.told.narrows p h))) (c.requires.keeps p (c.in_ok-key.ensures.looks.narrows p (e.told.narrows p h))).standing; fonts = e.right p h })

pub returns-in-Err-At-clause-leads : goal.returns-in-Err-At-clause-leads
unfolding HasRight
returns-in-Err-At-clause-leads g c =
    λ row left.
    let e = c.in-Err-At.ensures in
    let key : FontKey = c.in_ok-key.key in
    present-leads g.C.Cells row key (chosen.Stops (StoppedAt c.in-Err-At.fault)) c.in_ok-key.ensures.looks e.told refl
    (λ p h w. font-broken (found_by p.world key) (file_by p.world key) c.in-Err-At.fault row w (subst (IsRefused (found_by p.world key) (file_by p.world key)) c.in-Err-At.field-0-is (e.refused p h)))
    (subst (λ s. IfFault s ((p : Setting) → g.C.Cells.agrees c.choose.new.cells p → g.C.Cells.notes c.choose.new.cells ≡ option_map (noted_all (cells_by p.world key)) (g.C.Cells.notes c.style_and_size.new.cells))) c.in-Err-At.field-0-is e.notes_on_fault)
    (λ p h. record { standing = subst (Standing c.args.groups.now) (sym (e.told.stays p h ∙ c.in_ok-key.ensures.looks.stays p (e.told.narrows p h))) (c.requires.keeps p (c.in_ok-key.ensures.looks.narrows p (e.told.narrows p h))).standing; fonts = e.right p h })
