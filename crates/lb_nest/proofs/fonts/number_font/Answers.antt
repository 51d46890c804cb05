use Rattle.std.proofs.Common.{refl, subst, sym}
use Rattle.std.proofs.Common.{◌≡◌}
use Rattle.std.specs.Option.{option_map}
use Rattle.lb_fonts.specs.Loads.{IfFault, IsRefused}
use Rattle.lb_fonts.specs.Shelves.{cells_by, file_by, found_by}
use Rattle.lb_fonts.specs.declared.shelf.FontKey.{FontKey}
use Rattle.lb_model.specs.Settings.{Setting, noted_all}
use Rattle.lb_model.specs.Stacked.{Standing}
use Rattle.lb_model_nest.specs.declared.turn.Went.TheVariants.{Stopped, StoppedAt}
use Rattle.lb_nest.specs.Views.{HasRight}
use Rattle.lb_nest.specs.declared.fonts.Chosen.TheVariants as chosen
use Rattle.lb_nest.proofs.FontLemmas.{font-broken, font-found, font-missing, number-leads, number_key}
use Rattle.lb_nest.proofs.fonts.number_font.Goals as goal

pub returns-in-Ok-clause-leads : goal.returns-in-Ok-clause-leads
unfolding HasRight
returns-in-Ok-clause-leads g c =
    λ row left.
    let e = c.in-Ok.ensures in
    let key : FontKey = number_key in
    number-leads g.C.Cells row (chosen.Font c.in-Ok.font) e.told refl
    (λ p h w. font-found (found_by p.world key) (file_by p.world key) c.in-Ok.font row w (e.font p h))
    (e.notes)
    (λ p h. record { standing = subst (Standing c.args.groups.now) (sym (e.told.stays p h)) (c.requires.keeps p (e.told.narrows p h)).standing; fonts = e.right p h })

pub returns-in-Err-Fault-clause-leads : goal.returns-in-Err-Fault-clause-leads
unfolding HasRight
returns-in-Err-Fault-clause-leads g c =
    λ row left.
    let e = c.in-Err-Fault.ensures in
    let key : FontKey = number_key in
    number-leads g.C.Cells row (chosen.Stops (Stopped c.in-Err-Fault.kind)) e.told refl
    (λ p h w. font-missing (found_by p.world key) (file_by p.world key) c.in-Err-Fault.kind row w (subst (IsRefused (found_by p.world key) (file_by p.world key)) c.in-Err-Fault.field-0-is (e.refused p h)))
    (subst (λ s. IfFault s ((p : Setting) → g.C.Cells.agrees c.choose.new.cells p → g.C.Cells.notes c.choose.new.cells ≡ option_map (noted_all (cells_by p.world key)) (g.C.Cells.notes c.args.cells.now))) c.in-Err-Fault.field-0-is e.notes_on_fault)
    (λ p h. record { standing = subst (Standing c.args.groups.now) (sym (e.told.stays p h)) (c.requires.keeps p (e.told.narrows p h)).standing; fonts = e.right p h })

pub returns-in-Err-At-clause-leads : goal.returns-in-Err-At-clause-leads
unfolding HasRight
returns-in-Err-At-clause-leads g c =
    λ row left.
    let e = c.in-Err-At.ensures in
    let key : FontKey = number_key in
    number-leads g.C.Cells row (chosen.Stops (StoppedAt c.in-Err-At.fault)) e.told refl
    (λ p h w. font-broken (found_by p.world key) (file_by p.world key) c.in-Err-At.fault row w (subst (IsRefused (found_by p.world key) (file_by p.world key)) c.in-Err-At.field-0-is (e.refused p h)))
    (subst (λ s. IfFault s ((p : Setting) → g.C.Cells.agrees c.choose.new.cells p → g.C.Cells.notes c.choose.new.cells ≡ option_map (noted_all (cells_by p.world key)) (g.C.Cells.notes c.args.cells.now))) c.in-Err-At.field-0-is e.notes_on_fault)
    (λ p h. record { standing = subst (Standing c.args.groups.now) (sym (e.told.stays p h)) (c.requires.keeps p (e.told.narrows p h)).standing; fonts = e.right p h })
