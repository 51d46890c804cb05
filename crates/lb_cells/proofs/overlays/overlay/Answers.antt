use Rattle.std.proofs.Common.{◌∙◌, None, ap}
use Rattle.lb_model.specs.Settings.{laid_over}
use Rattle.lb_maps.specs.CellMap.{held_now}
use Rattle.lb_maps.proofs.Saved.{on_err}
use Rattle.lb_cells.specs.StateCells.{state_of, told_over, told_state}
use Rattle.lb_cells.proofs.Overlaid.{laid-told}
use Rattle.lb_cells.proofs.overlays.overlay.Goals as goal

pub returns-in_err-make_entries-clause-err : goal.returns-in_err-make_entries-clause-err
returns-in_err-make_entries-clause-err c =
    on_err c.from_residual.result (ap (λ k cell. told_over (state_of c.state.inside.base) cell (k.now cell)) c.make_entries.ensures.same ∙ ap told_state c.state.view_is)

pub returns-clause-ok : goal.returns-clause-ok
returns-clause-ok c =
    let base = state_of c.state.inside.base in
    let writes = held_now None c.args.writes in
    ap (λ f cell. told_over base cell (f cell)) c.overwrite_all.ensures.now
    ∙ laid-told base writes (held_now None c.make_entries.new.self.entries)
    ∙ ap (laid_over writes) (ap (λ k cell. told_over base cell (k.now cell)) c.make_entries.ensures.same ∙ ap told_state c.state.view_is)
