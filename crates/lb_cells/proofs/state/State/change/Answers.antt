use Rattle.std.proofs.Common.{◌∙◌, Some, None, ap}
use Rattle.lb_values.specs.Kept.{changed, mapped}
use Rattle.lb_values.proofs.KeptLemmas.{mapped-changed}
use Rattle.lb_maps.specs.CellMap.{kept}
use Rattle.lb_cells.specs.StateCells.{cells_of, state_of, told_over}
use Rattle.lb_cells.proofs.state.State.change.Goals as goal

pub returns-clause-ok : goal.returns-clause-ok
returns-clause-ok c =
    let told = told_over (state_of c.self.inside.base) in
    ap (mapped told) (c.in_ok-change.ensures.ok None)
    ∙ mapped-changed told c.args.reach c.args.cell.now (Some c.args.value) (kept None c.self.inside.over)
    ∙ ap (λ s. changed c.args.reach c.args.cell.now c.args.value (cells_of s)) c.self.view_is
