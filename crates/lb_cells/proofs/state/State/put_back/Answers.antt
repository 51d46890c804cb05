use Rattle.std.proofs.Common.{◌∙◌, None, ap}
use Rattle.lb_values.specs.Kept.{mapped, undone}
use Rattle.lb_values.proofs.KeptLemmas.{mapped-undone}
use Rattle.lb_maps.specs.CellMap.{kept}
use Rattle.lb_cells.specs.StateCells.{cells_of, state_of, told_over}
use Rattle.lb_cells.proofs.state.State.put_back.Goals as goal

pub returns-clause-undone : goal.returns-clause-undone
returns-clause-undone c =
    let told = told_over (state_of c.self.inside.base) in
    ap (mapped told) (c.put_back.ensures None) ∙ mapped-undone told (kept None c.self.inside.over) ∙ ap (λ s. undone (cells_of s)) c.self.view_is
