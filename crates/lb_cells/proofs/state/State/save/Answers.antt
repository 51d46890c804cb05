use Rattle.std.proofs.Common.{◌∙◌, ap}
use Rattle.std.proofs.lemmas.Result.{on_ok_weaker}
use Rattle.lb_values.specs.Kept.{mapped, saved}
use Rattle.lb_cells.specs.StateCells.{cells_of, state_of, told_over}
use Rattle.lb_cells.proofs.state.State.save.Goals as goal

pub returns-clause-ok : goal.returns-clause-ok
returns-clause-ok c =
    let told = told_over (state_of c.self.inside.base) in
    on_ok_weaker c.save.result (λ e. ap (mapped told) e ∙ ap (λ s. saved c.args.cell.now (cells_of s)) c.self.view_is) c.save.ensures.ok
