use Rattle.std.proofs.Common.{◌∙◌}
use Rattle.std.proofs.lemmas.Result.{IfOk-weaker}
use Rattle.lb_cells.proofs.StartMeaning.{starts}
use Rattle.lb_cells.proofs.state.State.start.Goals as goal

pub returns-clause-state : goal.returns-clause-state
returns-clause-state c = IfOk-weaker c.from_map.result _ _ (λ s e. e ∙ starts c.in_ok-entries.entries c.in_ok-entries.ensures) c.from_map.ensures.state
