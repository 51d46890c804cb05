use Rattle.std.proofs.Common.{refl}
use Rattle.lb_model.specs.HeldNumbers.{held_of}
use Rattle.lb_values.specs.Cells.{cell_eq}
use Rattle.lb_model_engine.proofs.rows.ends_and_beginnings.Goals as goal

pub returns-clause-page : goal.returns-clause-page
unfolding held_of cell_eq
returns-clause-page c = refl
