use Rattle.lb_model.specs.Kinds.{boxed_of}
use Rattle.lb_values.specs.declared.cell.Cell.TheVariants as cell
use Rattle.lb_engine.proofs.LookLemmas.{look-leads}
use Rattle.lb_engine.proofs.box_places.held.Goals as goal

pub returns : goal.returns
returns g c = record { leads = λ row. look-leads g.C.Cells (cell.Boxed c.args.number) boxed_of row c.boxed.result c.requires.holds c.boxed.ensures.tells }
