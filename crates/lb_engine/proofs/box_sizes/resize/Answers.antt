use Rattle.lb_engine.proofs.RowLemmas.{act-is}
use Rattle.lb_model_nest.specs.Wholes.{change}
use Rattle.std.proofs.Common.{refl}
use Rattle.lb_values.specs.declared.cell.Cell.TheVariants as cell
use Rattle.lb_values.specs.declared.value.Value.TheVariants as value
use Rattle.lb_engine.proofs.box_sizes.resize.Goals as goal

pub change-requires : goal.change-requires
change-requires g c = record { settable = refl; fits = λ p h s. refl; holds = c.requires.holds }

pub returns : goal.returns
returns g c = record { goes = act-is (λ b. change c.args.reach (cell.Boxed c.args.number) (value.Boxed b)) c.change.result c.in_ok-new.ensures c.change.ensures.goes }
