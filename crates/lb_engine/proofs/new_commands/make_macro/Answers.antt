use Rattle.std.proofs.Common.{ap}
use Rattle.lb_values.specs.declared.reach.Reach.TheVariants.{Local}
use Rattle.lb_model_engine.specs.Definitions.{macro_value}
use Rattle.lb_model_engine.specs.NewNames.{newly_named}
use Rattle.lb_model_nest.specs.Wholes.{change}
use Rattle.lb_engine.proofs.RowLemmas.{act-is}
use Rattle.lb_engine.proofs.new_commands.make_macro.Goals as goal

pub returns : goal.returns
returns g c = record { goes = act-is (λ m. newly_named c.args.kind c.args.name.now (change Local c.args.name.now (macro_value m))) c.define_new.result c.in_ok-definition.ensures c.define_new.ensures.goes }
