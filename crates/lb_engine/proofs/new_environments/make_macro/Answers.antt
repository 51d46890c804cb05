use Rattle.lb_model_engine.specs.NewNames.{environment_defined}
use Rattle.lb_engine.proofs.RowLemmas.{act-is}
use Rattle.lb_engine.proofs.new_environments.make_macro.Goals as goal

pub returns : goal.returns
returns g c = record { goes = act-is (λ m. environment_defined c.args.kind c.args.name.now m c.args.last) c.make_new.result c.in_ok-begins.ensures c.make_new.ensures.goes }
