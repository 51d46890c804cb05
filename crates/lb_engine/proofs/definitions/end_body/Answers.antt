use Rattle.lb_engine.specs.Macros.{set_with}
use Rattle.lb_engine.proofs.RowLemmas.{act-is}
use Rattle.lb_engine.proofs.definitions.end_body.Goals as goal

pub returns : goal.returns
returns g c = record { goes = act-is (set_with c.args.manner.long c.args.manner.reach c.args.name.now c.args.tokens) c.set_macro.result c.in_ok-body.ensures c.set_macro.ensures.goes }
