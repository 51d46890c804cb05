use Rattle.std.proofs.Common.{sym}
use Rattle.lb_model_engine.specs.NewNames.{count_behind}
use Rattle.lb_engine.proofs.RowLemmas.{act-is}
use Rattle.lb_engine.proofs.new_macros.count_behind.Goals as goal

pub returns-in-Some : goal.returns-in-Some
returns-in-Some g c = record { leads = λ row. act-is (λ toks. count_behind toks row) c.count_in.result (sym c.in-Some.is) (c.count_in.ensures.leads row) }
