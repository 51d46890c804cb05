use Rattle.lb_model_nest.specs.Wholes.{put}
use Rattle.lb_engine.proofs.RowLemmas.{act-is}
use Rattle.lb_engine.proofs.copied_meanings.put_pair.Goals as goal

pub returns : goal.returns
returns g c = record { goes = act-is (λ toks. put toks) c.put_list.result c.in_ok-toks.ensures c.put_list.ensures.goes }
