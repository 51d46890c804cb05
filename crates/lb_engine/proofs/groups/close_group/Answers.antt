use Rattle.std.proofs.Common.{refl, rules}
use Rattle.lb_nest.specs.Groups.{behind_group}
use Rattle.lb_engine.proofs.NestLemmas.{nest_leads}
use Rattle.lb_engine.proofs.RowLemmas.{read-ends, read-fails, read-then}
use Rattle.lb_engine.proofs.groups.close_group.Goals as goal

pub returns-in_err-toks : goal.returns-in_err-toks
returns-in_err-toks g c = record { goes = read-fails c.from_residual.result (search rules) (nest_leads _ (c.in_err-toks.ensures.leads c.args.engine.now.desk.left)) }

pub put_list-requires : goal.put_list-requires
put_list-requires g c = record { holds = (c.in_ok-toks.ensures.leads c.args.engine.now.desk.left).keeps }

pub returns-in-Later : goal.returns-in-Later
returns-in-Later g c = record { goes = read-then behind_group c.put_list.result c.in-Later.is (nest_leads _ (c.in_ok-toks.ensures.leads c.args.engine.now.desk.left)) c.put_list.ensures.goes }

pub returns-in-Stops : goal.returns-in-Stops
returns-in-Stops g c = record { goes = read-ends behind_group _ _ c.in-Stops.is refl (nest_leads _ (c.in_ok-toks.ensures.leads c.args.engine.now.desk.left)) }
