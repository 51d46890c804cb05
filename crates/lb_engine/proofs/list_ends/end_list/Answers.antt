use Rattle.lb_engine.proofs.NestLemmas.{nest_leads_at}
use Rattle.lb_engine.proofs.RowLemmas.{read-ends, read-fails, read-then}
use Rattle.lb_nest.specs.Lists.{behind_list}
use Rattle.std.proofs.Common.{refl, rules}
use Rattle.lb_engine.proofs.list_ends.end_list.Goals as goal

pub returns-in_err-toks : goal.returns-in_err-toks
returns-in_err-toks g c = record { goes = read-fails c.from_residual.result (search rules) (nest_leads_at _ c.in_err-toks.ensures.leads) }

pub leave_list-requires : goal.leave_list-requires
leave_list-requires g c = record { holds = c.in_ok-toks.ensures.leads.keeps }

pub returns-in-Later : goal.returns-in-Later
returns-in-Later g c = record { goes = read-then behind_list c.leave_list.result c.in-Later.is (nest_leads_at _ c.in_ok-toks.ensures.leads) c.leave_list.ensures.goes }

pub returns-in-Ends : goal.returns-in-Ends
returns-in-Ends g c = record { goes = read-ends behind_list _ _ c.in-Ends.is refl (nest_leads_at _ c.in_ok-toks.ensures.leads) }
