use Rattle.lb_model_nest.specs.Pages.{added}
use Rattle.lb_engine.proofs.LeadsLemmas.{leads-read}
use Rattle.lb_engine.proofs.JoinLemmas.{read-failed}
use Rattle.lb_engine.proofs.labels.add_label.Goals as goal

pub add_node-requires : goal.add_node-requires
add_node-requires g c = record { holds = (c.in_ok-note.ensures.leads (λ node u. added node u)).keeps }

pub returns : goal.returns
returns g c = record { goes = leads-read (λ node u. added node u) c.in_ok-note.note c.add_node.result (c.in_ok-note.ensures.leads (λ node u. added node u)) c.add_node.ensures.goes }

pub returns-in_err-note : goal.returns-in_err-note
returns-in_err-note g c = record { goes = read-failed c.from_residual.result c.from_residual.ensures.0 (c.in_err-note.ensures.leads (λ node u. added node u)) }
