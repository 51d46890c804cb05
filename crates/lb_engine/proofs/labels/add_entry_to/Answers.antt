use Rattle.std.proofs.Common.{refl}
use Rattle.lb_model_engine.specs.Counting.{contents_node}
use Rattle.lb_model_nest.specs.Pages.{added}
use Rattle.lb_model_engine.specs.Reads.{argument}
use Rattle.lb_model_nest.specs.declared.turn.Went.TheVariants.{On}
use Rattle.lb_model_nest.specs.Wholes.{executed}
use Rattle.lb_engine.specs.Reads.{behind_reading}
use Rattle.lb_engine.proofs.JoinLemmas.{read-failed}
use Rattle.lb_engine.proofs.RowLemmas.{read-ends, read-then}
use Rattle.lb_engine.proofs.labels.add_entry_to.Goals as goal

pub add_entry_of-requires : goal.add_entry_of-requires
add_entry_of-requires g c = record { holds = (c.in_ok-kind.ensures.leads (λ x v. executed On v)).keeps }

pub returns-in-Of : goal.returns-in-Of
returns-in-Of g c = record { goes = read-then (behind_reading (λ kind u. argument (λ title x. added (contents_node c.args.extension kind title) x) u)) c.add_entry_of.result c.in-Of.is (c.in_ok-kind.ensures.leads (λ kind u. argument (λ title x. added (contents_node c.args.extension kind title) x) u)) c.add_entry_of.ensures.goes }

pub returns-in-Stops : goal.returns-in-Stops
returns-in-Stops g c = record { goes = read-ends (behind_reading (λ kind u. argument (λ title x. added (contents_node c.args.extension kind title) x) u)) executed c.in-Stops.went c.in-Stops.is refl (c.in_ok-kind.ensures.leads (λ kind u. argument (λ title x. added (contents_node c.args.extension kind title) x) u)) }

pub returns-in_err-kind : goal.returns-in_err-kind
returns-in_err-kind g c = record { goes = read-failed c.from_residual.result c.from_residual.ensures.0 (c.in_err-kind.ensures.leads (λ kind u. argument (λ title x. added (contents_node c.args.extension kind title) x) u)) }
