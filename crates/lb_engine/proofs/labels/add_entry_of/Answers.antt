use Rattle.std.proofs.Common.{refl}
use Rattle.lb_model_engine.specs.Counting.{contents_node}
use Rattle.lb_model_nest.specs.Pages.{added}
use Rattle.lb_model_nest.specs.declared.turn.Went.TheVariants.{On}
use Rattle.lb_model_nest.specs.Wholes.{executed}
use Rattle.lb_engine.specs.Reads.{behind_reading}
use Rattle.lb_engine.proofs.JoinLemmas.{read-failed}
use Rattle.lb_engine.proofs.RowLemmas.{read-ends, read-then}
use Rattle.lb_engine.proofs.labels.add_entry_of.Goals as goal

pub add_entry-requires : goal.add_entry-requires
add_entry-requires g c = record { holds = (c.in_ok-title.ensures.leads (λ x v. executed On v)).keeps }

pub returns-in-Of : goal.returns-in-Of
returns-in-Of g c = record { goes = read-then (behind_reading (λ title x. added (contents_node c.args.extension c.args.kind title) x)) c.add_entry.result c.in-Of.is (c.in_ok-title.ensures.leads (λ title x. added (contents_node c.args.extension c.args.kind title) x)) c.add_entry.ensures.goes }

pub returns-in-Stops : goal.returns-in-Stops
returns-in-Stops g c = record { goes = read-ends (behind_reading (λ title x. added (contents_node c.args.extension c.args.kind title) x)) executed c.in-Stops.went c.in-Stops.is refl (c.in_ok-title.ensures.leads (λ title x. added (contents_node c.args.extension c.args.kind title) x)) }

pub returns-in_err-title : goal.returns-in_err-title
returns-in_err-title g c = record { goes = read-failed c.from_residual.result c.from_residual.ensures.0 (c.in_err-title.ensures.leads (λ title x. added (contents_node c.args.extension c.args.kind title) x)) }
