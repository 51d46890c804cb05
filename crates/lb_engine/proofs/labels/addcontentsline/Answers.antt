use Rattle.std.proofs.Common.{refl}
use Rattle.lb_model_engine.specs.Counting.{addcontentsline, contents_node}
use Rattle.lb_model_nest.specs.Pages.{added}
use Rattle.lb_model_engine.specs.Reads.{argument, characters}
use Rattle.lb_model_nest.specs.declared.turn.Went.TheVariants.{On}
use Rattle.lb_model_nest.specs.Wholes.{executed}
use Rattle.lb_engine.specs.Reads.{behind_reading}
use Rattle.lb_engine.proofs.JoinLemmas.{read-failed}
use Rattle.lb_engine.proofs.RowLemmas.{read-ends, read-then}
use Rattle.lb_engine.proofs.labels.addcontentsline.Goals as goal

pub add_entry_to-requires : goal.add_entry_to-requires
add_entry_to-requires g c = record { holds = (c.in_ok-extension.ensures.leads (λ x v. executed On v)).keeps }

pub returns-in-Of : goal.returns-in-Of
unfolding addcontentsline
returns-in-Of g c = record { goes = read-then (behind_reading (λ extension v. characters (λ kind u. argument (λ title x. added (contents_node extension kind title) x) u) v)) c.add_entry_to.result c.in-Of.is (c.in_ok-extension.ensures.leads (λ extension v. characters (λ kind u. argument (λ title x. added (contents_node extension kind title) x) u) v)) c.add_entry_to.ensures.goes }

pub returns-in-Stops : goal.returns-in-Stops
unfolding addcontentsline
returns-in-Stops g c = record { goes = read-ends (behind_reading (λ extension v. characters (λ kind u. argument (λ title x. added (contents_node extension kind title) x) u) v)) executed c.in-Stops.went c.in-Stops.is refl (c.in_ok-extension.ensures.leads (λ extension v. characters (λ kind u. argument (λ title x. added (contents_node extension kind title) x) u) v)) }

pub returns-in_err-extension : goal.returns-in_err-extension
unfolding addcontentsline
returns-in_err-extension g c = record { goes = read-failed c.from_residual.result c.from_residual.ensures.0 (c.in_err-extension.ensures.leads (λ extension v. characters (λ kind u. argument (λ title x. added (contents_node extension kind title) x) u) v)) }
