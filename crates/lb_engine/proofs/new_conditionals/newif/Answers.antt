use Rattle.std.proofs.Common.{refl}
use Rattle.lb_model_engine.specs.NewNames.{behind_if, new_conditional, newif, word_of}
use Rattle.lb_model_nest.specs.declared.turn.Went.TheVariants.{On}
use Rattle.lb_model_nest.specs.Wholes.{executed}
use Rattle.lb_engine.specs.Reads.{behind_reading}
use Rattle.lb_engine.proofs.JoinLemmas.{read-failed}
use Rattle.lb_engine.proofs.RowLemmas.{read-ends, read-then}
use Rattle.lb_engine.proofs.new_conditionals.newif.Goals as goal

pub make-requires : goal.make-requires
make-requires g c = record { holds = (c.in_ok-name.ensures.leads (λ x v. executed On v)).keeps }

pub returns-in-Of : goal.returns-in-Of
unfolding newif
returns-in-Of g c = record { goes = read-then (behind_reading (λ name v. new_conditional (word_of name) (behind_if (word_of name)) v)) c.make.result c.in-Of.is (c.in_ok-name.ensures.leads (λ name v. new_conditional (word_of name) (behind_if (word_of name)) v)) c.make.ensures.goes }

pub returns-in-Stops : goal.returns-in-Stops
unfolding newif
returns-in-Stops g c = record { goes = read-ends (behind_reading (λ name v. new_conditional (word_of name) (behind_if (word_of name)) v)) executed c.in-Stops.went c.in-Stops.is refl (c.in_ok-name.ensures.leads (λ name v. new_conditional (word_of name) (behind_if (word_of name)) v)) }

pub returns-in_err-name : goal.returns-in_err-name
unfolding newif
returns-in_err-name g c = record { goes = read-failed c.from_residual.result c.from_residual.ensures.0 (c.in_err-name.ensures.leads (λ name v. new_conditional (word_of name) (behind_if (word_of name)) v)) }
