use Rattle.std.proofs.Common.{refl}
use Rattle.lb_base.specs.declared.token.Tok.{Tok}
use Rattle.lb_model_engine.specs.Groups.{aftergroup}
use Rattle.lb_model_nest.specs.Groups.{kept_after}
use Rattle.lb_model_nest.specs.declared.turn.Went.TheVariants.{On}
use Rattle.lb_model_nest.specs.Wholes.{Executed, Whole, executed}
use Rattle.lb_engine.proofs.RowLemmas.{read-ends, read-fails, read-then}
use Rattle.lb_engine.specs.Reads.{behind_reading}
use Rattle.lb_engine.proofs.items.aftergroup.Goals as goal

-- what is done with it
abbrev to : Tok → Whole → Executed
to tok v = kept_after tok v

pub keep_after-requires : goal.keep_after-requires
keep_after-requires g c = record { holds = (c.in_ok-tok.ensures.leads (λ x. executed On)).keeps }

pub returns-in-Of : goal.returns-in-Of
unfolding aftergroup
returns-in-Of g c =
    record { goes = read-then (behind_reading to) c.keep_after.result c.in-Of.is (c.in_ok-tok.ensures.leads to) c.keep_after.ensures.goes }

pub returns-in-Stops : goal.returns-in-Stops
unfolding aftergroup
returns-in-Stops g c = record { goes = read-ends (behind_reading to) executed c.in-Stops.went c.in-Stops.is refl (c.in_ok-tok.ensures.leads to) }

pub returns-in_err-tok : goal.returns-in_err-tok
returns-in_err-tok g c = record { goes = read-fails c.from_residual.result c.from_residual.ensures.0 (c.in_err-tok.ensures.leads to) }
