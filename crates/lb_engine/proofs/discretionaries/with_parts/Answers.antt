use Rattle.lb_base.specs.declared.token.Tok.{Tok}
use Rattle.lb_engine.proofs.RowLemmas.{read-ends, read-fails, read-then}
use Rattle.lb_engine.specs.Reads.{behind_reading}
use Rattle.lb_model_engine.specs.Material.{parts_begun}
use Rattle.lb_model_engine.specs.Reads.{argument}
use Rattle.lb_model_nest.specs.Wholes.{Executed, Whole, executed}
use Rattle.lb_model_nest.specs.declared.turn.Went.TheVariants.{On}
use Rattle.std.proofs.Common.{List, refl}
use Rattle.lb_engine.proofs.discretionaries.with_parts.Goals as goal

-- what is done with it
abbrev to : List Tok → Whole → Executed
to first v = argument (λ second u. argument (λ third x. parts_begun first second third x) u) v

pub with_one-requires : goal.with_one-requires
with_one-requires g c = record { holds = (c.in_ok-first.ensures.leads (λ x. executed On)).keeps }

pub returns-in-Of : goal.returns-in-Of
returns-in-Of g c = record { goes = read-then (behind_reading to) c.with_one.result c.in-Of.is (c.in_ok-first.ensures.leads to) c.with_one.ensures.goes }

pub returns-in-Stops : goal.returns-in-Stops
returns-in-Stops g c = record { goes = read-ends (behind_reading to) executed c.in-Stops.went c.in-Stops.is refl (c.in_ok-first.ensures.leads to) }

pub returns-in_err-first : goal.returns-in_err-first
returns-in_err-first g c = record { goes = read-fails c.from_residual.result c.from_residual.ensures.0 (c.in_err-first.ensures.leads to) }
