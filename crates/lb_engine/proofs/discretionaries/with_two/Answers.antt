use Rattle.lb_base.specs.declared.token.Tok.{Tok}
use Rattle.lb_engine.proofs.RowLemmas.{read-ends, read-fails, read-then}
use Rattle.lb_engine.specs.Reads.{behind_reading}
use Rattle.lb_model_engine.specs.Material.{parts_begun}
use Rattle.lb_model_nest.specs.Wholes.{Executed, Whole, executed}
use Rattle.lb_model_nest.specs.declared.turn.Went.TheVariants.{On}
use Rattle.std.proofs.Common.{List, refl}
use Rattle.lb_engine.proofs.discretionaries.with_two.Goals as goal

-- what is done with it
abbrev to : List Tok → List Tok → List Tok → Whole → Executed
to first second third x = parts_begun first second third x

pub begin_parts-requires : goal.begin_parts-requires
begin_parts-requires g c = record { holds = (c.in_ok-third.ensures.leads (λ x. executed On)).keeps }

pub returns-in-Of : goal.returns-in-Of
returns-in-Of g c = record { goes = read-then (behind_reading (to c.args.first c.args.second)) c.begin_parts.result c.in-Of.is (c.in_ok-third.ensures.leads (to c.args.first c.args.second)) c.begin_parts.ensures.goes }

pub returns-in-Stops : goal.returns-in-Stops
returns-in-Stops g c = record { goes = read-ends (behind_reading (to c.args.first c.args.second)) executed c.in-Stops.went c.in-Stops.is refl (c.in_ok-third.ensures.leads (to c.args.first c.args.second)) }

pub returns-in_err-third : goal.returns-in_err-third
returns-in_err-third g c = record { goes = read-fails c.from_residual.result c.from_residual.ensures.0 (c.in_err-third.ensures.leads (to c.args.first c.args.second)) }
