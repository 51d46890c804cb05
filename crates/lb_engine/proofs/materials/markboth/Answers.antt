use Rattle.lb_base.specs.declared.token.Tok.{Tok}
use Rattle.lb_engine.proofs.RowLemmas.{read-ends, read-fails, read-then}
use Rattle.lb_engine.specs.Reads.{behind_reading}
use Rattle.lb_model_engine.specs.Material.{markboth}
use Rattle.lb_model_engine.specs.Reads.{argument, put_closed}
use Rattle.lb_model_nest.specs.Boxes.{mark_opened}
use Rattle.lb_model_nest.specs.Wholes.{Executed, Whole, and_then, executed}
use Rattle.lb_model_nest.specs.declared.turn.Went.TheVariants.{On}
use Rattle.std.proofs.Common.{List, false, refl}
use Rattle.lb_engine.proofs.materials.markboth.Goals as goal

-- what is done with it
abbrev to : List Tok → Whole → Executed
to left v = argument (λ right u. and_then (and_then (put_closed right u) (put_closed left)) (mark_opened false)) v

pub mark_with-requires : goal.mark_with-requires
mark_with-requires g c = record { holds = (c.in_ok-left.ensures.leads (λ x. executed On)).keeps }

pub returns-in-Of : goal.returns-in-Of
unfolding markboth
returns-in-Of g c = record { goes = read-then (behind_reading to) c.mark_with.result c.in-Of.is (c.in_ok-left.ensures.leads to) c.mark_with.ensures.goes }

pub returns-in-Stops : goal.returns-in-Stops
unfolding markboth
returns-in-Stops g c = record { goes = read-ends (behind_reading to) executed c.in-Stops.went c.in-Stops.is refl (c.in_ok-left.ensures.leads to) }

pub returns-in_err-left : goal.returns-in_err-left
returns-in_err-left g c = record { goes = read-fails c.from_residual.result c.from_residual.ensures.0 (c.in_err-left.ensures.leads to) }
