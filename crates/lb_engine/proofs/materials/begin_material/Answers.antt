use Rattle.lb_base.specs.declared.token.Tok.{Tok}
use Rattle.lb_engine.proofs.RowLemmas.{read-ends, read-fails, read-then}
use Rattle.lb_engine.specs.Reads.{behind_reading}
use Rattle.lb_model_engine.specs.Reads.{put_closed}
use Rattle.lb_model_nest.specs.Boxes.{list_opened}
use Rattle.lb_model_nest.specs.Wholes.{Executed, Whole, and_then, executed}
use Rattle.lb_model_nest.specs.declared.nest.ListKind.{ListKind}
use Rattle.lb_model_nest.specs.declared.turn.Went.TheVariants.{On}
use Rattle.std.proofs.Common.{List, refl}
use Rattle.lb_engine.proofs.materials.begin_material.Goals as goal

-- what is done with it
abbrev to : ListKind → List Tok → Whole → Executed
to kind toks v = and_then (put_closed toks v) (list_opened kind)

pub open_with-requires : goal.open_with-requires
open_with-requires g c = record { holds = (c.in_ok-toks.ensures.leads (λ x. executed On)).keeps }

pub returns-in-Of : goal.returns-in-Of
returns-in-Of g c = record { goes = read-then (behind_reading (to c.args.kind)) c.open_with.result c.in-Of.is (c.in_ok-toks.ensures.leads (to c.args.kind)) c.open_with.ensures.goes }

pub returns-in-Stops : goal.returns-in-Stops
returns-in-Stops g c = record { goes = read-ends (behind_reading (to c.args.kind)) executed c.in-Stops.went c.in-Stops.is refl (c.in_ok-toks.ensures.leads (to c.args.kind)) }

pub returns-in_err-toks : goal.returns-in_err-toks
returns-in_err-toks g c = record { goes = read-fails c.from_residual.result c.from_residual.ensures.0 (c.in_err-toks.ensures.leads (to c.args.kind)) }
