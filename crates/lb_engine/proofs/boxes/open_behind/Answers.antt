use Rattle.lb_base.specs.declared.token.Tok.{Tok}
use Rattle.lb_engine.proofs.RowLemmas.{act-is, read-ends, read-fails, read-then}
use Rattle.lb_engine.specs.Reads.{behind_reading}
use Rattle.lb_model_engine.specs.Boxes.{opened_by}
use Rattle.lb_model_nest.specs.Wholes.{Executed, Whole, executed}
use Rattle.lb_model_nest.specs.declared.nest.ListKind.{ListKind}
use Rattle.lb_model_nest.specs.declared.turn.Went.TheVariants.{On}
use Rattle.lb_values.specs.declared.meaning.Meaning.{Meaning}
use Rattle.std.proofs.Common.{refl, sym}
use Rattle.std.specs.Prelude.{Option}
use Rattle.lb_engine.proofs.boxes.open_behind.Goals as goal

-- what is done with it
abbrev to : ListKind → Tok → Option Meaning → Whole → Executed
to kind tok m v = opened_by m kind v

pub open_if-requires : goal.open_if-requires
open_if-requires g c = record { holds = (c.in_ok-_tok.ensures.leads (λ tok m. executed On)).keeps }

pub returns-in-Of : goal.returns-in-Of
returns-in-Of g c = record { goes = read-then (behind_reading (λ t. (to c.args.kind) t.0 t.1)) c.open_if.result c.in-Of.is (c.in_ok-_tok.ensures.leads (to c.args.kind)) (act-is (λ (act : Whole → Executed). act) c.open_if.result (λ i w. sym (c.opens_list-opens.ensures.opens c.args.kind w) i) c.open_if.ensures.goes) }

pub returns-in-Stops : goal.returns-in-Stops
returns-in-Stops g c = record { goes = read-ends (behind_reading (λ t. (to c.args.kind) t.0 t.1)) executed c.in-Stops.went c.in-Stops.is refl (c.in_ok-_tok.ensures.leads (to c.args.kind)) }

pub returns-in_err-_tok : goal.returns-in_err-_tok
returns-in_err-_tok g c = record { goes = read-fails c.from_residual.result c.from_residual.ensures.0 (c.in_err-_tok.ensures.leads (to c.args.kind)) }
