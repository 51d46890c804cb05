use Rattle.lb_base.specs.declared.token.Tok.{Tok}
use Rattle.lb_engine.proofs.RowLemmas.{act-is, read-ends, read-fails, read-then}
use Rattle.lb_engine.specs.Reads.{behind_reading}
use Rattle.lb_model_engine.specs.Boxes.{box_of, box_wanted}
use Rattle.lb_model_nest.specs.Wholes.{Executed, Whole, executed}
use Rattle.lb_model_nest.specs.declared.nest.BoxContext.{BoxContext}
use Rattle.lb_model_nest.specs.declared.turn.Went.TheVariants.{On}
use Rattle.lb_values.specs.declared.meaning.Meaning.{Meaning}
use Rattle.std.proofs.Common.{refl, sym}
use Rattle.std.specs.Prelude.{Option}
use Rattle.lb_engine.proofs.wanted_boxes.want_box.Goals as goal

-- what is done with it
abbrev to : BoxContext → Tok → Option Meaning → Whole → Executed
to context tok m v = box_of m context v

pub bring-requires : goal.bring-requires
bring-requires g c = record { holds = (c.in_ok-_tok.ensures.leads (λ tok m. executed On)).keeps }

pub returns-in-Of : goal.returns-in-Of
unfolding box_wanted
returns-in-Of g c = record { goes = read-then (behind_reading (λ t. (to c.args.context) t.0 t.1)) c.bring.result c.in-Of.is (c.in_ok-_tok.ensures.leads (to c.args.context)) (act-is (λ (act : Whole → Executed). act) c.bring.result (λ i w. sym (c.wanted_by-wanted.ensures.wanted c.args.context w) i) c.bring.ensures.goes) }

pub returns-in-Stops : goal.returns-in-Stops
unfolding box_wanted
returns-in-Stops g c = record { goes = read-ends (behind_reading (λ t. (to c.args.context) t.0 t.1)) executed c.in-Stops.went c.in-Stops.is refl (c.in_ok-_tok.ensures.leads (to c.args.context)) }

pub returns-in_err-_tok : goal.returns-in_err-_tok
returns-in_err-_tok g c = record { goes = read-fails c.from_residual.result c.from_residual.ensures.0 (c.in_err-_tok.ensures.leads (to c.args.context)) }
