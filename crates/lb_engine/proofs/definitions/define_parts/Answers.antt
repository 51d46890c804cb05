use Rattle.std.proofs.Common.{◌∙◌, ap, sym}
use Rattle.lb_base.specs.declared.fault.Kind.TheVariants.{TokenMisplaced}
use Rattle.lb_model_nest.specs.declared.turn.Went.TheVariants.{Stopped}
use Rattle.lb_model_nest.specs.Wholes.{executed}
use Rattle.lb_model_engine.specs.Definitions.{body_of, body_to}
use Rattle.lb_model.specs.Ranges.{parameters_among}
use Rattle.lb_engine.specs.Macros.{set_by}
use Rattle.lb_engine.proofs.RowLemmas.{act-is}
use Rattle.lb_engine.proofs.JoinLemmas.{leads-done, leads-same}
use Rattle.lb_engine.proofs.definitions.define_parts.Goals as goal

pub returns-in-Some : goal.returns-in-Some
returns-in-Some g c = record { goes = act-is (λ o. body_to o (set_by c.args.manner.long c.args.manner.reach c.args.name.now c.args.tokens c.args.brace)) c.end_body.result (sym c.in-Some.is ∙ c.in_ok-body.ensures ∙ ap (λ n. body_of n c.args.toks) (c.parameters_among-count.ensures.count ∙ ap parameters_among c.as_slice.ensures)) c.end_body.ensures.goes }

pub returns-in-None : goal.returns-in-None
returns-in-None g c = record { goes = leads-same (λ o. body_to o (set_by c.args.manner.long c.args.manner.reach c.args.name.now c.args.tokens c.args.brace)) (sym c.in-None.is ∙ c.in_ok-body.ensures ∙ ap (λ n. body_of n c.args.toks) (c.parameters_among-count.ensures.count ∙ ap parameters_among c.as_slice.ensures)) (leads-done g.C.Cells executed (Stopped TokenMisplaced) {s = c.args.cells.now} {e = c.args.engine.now} c.requires.holds) }
