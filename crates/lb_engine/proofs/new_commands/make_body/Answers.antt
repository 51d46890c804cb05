use Rattle.std.proofs.Common.{◌∙◌, ap, sym}
use Rattle.lb_base.specs.declared.fault.Kind.TheVariants.{TokenMisplaced}
use Rattle.lb_model_engine.specs.Definitions.{body_of, body_to}
use Rattle.lb_model_engine.specs.NewNames.{command_defined}
use Rattle.lb_model_nest.specs.Wholes.{executed}
use Rattle.lb_model_nest.specs.declared.turn.Went.TheVariants.{Stopped}
use Rattle.lb_engine.proofs.RowLemmas.{act-is}
use Rattle.lb_engine.proofs.JoinLemmas.{leads-done, leads-same}
use Rattle.lb_engine.proofs.new_commands.make_body.Goals as goal

pub returns-in-Some : goal.returns-in-Some
returns-in-Some g c = record { goes = act-is (λ o. body_to o (λ body. command_defined c.args.kind c.args.long c.args.name.now c.args.parameters c.args.default body)) c.make_macro.result (sym c.in-Some.is ∙ c.in_ok-body.ensures ∙ ap (λ n. body_of n c.args.toks) c.from.ensures) c.make_macro.ensures.goes }

pub returns-in-None : goal.returns-in-None
returns-in-None g c = record { goes = leads-same (λ o. body_to o (λ body. command_defined c.args.kind c.args.long c.args.name.now c.args.parameters c.args.default body)) (sym c.in-None.is ∙ c.in_ok-body.ensures ∙ ap (λ n. body_of n c.args.toks) c.from.ensures) (leads-done g.C.Cells executed (Stopped TokenMisplaced) {s = c.args.cells.now} {e = c.args.engine.now} c.requires.holds) }
