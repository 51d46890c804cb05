use Rattle.std.proofs.Common.{◌∙◌, ap, subst, sym, w32}
use Rattle.std.proofs.lemmas.Int.{to_z-of_z}
use Rattle.std.specs.Prelude.{◌<◌, IfSome}
use Rattle.lb_base.specs.declared.fault.Kind.TheVariants.{BadCode}
use Rattle.lb_model_engine.specs.NewNames.{count_of, count_to}
use Rattle.lb_engine.specs.NewMacros.{body_made}
use Rattle.lb_model_nest.specs.Wholes.{executed}
use Rattle.lb_model_nest.specs.declared.turn.Went.TheVariants.{Stopped}
use Rattle.lb_engine.proofs.RowLemmas.{act-is}
use Rattle.lb_engine.proofs.JoinLemmas.{leads-done, leads-same}
use Rattle.lb_engine.proofs.new_commands.make.Goals as goal

pub make_body-requires : goal.make_body-requires
make_body-requires g c = record { name = c.requires.name; few = subst (λ o. IfSome o (λ n. n < 10)) c.in-Some.is c.count_of.ensures.few; holds = c.requires.holds }

pub returns-in-Some : goal.returns-in-Some
returns-in-Some g c = record { goes = act-is (λ o. count_to o (λ n. body_made c.args.kind c.args.long c.args.name.now n c.args.default c.args.toks)) c.make_body.result (sym c.in-Some.is ∙ c.count_of.ensures.count ∙ ap (λ k. count_of k c.args.default) (to_z-of_z w32 c.args.count c.ranges.count)) c.make_body.ensures.goes }

pub returns-in-None : goal.returns-in-None
returns-in-None g c = record { goes = leads-same (λ o. count_to o (λ n. body_made c.args.kind c.args.long c.args.name.now n c.args.default c.args.toks)) (sym c.in-None.is ∙ c.count_of.ensures.count ∙ ap (λ k. count_of k c.args.default) (to_z-of_z w32 c.args.count c.ranges.count)) (leads-done g.C.Cells executed (Stopped BadCode) {s = c.args.cells.now} {e = c.args.engine.now} c.requires.holds) }
