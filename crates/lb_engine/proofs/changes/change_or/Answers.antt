use Rattle.std.proofs.Common.{sym}
use Rattle.lb_base.specs.declared.fault.Kind.TheVariants.{BadCode}
use Rattle.lb_model_nest.specs.declared.turn.Went.TheVariants.{Stopped}
use Rattle.lb_model_nest.specs.Wholes.{change_or, executed}
use Rattle.lb_engine.proofs.JoinLemmas.{leads-done, leads-same}
use Rattle.lb_engine.proofs.changes.change_or.Goals as goal

pub returns-in-Some : goal.returns-in-Some
returns-in-Some g c = record { goes = leads-same (λ v. change_or BadCode c.args.reach c.args.cell.now v) (sym c.in-Some.is) c.change.ensures.goes }

pub returns-in-None : goal.returns-in-None
returns-in-None g c =
    record { goes = leads-same (λ v. change_or BadCode c.args.reach c.args.cell.now v) (sym c.in-None.is) (leads-done g.C.Cells executed (Stopped BadCode) c.requires.holds) }
