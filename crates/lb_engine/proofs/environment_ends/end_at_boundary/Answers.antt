use Rattle.std.proofs.Common.{◌≡◌, ◌∙◌, ap, refl, sym}
use Rattle.lb_model.specs.Sources.{Item}
use Rattle.lb_model_engine.specs.Environments.{boundary_taken, end_checked}
use Rattle.lb_model_nest.specs.Wholes.{and_then}
use Rattle.lb_model_nest.specs.Words.{word_ended}
use Rattle.lb_expand.specs.declared.desk.Desk.{Desk}
use Rattle.lb_engine.proofs.EndLemmas.{behind-is, engine-then}
use Rattle.lb_engine.specs.Views.{whole}
use Rattle.lb_engine.specs.declared.engine.Engine.{Engine}
use Rattle.lb_engine.proofs.environment_ends.end_at_boundary.Goals as goal

pub returns : goal.returns
returns g c =
    let e = c.args.engine.now in
    let source = behind-is e.desk.source c.requires.bounded ∙ sym c.in_ok-drop_pending.ensures in
    record {
      goes =
          engine-then g.C.Cells (λ w. and_then (word_ended (boundary_taken w)) (end_checked c.args.name.now)) (λ w. and_then (word_ended w) (end_checked c.args.name.now)) c.end_bounded.result refl
          (λ p i. and_then (word_ended (whole p (g.C.Cells.meaning c.args.cells.now p) (record e { desk = record e.desk { source = source i } }))) (end_checked c.args.name.now))
          c.end_bounded.ensures.goes;
    }
