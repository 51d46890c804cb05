use Rattle.std.proofs.Common.{◌≡◌, ◌∙◌, ap, refl, sym, true}
use Rattle.lb_model_engine.specs.Environments.{boundary_taken, end_checked, over_at}
use Rattle.lb_model_nest.specs.Wholes.{Executed, Whole, and_then, executed}
use Rattle.lb_model_nest.specs.Words.{word_ended}
use Rattle.lb_engine.specs.Reads.{behind_reading}
use Rattle.lb_engine.specs.Views.{whole}
use Rattle.lb_engine.specs.declared.reading.Reading.TheVariants as reading
use Rattle.lb_engine.proofs.EndLemmas.{engine-then}
use Rattle.lb_engine.proofs.RowLemmas.{read-ends, read-fails}
use Rattle.lb_engine.proofs.environment_ends.at_boundary.Goals as goal

pub returns-in_ok-went-in-Some : goal.returns-in_ok-went-in-Some
returns-in_ok-went-in-Some g c =
    let name = c.in-Some.name in
    let went = c.in_ok-went-in-Some in
    record {
      leads =
          λ row.
          engine-then g.C.Cells (λ w. over_at true w.ending row w) (λ w. and_then (word_ended (boundary_taken w)) (end_checked name)) _ refl
          (λ p. ap (λ ending. over_at true ending row (whole p (g.C.Cells.meaning c.args.cells.now p) c.args.engine.now)) c.in-Some.ensures)
          (read-ends executed (behind_reading (λ done. row)) (reading.Stops went.went) refl refl went.ensures.goes);
    }
