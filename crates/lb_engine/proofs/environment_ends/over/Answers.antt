use Rattle.std.proofs.Common.{◌≡◌, ◌∙◌, false, refl, sym, true}
use Rattle.lb_model.specs.Sources.{Item}
use Rattle.lb_model_engine.specs.Environments.{is_bounded, over, over_at}
use Rattle.lb_model_nest.specs.Wholes.{Executed, Whole}
use Rattle.lb_engine.specs.Reads.{behind_reading}
use Rattle.lb_engine.specs.Views.{whole}
use Rattle.lb_engine.specs.declared.reading.Reading.TheVariants as reading
use Rattle.lb_engine.proofs.EndLemmas.{bounded-is, engine-then}
use Rattle.lb_engine.proofs.JoinLemmas.{leads-done}
use Rattle.lb_engine.proofs.environment_ends.over.Goals as goal

pub returns-then-branch : goal.returns-then-branch
unfolding over
returns-then-branch g c =
    let e = c.args.engine.now in
    let s = c.in_ok-is_bounded.ensures in
    let b : is_bounded e.desk.source ≡ true = bounded-is e.desk.source ∙ s.0 ∙ c.if-branch.true in
    let same : e.desk.source ≡ c.is_bounded.new.self = sym s.1 in
    record {
      leads =
          λ row.
          engine-then g.C.Cells (over row) (λ w. over_at true w.ending row w) c.at_boundary.result refl
          (λ p i. over_at (b i) e.ending row (whole p (g.C.Cells.meaning c.args.cells.now p) (record e { desk = record e.desk { source = same i } })))
          (c.at_boundary.ensures.leads row);
    }

pub returns : goal.returns
unfolding over
returns g c =
    let e = c.args.engine.now in
    let s = c.in_ok-is_bounded.ensures in
    let b : is_bounded e.desk.source ≡ false = bounded-is e.desk.source ∙ s.0 ∙ c.if-branch.false in
    let same : e.desk.source ≡ c.is_bounded.new.self = sym s.1 in
    record {
      leads =
          λ row.
          engine-then g.C.Cells (over row) row _ refl
          (λ p i. over_at (b i) e.ending row (whole p (g.C.Cells.meaning c.args.cells.now p) (record e { desk = record e.desk { source = same i } })))
          (leads-done g.C.Cells (behind_reading (λ done. row)) (reading.Of tt) c.requires.holds);
    }
