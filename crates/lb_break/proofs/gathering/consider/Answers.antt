use Rattle.std.proofs.Common.{sym, ◌∙◌}
use Rattle.std.proofs.lemmas.Result.{on_ok_weaker}
use Rattle.lb_measure.specs.Measures.{paragraph_in}
use Rattle.lb_break.proofs.Gathered.{gathered-put, gathered-skip}
use Rattle.lb_break.proofs.Stops.{extended-closed, not-true}
use Rattle.lb_break.proofs.gathering.consider.Goals as goal

pub returns-then-not-live-index : goal.returns-then-not-live-index
returns-then-not-live-index c = gathered-skip (paragraph_in c.args.measured.now) c.args.points.now c.args.j c.args.index c.args.fresh.now.items
    (extended-closed (paragraph_in c.args.measured.now) c.args.points.now c.args.j c.args.index (not-true _ (sym c.if-not-live-index.true ∙ c.requires.live))) c.requires.fresh

pub returns : goal.returns
returns c = on_ok_weaker c.put.result (λ t. gathered-put (paragraph_in c.args.measured.now) c.args.points.now c.args.j c.args.index c.args.fresh.now.items c.put.new.fresh.items c.in-Some.point c.in-Some.ensures.value c.in-Some.ensures.small c.requires.fresh t) c.put.ensures
