use Rattle.std.proofs.Common.{◌-◌, take, ap, ◌∙◌, arith}
use Rattle.lb_model_paper.specs.Breaks.{sums_of}
use Rattle.lb_model_paper.specs.Nodes.{shown}
use Rattle.lb_model_paper.specs.declared.paragraph.LineSums.{LineSums}
use Rattle.lb_measure.specs.Amounts.{added}
use Rattle.lb_measure.proofs.LineSums.{line_sums, place_here}
use Rattle.lb_measure.proofs.Sums.{AreNear-more}
use Rattle.lb_measure.proofs.measured.Measured.sums.Goals as goal

pub less-between-requires-clause-a : goal.less-between-requires-clause-a
less-between-requires-clause-a c =
    let place = place_here c.args.self.now (c.args.j - 1) c.index-3.result.now c.requires.measured (omega (arith, c.requires.j)) c.index-3.ensures in
    AreNear-more 65536 1048576 c.index-3.result.now.sums (omega arith) place.near

pub less-between-requires-clause-b : goal.less-between-requires-clause-b
less-between-requires-clause-b c =
    let place = place_here c.args.self.now c.skipped-skipped.result c.index-4.result.now c.requires.measured (omega (arith, c.requires.j, c.skipped-skipped.ensures.within)) c.index-4.ensures in
    AreNear-more 65536 1048576 c.index-4.result.now.sums (omega arith) place.near

pub added-requires-clause-a : goal.added-requires-clause-a
added-requires-clause-a c =
    let place = place_here c.args.self.now c.args.i c.index.result.now c.requires.measured (omega (arith, c.requires.i, c.requires.j)) c.index.ensures in
    AreNear-more 65536 1048576 c.index.result.now.post (omega arith) place.near_post

pub added-requires-clause-b : goal.added-requires-clause-b
added-requires-clause-b c =
    let before = place_here c.args.self.now (c.args.j - 1) c.index-3.result.now c.requires.measured (omega (arith, c.requires.j)) c.index-3.ensures in
    let skipped = place_here c.args.self.now c.skipped-skipped.result c.index-4.result.now c.requires.measured (omega (arith, c.requires.j, c.skipped-skipped.ensures.within)) c.index-4.ensures in
    AreNear-more 131072 1048576 c.less-between.result (omega arith) (c.less-between.ensures.near 65536 65536 before.near skipped.near)

pub added-inner-requires-clause-a : goal.added-inner-requires-clause-a
added-inner-requires-clause-a c =
    let from = place_here c.args.self.now c.args.i c.index.result.now c.requires.measured (omega (arith, c.requires.i, c.requires.j)) c.index.ensures in
    let before = place_here c.args.self.now (c.args.j - 1) c.index-3.result.now c.requires.measured (omega (arith, c.requires.j)) c.index-3.ensures in
    let skipped = place_here c.args.self.now c.skipped-skipped.result c.index-4.result.now c.requires.measured (omega (arith, c.requires.j, c.skipped-skipped.ensures.within)) c.index-4.ensures in
    AreNear-more 196608 1048576 c.added.result (omega arith) (c.added.ensures.near 65536 131072 from.near_post (c.less-between.ensures.near 65536 65536 before.near skipped.near))

pub added-inner-requires-clause-b : goal.added-inner-requires-clause-b
added-inner-requires-clause-b c =
    let to = place_here c.args.self.now c.args.j c.index-2.result.now c.requires.measured c.requires.j c.index-2.ensures in
    AreNear-more 65536 1048576 c.index-2.result.now.pre (omega arith) to.near_pre

pub added-requires-2 : goal.added-requires-2
added-requires-2 c =
    let from = place_here c.args.self.now c.args.i c.index.result.now c.requires.measured (omega (arith, c.requires.i, c.requires.j)) c.index.ensures in
    let to = place_here c.args.self.now c.args.j c.index-2.result.now c.requires.measured c.requires.j c.index-2.ensures in
    let before = place_here c.args.self.now (c.args.j - 1) c.index-3.result.now c.requires.measured (omega (arith, c.requires.j)) c.index-3.ensures in
    let skipped = place_here c.args.self.now c.skipped-skipped.result c.index-4.result.now c.requires.measured (omega (arith, c.requires.j, c.skipped-skipped.ensures.within)) c.index-4.ensures in
    record {
      a = AreNear-more 2 1048576 c.args.self.now.ends (omega arith) c.requires.measured.near;
      b = AreNear-more 262144 1048576 c.added-inner.result (omega arith) (c.added-inner.ensures.near 196608 65536 (c.added.ensures.near 65536 131072 from.near_post (c.less-between.ensures.near 65536 65536 before.near skipped.near)) to.near_pre);
    }

pub returns : goal.returns
returns c =
    let m = c.args.self.now in
    let from = place_here m c.args.i c.index.result.now c.requires.measured (omega (arith, c.requires.i, c.requires.j)) c.index.ensures in
    let to = place_here m c.args.j c.index-2.result.now c.requires.measured c.requires.j c.index-2.ensures in
    let before = place_here m (c.args.j - 1) c.index-3.result.now c.requires.measured (omega (arith, c.requires.j)) c.index-3.ensures in
    let skipped = place_here m c.skipped-skipped.result c.index-4.result.now c.requires.measured (omega (arith, c.requires.j, c.skipped-skipped.ensures.within)) c.index-4.ensures in
    record {
      value = c.added-2.ensures.value ∙ ap (λ (s : LineSums). added m.ends s) (c.added-inner.ensures.value ∙ ap (λ (s : LineSums). added s c.index-2.result.now.pre) (c.added.ensures.value ∙ ap (λ (s : LineSums). added c.index.result.now.post s) c.less-between.ensures.value))
          ∙ line_sums m.shape m.list.now c.args.i c.args.j m.ends c.index.result.now.post c.index-3.result.now.sums c.index-4.result.now.sums c.index-2.result.now.pre c.requires.i
          c.requires.measured.ends from.post before.sums (skipped.sums ∙ ap (λ n. sums_of (shown (take n m.list.now))) c.skipped-skipped.ensures.value) to.pre;
      near = AreNear-more 262146 1048576 c.added-2.result (omega arith) (c.added-2.ensures.near 2 262144 c.requires.measured.near (c.added-inner.ensures.near 196608 65536 (c.added.ensures.near 65536 131072 from.near_post (c.less-between.ensures.near 65536 65536 before.near skipped.near)) to.near_pre));
    }
