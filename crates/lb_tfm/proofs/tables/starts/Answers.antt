use Rattle.std.proofs.Common.{◌≡◌, ◌<◌, arith, ap, ◌∙◌}
use Rattle.lb_model_paper.specs.FontFiles.{start_for}
use Rattle.lb_tfm.proofs.Searches.{codes-step, codes-end}
use Rattle.lb_tfm.proofs.tables.starts.Goals as goal
use Rattle.lb_tfm.proofs.tables.starts.Goals.{else-loop-code-test, then-loop-code-test+in_ok-push+else-code-lt255}

pub loop-code-preserved : goal.loop-code-preserved
loop-code-preserved c =
    let low : c.loop-code.code < 256 = omega arith in
    rw c.in_ok-push.ensures.items
    (codes-step (start_for c.args.bytes.now c.args.counts) c.loop-code.list.items c.start_for.result c.loop-code.code _ low c.start_for.ensures c.loop-code.invariant)

pub returns : goal.returns
returns c =
    elim c.loop-code-test.branch [
      | else-loop-code-test w ↦ absurd (omega arith)
      | then-loop-code-test+in_ok-push+else-code-lt255 w ↦
          let last : c.loop-code.code ≡ 255 = omega arith in
          rw (w.list-is, w.in_ok-push.ensures.items)
          (codes-end (start_for c.args.bytes.now c.args.counts) c.loop-code.list.items w.start_for.result _ (w.start_for.ensures ∙ ap (start_for c.args.bytes.now c.args.counts) last) (rw last at c.loop-code.invariant))
    ]
