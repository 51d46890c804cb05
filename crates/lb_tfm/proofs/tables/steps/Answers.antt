use Rattle.lb_model_paper.specs.FontFiles.{step_at}
use Rattle.lb_tfm.proofs.Searches.{table-step}
use Rattle.lb_tfm.proofs.tables.steps.Goals as goal

pub loop-word-preserved : goal.loop-word-preserved
loop-word-preserved c =
    rw c.in_ok-push.ensures.items
    (table-step (step_at c.args.bytes.now c.args.counts c.args.size) c.loop-word.list.items c.step_at.result c.loop-word.word c.first_kern-word-end.result _ c.loop-word-test.true c.step_at.ensures c.loop-word.invariant)
