use Rattle.std.proofs.Common.{Err}
use Rattle.lb_cond.proofs.Opened.{open_reads}
use Rattle.lb_cond.proofs.skipping.skip.Goals as goal

pub returns-in-Err-clause-reads : goal.returns-in-Err-clause-reads
returns-in-Err-clause-reads g c =
    open_reads g.F.Feed c.args.state.now (Err c.in-Err.stop) c.skip_to.new.feed c.args.feed.now c.count.result c.count.ensures c.if-count-eq0.false c.in-Err.ensures.reads
