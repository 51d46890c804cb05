use Rattle.std.proofs.Common.{suc, take, drop, arith}
use Rattle.std.specs.List.{flat_map}
use Rattle.lb_run.specs.Writes.{entries_of}
use Rattle.lb_run.proofs.Journals.{flat_map_around, prefix_after, on_err}
use Rattle.lb_run.proofs.writes.perform_all.Goals as goal

pub returns-in_err-perform-clause-err : goal.returns-in_err-perform-clause-err
returns-in_err-perform-clause-err g c =
    let i = c.loop-write.write-index in
    let xs = c.args.writes.now in
    on_err c.from_residual.result (prefix_after _ _ _ (flat_map entries_of (take i xs)) (entries_of c.write-item.result) (flat_map entries_of (drop (suc i) xs)) _ (flat_map_around entries_of xs i c.write-item.result (omega arith) c.write-item.is) c.loop-write.invariant.done c.in_err-perform.ensures.err)
