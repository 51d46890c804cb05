use Rattle.std.proofs.Common.{ℕ, ℤ, List, Bor, arith, length, ◌<◌, sym}
use Rattle.lb_model.specs.StartLists.{start_counters}
use Rattle.lb_cells.proofs.StartSteps.{row_of}
use Rattle.lb_cells.proofs.start.counters.counter.Goals as goal

pub returns : goal.returns
returns c =
    let within : c.args.place < length c.counters-rows.result.now = omega arith in
    row_of {X = Bor (List ℕ) × ℤ} (λ counter. (counter.0.now, counter.1)) c.counters-rows.result.now start_counters c.args.place _ (sym c.counters-rows.ensures.rows) within
