use Rattle.std.proofs.Common.{ℕ, List, Bor, arith, length, map, ◌<◌, sym}
use Rattle.lb_model.specs.StartLists.{start_resets}
use Rattle.lb_cells.proofs.StartSteps.{row_of}
use Rattle.lb_cells.proofs.start.counters.reset.Goals as goal

pub returns : goal.returns
returns c =
    let within : c.args.place < length c.resets-rows.result.now = omega arith in
    row_of {X = Bor (List ℕ) × Bor (List (Bor (List ℕ)))} (λ row. (row.0.now, map (λ n. n.now) row.1.now)) c.resets-rows.result.now start_resets c.args.place _ (sym c.resets-rows.ensures.rows) within
