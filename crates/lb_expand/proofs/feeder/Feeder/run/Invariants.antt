use Rattle.std.proofs.Common.{◌≡◌, ◌+◌, ◌≤◌, ◌^◌, ℕ}
use Rattle.lb_model.specs.Settings.{Setting}
use Rattle.lb_expand.specs.Performs.{Passes}
use Rattle.lb_expand.specs.Turns.{ran_from}
use Rattle.lb_expand.proofs.feeder.Feeder.run.Given as goal

abbrev pub invariant-steps : goal.invariant-steps
invariant-steps g l =
    record {
      narrows : (p : Setting) → g.C.Cells.agrees l.self.cells.now p → g.C.Cells.agrees l.fn.self.cells.now p;
      turns : (all : ℕ) → 2 ^ 64 ≤ all → (n : ℕ) × (l._turn + n ≡ all) × Passes g.C.Cells (ran_from all) (ran_from n) l.self.cells.now l.self.desk.now l.fn.self.cells.now l.fn.self.desk.now;
      made : g.C.Cells.made l.self.cells.now ≡ g.C.Cells.made l.fn.self.cells.now;
      loan : g.C.Cells.loan l.self.cells.now ≡ g.C.Cells.loan l.fn.self.cells.now;
      same_cells : l.self.cells.ghost_name ≡ l.fn.self.cells.ghost_name;
      same_desk : l.self.desk.ghost_name ≡ l.fn.self.desk.ghost_name;
    }
