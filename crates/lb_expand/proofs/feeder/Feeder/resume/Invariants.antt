use Rattle.std.proofs.Common.{◌≡◌}
use Rattle.lb_model.specs.Settings.{Setting}
use Rattle.lb_model_expansion.specs.Expansion.{resume}
use Rattle.lb_expand.specs.Performs.{Passes}
use Rattle.lb_expand.proofs.feeder.Feeder.resume.Given as goal

abbrev pub invariant-readings : goal.invariant-readings
invariant-readings g l =
    record {
      narrows : (p : Setting) → g.C.Cells.agrees l.self.cells.now p → g.C.Cells.agrees l.fn.self.cells.now p;
      passes : Passes g.C.Cells (λ c. resume c.readings c) (λ c. resume c.readings c) l.self.cells.now l.self.desk.now l.fn.self.cells.now l.fn.self.desk.now;
      made : g.C.Cells.made l.self.cells.now ≡ g.C.Cells.made l.fn.self.cells.now;
      loan : g.C.Cells.loan l.self.cells.now ≡ g.C.Cells.loan l.fn.self.cells.now;
      same_cells : l.self.cells.ghost_name ≡ l.fn.self.cells.ghost_name;
      same_desk : l.self.desk.ghost_name ≡ l.fn.self.desk.ghost_name;
    }
