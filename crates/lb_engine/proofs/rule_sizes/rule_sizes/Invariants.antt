use Rattle.std.proofs.Common.{◌≡◌, suc}
use Rattle.lb_base.specs.declared.node.RuleSize.{RuleSize}
use Rattle.lb_model.specs.Settings.{Setting}
use Rattle.lb_model_engine.specs.Items.{rule_sizes, sizes_in}
use Rattle.lb_model_nest.specs.Wholes.{Executed, Whole}
use Rattle.lb_engine.specs.Leads.{Holds, Passes}
use Rattle.lb_engine.proofs.rule_sizes.rule_sizes.Given as goal

abbrev pub invariant-sizes : goal.invariant-sizes
invariant-sizes g l =
    record {
      narrows : (p : Setting) → g.C.Cells.agrees l.cells p → g.C.Cells.agrees l.fn.cells p;
      passes : (row : RuleSize → Whole → Executed) → Passes g.C.Cells (rule_sizes l.fn.size row) (sizes_in (suc l.turns) l.size row) l.cells l.engine l.fn.cells l.fn.engine;
      holds : Holds g.C.Cells l.cells l.engine;
      made : g.C.Cells.made l.cells ≡ g.C.Cells.made l.fn.cells;
      loan : g.C.Cells.loan l.cells ≡ g.C.Cells.loan l.fn.cells;
    }
