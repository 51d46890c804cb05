use Rattle.std.proofs.Common.{◌≡◌, ◌+◌, ◌-◌, ◌≤◌, suc}
use Rattle.std.specs.Prelude.{Option}
use Rattle.lb_base.specs.declared.token.Tok.{Tok}
use Rattle.lb_values.specs.declared.meaning.Meaning.{Meaning}
use Rattle.lb_model.specs.Settings.{Setting}
use Rattle.lb_model_engine.specs.Reads.{past_spaces_in, past_spaces_or}
use Rattle.lb_model_nest.specs.Wholes.{Executed, Whole}
use Rattle.lb_engine.specs.Leads.{Holds, Passes}
use Rattle.lb_engine.proofs.spaces.past_spaces_or_end.Given as goal

abbrev pub invariant-tokens : goal.invariant-tokens
invariant-tokens g l =
    record {
      narrows : (p : Setting) → g.C.Cells.agrees l.cells p → g.C.Cells.agrees l.fn.cells p;
      steps : (p : Setting) → g.C.Cells.agrees l.cells p → l.engine.desk.left + l._turn ≤ l.fn.engine.desk.left;
      passes : (at_end : Whole → Executed) (row : Tok → Option Meaning → Whole → Executed)
          → Passes g.C.Cells (past_spaces_or at_end row) (past_spaces_in (suc l.fn.engine.desk.left - l._turn) at_end row) l.cells l.engine l.fn.cells l.fn.engine;
      holds : Holds g.C.Cells l.cells l.engine;
      made : g.C.Cells.made l.cells ≡ g.C.Cells.made l.fn.cells;
      loan : g.C.Cells.loan l.cells ≡ g.C.Cells.loan l.fn.cells;
    }
