use Rattle.std.proofs.Common.{◌≡◌, ◌+◌, ◌-◌, ◌≤◌, List, length, suc}
use Rattle.lb_base.specs.declared.token.Tok.{Tok}
use Rattle.lb_model.specs.Settings.{Setting}
use Rattle.lb_model_engine.specs.Texts.{text_rest, text_within}
use Rattle.lb_model_nest.specs.Wholes.{Executed, Whole}
use Rattle.lb_engine.specs.Leads.{Holds, Passes}
use Rattle.lb_engine.proofs.expanded_texts.text_rest.Given as goal

abbrev pub invariant-tokens : goal.invariant-tokens
invariant-tokens g l =
    record {
      level : l.level ≤ length l.toks;
      room : length l.toks ≤ 1000000;
      narrows : (p : Setting) → g.C.Cells.agrees l.cells p → g.C.Cells.agrees l.fn.cells p;
      steps : (p : Setting) → g.C.Cells.agrees l.cells p → l.engine.desk.left + l._turn ≤ l.fn.engine.desk.left;
      passes : (row : List Tok → Whole → Executed)
          → Passes g.C.Cells (text_rest row) (text_within (suc l.fn.engine.desk.left - l._turn) l.level l.toks row) l.cells l.engine l.fn.cells l.fn.engine;
      holds : Holds g.C.Cells l.cells l.engine;
      made : g.C.Cells.made l.cells ≡ g.C.Cells.made l.fn.cells;
      loan : g.C.Cells.loan l.cells ≡ g.C.Cells.loan l.fn.cells;
    }
