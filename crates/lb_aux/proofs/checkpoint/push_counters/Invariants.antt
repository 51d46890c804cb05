use Rattle.std.proofs.Common.{◌≡◌, ◌++◌, map, take}
use Rattle.std.specs.Option.{option_map}
use Rattle.lb_values.specs.declared.cell.Cell.TheVariants.{Counter}
use Rattle.lb_model.specs.Settings.{Setting, noted_all}
use Rattle.lb_model.specs.Told.{Told}
use Rattle.lb_aux.specs.Texts.{counter_lines}
use Rattle.lb_aux.proofs.checkpoint.push_counters.Given as goal

abbrev pub invariant-loop-name : goal.invariant-loop-name
invariant-loop-name g l =
    let C = g.C.Cells in
    record {
      told : Told C l.cells l.fn.cells;
      text : (p : Setting) → C.agrees l.cells p → l.text ≡ l.fn.text ++ counter_lines p.world (C.meaning l.fn.cells p).now (take l.name-index l.names);
      notes : C.notes l.cells ≡ option_map (noted_all (map Counter (take l.name-index l.names))) (C.notes l.fn.cells);
    }
