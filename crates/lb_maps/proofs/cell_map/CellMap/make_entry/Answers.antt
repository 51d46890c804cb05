use Rattle.std.proofs.Common.{ap, sym}
use Rattle.std.specs.Prelude.{is_some}
use Rattle.lb_maps.proofs.Saved.{held_now-blank, at-put}
use Rattle.lb_maps.proofs.cell_map.CellMap.make_entry.Goals as goal

pub returns-in_ok-insert-clause-same : goal.returns-in_ok-insert-clause-same
returns-in_ok-insert-clause-same g c =
    held_now-blank c.args.self.now c.insert.new.self c.in_ok-entry.entry c.args.cell.now c.args.blank c.in_ok-entry.ensures.cases (sym c.in-None.ensures) c.in_ok-insert.ensures.after

pub returns-in_ok-insert-clause-there : goal.returns-in_ok-insert-clause-there
returns-in_ok-insert-clause-there g c =
    ap is_some (at-put c.args.self.now c.insert.new.self c.in_ok-entry.entry c.args.cell.now c.args.blank c.in_ok-entry.ensures.cases c.in_ok-insert.ensures.after)
