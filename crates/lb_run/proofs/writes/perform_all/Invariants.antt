use Rattle.std.proofs.Common.{◌≤◌, take}
use Rattle.std.specs.List.{flat_map}
use Rattle.lb_model.specs.Journal.{Adds}
use Rattle.lb_run.specs.Writes.{entries_of}
use Rattle.lb_run.proofs.writes.perform_all.Given as goal

abbrev pub invariant-loop-write : goal.invariant-loop-write
invariant-loop-write g l =
    record {
      done : Adds (g.O.Outlet.journal l.fn.outlet) (g.O.Outlet.journal l.outlet) (flat_map entries_of (take l.write-index l.writes));
      later : g.O.Outlet.faults l.fn.outlet ≤ g.O.Outlet.faults l.outlet;
    }
