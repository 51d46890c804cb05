use Rattle.std.proofs.Common.{◌≡◌, ◌≤◌, take}
use Rattle.lb_files.proofs.Loaded.{Listed, Loaded}
use Rattle.lb_files.proofs.loading.read_files.Given as goal

abbrev pub invariant-loop-name : goal.invariant-loop-name
invariant-loop-name g l = record {
  same : g.F.Folder.contents l.folder ≡ g.F.Folder.contents l.fn.folder;
  later : g.F.Folder.faults l.fn.folder ≤ g.F.Folder.faults l.folder;
  listed : Listed (g.F.Folder.contents l.fn.folder) l.name-items;
  loaded : Loaded (g.F.Folder.contents l.fn.folder) (take l.name-index l.name-items) l.files;
}
