use Rattle.std.proofs.Common.{ℕ, List, [], sym, ◌∙◌, subst, arith}
use Rattle.lb_model.specs.Files.{Files}
use Rattle.lb_files.proofs.Loaded.{Listed, Loaded, loaded_none, loaded_turn, loaded_all}
use Rattle.lb_files.proofs.loading.read_files.Goals as goal

pub loop-name-init : goal.loop-name-init
loop-name-init g c =
    let contents = g.F.Folder.contents c.args.folder.now in
    let Names : List (List ℕ) → Type 0 = Listed contents in
    let Map : Files → Type 0 = Loaded contents [] in
    record {
      same = c.in_ok-names.ensures.same;
      later = c.in_ok-names.ensures.later;
      listed = subst Names (sym c.deref-name-items.ensures.value) c.in_ok-names.ensures.listed;
      loaded = subst Map (sym c.new-files.ensures) (loaded_none contents);
    }

pub loop-name-preserved : goal.loop-name-preserved
loop-name-preserved g c =
    let old = c.loop-name.invariant in
    let did = c.in_ok-take_file.ensures in
    record {
      same = did.same ∙ old.same;
      later = omega (arith, did.later, old.later);
      listed = old.listed;
      loaded = loaded_turn (g.F.Folder.contents c.loop-name.folder) (g.F.Folder.contents c.args.folder.now) old.same c.deref-name-items.result.now c.loop-name.name-index c.name-item.result c.loop-name.files c.take_file.new.files c.loop-name-test.true c.name-item.is old.listed did.book did.other old.loaded;
    }

pub returns-clause-files : goal.returns-clause-files
returns-clause-files g c = loaded_all (g.F.Folder.contents c.args.folder.now) c.deref-name-items.result.now c.loop-name.name-index c.loop-name.files (omega arith) c.loop-name.invariant.listed c.loop-name.invariant.loaded
