use Rattle.std.proofs.Common.{sym, subst, List, ℕ}
use Rattle.lb_files.proofs.Loaded.{Listed, listed_sorted}
use Rattle.lb_files.proofs.loading.sorted_names.Goals as goal

pub returns-clause-listed : goal.returns-clause-listed
returns-clause-listed g c =
    let contents = g.F.Folder.contents c.args.folder.now in
    let P : List (List ℕ) → Type 0 = Listed contents in
    listed_sorted contents c.into_vec-names.result.items c.sort_unstable.new.self.items (subst P (sym c.into_vec-names.ensures) c.in_ok-names.ensures.listed) c.sort_unstable.ensures.permutation
