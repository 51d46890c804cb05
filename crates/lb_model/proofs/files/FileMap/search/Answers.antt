use Rattle.std.proofs.Common.{◌≡◌, rules}
use Rattle.std.proofs.lemmas.Fn.{always_returns_same}
use Rattle.std.specs.Cmp.Lexicographic.{nat_list_cmp_total}
use Rattle.lb_model.specs.Files.{name_cmp}
use Rattle.lb_model.proofs.Places.{searched, entries_are}
use Rattle.lb_model.proofs.files.FileMap.search.Goals as goal

-- the closure compares a file's name with the one sought, and the slice is the map's entries
pub returns : goal.returns
returns c =
    let facts = c.binary_search_by.ensures in
    let by_name = facts.position (λ file. name_cmp file.0 c.args.name.now) (always_returns_same _ (λ a r. r ≡ name_cmp a.0.now.0 c.args.name.now) _ (λ a r g called. (search rules, search rules))) in
    rw (entries_are _ _ c.self.invariant c.self.view_is, ← c.deref.ensures.value) (searched nat_list_cmp_total _ (rw c.deref.ensures.value c.self.invariant) c.args.name.now _ facts.bound by_name)
