use Rattle.std.proofs.Common.{subst}
use Rattle.std.proofs.lemmas.Result.{on_ok_weaker}
use Rattle.lb_maps.specs.CellMap.{KeepsEntries}
use Rattle.lb_maps.specs.Slots.{filled}
use Rattle.lb_maps.proofs.Entries.{keeps-append}
use Rattle.lb_maps.proofs.cell_map.CellMap+Option+V.make_entries.Goals as goal

pub returns-clause-there : goal.returns-clause-there
returns-clause-there g c =
    let map = c.other.inside in
    let made = c.make_entries_of_map.new.self in
    let first : KeepsEntries (filled map.slots.items) c.make_entries_of_slots.new.self = subst (λ slots. KeepsEntries (filled slots) c.make_entries_of_slots.new.self) c.as_slice.ensures.value c.in_ok-make_entries_of_slots.ensures.there in
    on_ok_weaker c.make_entries_of_map.result
    (λ second. subst (λ es. KeepsEntries es made) c.other.view_is (keeps-append (filled map.slots.items) map.map.entries made (λ q h. c.make_entries_of_map.ensures.keeps q (first q h)) second))
    c.make_entries_of_map.ensures.there
