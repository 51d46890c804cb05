use Rattle.std.proofs.Common.{refl, ◌∙◌}
use Rattle.std.specs.Map.Iter.{deref_pair}
use Rattle.lb_maps.proofs.Entries.{keeps-next, keeps-none}
use Rattle.lb_maps.proofs.cell_map.CellMap+Option+V.make_entries_of_map.Goals as goal

pub loop-place-init : goal.loop-place-init
loop-place-init g c = record { same = refl; keeps = λ q h. h; there = keeps-none c.args.self.now }

pub loop-place-preserved : goal.loop-place-preserved
loop-place-preserved g c = record {
  same = c.make_entry.ensures.same ∙ c.loop-place.invariant.same;
  keeps = λ q h. c.make_entry.ensures.keeps q (c.loop-place.invariant.keeps q h);
  there = keeps-next c.args.map.now.entries c.loop-place.place (deref_pair c.entry_of.result) c.make_entry.new.self c.entry_of.ensures
      (λ q h. c.make_entry.ensures.keeps q (c.loop-place.invariant.there q h)) c.in_ok-make_entry.ensures.there;
}
