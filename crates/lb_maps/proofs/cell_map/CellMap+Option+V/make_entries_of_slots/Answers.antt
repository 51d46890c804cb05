use Rattle.std.proofs.Common.{refl, ap, sym, ◌∙◌, Some}
use Rattle.std.proofs.lemmas.Option.{slice_get-get_or}
use Rattle.lb_maps.proofs.Entries.{keeps-slot, keeps-none}
use Rattle.lb_maps.proofs.cell_map.CellMap+Option+V.make_entries_of_slots.Goals as goal

pub loop-place-init : goal.loop-place-init
loop-place-init g c = record { same = refl; keeps = λ q h. h; there = keeps-none c.args.self.now }

pub loop-place-preserved : goal.loop-place-preserved
loop-place-preserved g c = record {
  same = c.make_entry_of_slot.ensures.same ∙ c.loop-place.invariant.same;
  keeps = λ q h. c.make_entry_of_slot.ensures.keeps q (c.loop-place.invariant.keeps q h);
  there = keeps-slot c.args.slots.now c.loop-place.place c.index-slots-place.result c.make_entry_of_slot.new.self (slice_get-get_or c.args.slots.now c.loop-place.place _ c.loop-place-test.true ∙ ap Some (sym c.index-slots-place.is))
      (λ q h. c.make_entry_of_slot.ensures.keeps q (c.loop-place.invariant.there q h)) c.in_ok-make_entry_of_slot.ensures.there;
}
