-- A recorder in which nothing is written yet.
use Rattle.std.proofs.Common.{◌≡◌, [], None, refl, ap, ◌∙◌}
use Rattle.std.specs.Prelude.{unwrap_or}
use Rattle.lb_model.specs.Settings.{State}
use Rattle.lb_maps.specs.CellMap.{at, held_now}
use Rattle.lb_record.specs.Recorded.{Recorded, meaning_over}

no-writes : (s : State) → (λ cell. unwrap_or (held_now None [] cell) (s cell)) ≡ s
unfolding at
no-writes s = refl

-- the cells hold what the state does
pub fresh-over : (r : Recorded) (s : State) → r.writes.entries ≡ [] → (meaning_over r s).now ≡ s
fresh-over r s e = ap (λ es cell. unwrap_or (held_now None es cell) (s cell)) e ∙ no-writes s
