-- Parts of texts that are lent.
use Rattle.std.specs.Borrow.{Bor}
use Rattle.std.specs.Prelude.{◌≡◌, ◌+◌, ◌<◌, ◌==◌, Bool, false, ℕ, List, drop, length, take, Option, Some}
use Rattle.std.specs.Option.{option_map}
use Rattle.lb_values.specs.declared.value.LabelPair.{LabelPair}
use Rattle.lb_model_aux.specs.Groups.{to_close}
use Rattle.lb_aux.specs.declared.forms.LabelParts.{LabelParts}

-- two parts as they are
abbrev pub both : Option (Bor (List ℕ) × Bor (List ℕ)) → Option (List ℕ × List ℕ)
both parts = option_map (λ p. (p.0.now, p.1.now)) parts

abbrev pub pair_in : LabelParts → LabelPair
pair_in parts = record { text = parts.text.now; page = parts.page.now }

abbrev pub is_feed : ℕ → Bool
is_feed c = c == 10

-- the brace that closes the group around a text stands at this place
abbrev pub IsClosedAt : List ℕ → ℕ → Type 0
IsClosedAt text at = (at < length text) × (to_close false 1 text ≡ Some (take at text, drop (at + 1) text))
