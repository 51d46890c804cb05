-- What lies between baselines is a length that a cell may hold.
use Rattle.std.proofs.Common.{◌≡◌, ◌∙◌, ap, refl, sym, true, false, zero, suc, ℕ, ℤ, pos, negsuc, List, [], ◌∷◌, Some}
use Rattle.std.specs.Prelude.{Bool, ◌&&◌}
use Rattle.std.specs.List.{slice_get}
use Rattle.std.specs.Option.{option_map, option_map_or}
use Rattle.lb_rows.specs.declared.parameter.Parameter.TheVariants.{BaselineSkip}
use Rattle.lb_rows.specs.Parameters.{parameter_kind}
use Rattle.lb_values.specs.declared.cell.Cell.TheVariants.{Par}
use Rattle.lb_values.specs.declared.value.Value.TheVariants as value
use Rattle.lb_model.specs.FontTable.{baselineskip_of, sizes}
use Rattle.lb_model.specs.Kinds.{no_glue}
use Rattle.lb_model.specs.Ranges.{fits, is_dimension}

abbrev are_lengths : List (ℤ × ℤ) → Bool
are_lengths [] = true
are_lengths (s ∷ rows) = is_dimension s.1 && are_lengths rows

left : (a b : Bool) → a && b ≡ true → a ≡ true
left true b h = refl
left false b h = h

right : (a b : Bool) → a && b ≡ true → b ≡ true
right true b h = h
right false b h = absurd (cc)

at-each : (rows : List (ℤ × ℤ)) (n : ℕ) → are_lengths rows ≡ true → option_map_or is_dimension (option_map (λ s. s.1) (slice_get rows n)) true ≡ true
at-each [] n h = refl
at-each (s ∷ rows) zero h = left (is_dimension s.1) (are_lengths rows) h
at-each (s ∷ rows) (suc n) h = at-each rows n (right (is_dimension s.1) (are_lengths rows) h)

all-lengths : are_lengths sizes ≡ true
unfolding sizes
all-lengths = refl

is-length : (size : ℤ) → option_map_or is_dimension (baselineskip_of size) true ≡ true
is-length (pos n) = at-each sizes n all-lengths
is-length (negsuc n) = refl

glue-fits : (w : ℤ) → is_dimension w ≡ true → fits (Par BaselineSkip) (value.Glue (record no_glue { width = w })) ≡ true
unfolding parameter_kind
glue-fits w h = ap (λ b. b && true) h

pub skip-fits : (size w : ℤ) → baselineskip_of size ≡ Some w → fits (Par BaselineSkip) (value.Glue (record no_glue { width = w })) ≡ true
skip-fits size w e = glue-fits w (sym (ap (λ o. option_map_or is_dimension o true) e) ∙ is-length size)
