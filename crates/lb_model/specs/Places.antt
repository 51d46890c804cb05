-- Where a key is among entries in the order of their keys.
use Rattle.std.specs.Prelude.{◌≡◌, ℕ, ◌<◌, ◌≤◌, List, length, slice_index_or}
use Rattle.std.specs.declared.cmp.Ordering.{Ordering}
use Rattle.std.specs.declared.cmp.Ordering.TheVariants.{Less, Equal, Greater}

-- the entry at place i has the key
pub record IsAt {K X : Type 0} (R : K → K → Ordering) (entries : List (K × X)) (key : K) (i : ℕ) : Type 0 where
  pub in_range : i < length entries
  pub has_key : (d : K × X) → R (slice_index_or entries i d).0 key ≡ Equal

-- the key would go at place i: smaller keys before it, and greater keys from it on
pub record IsGapFor {K X : Type 0} (R : K → K → Ordering) (entries : List (K × X)) (key : K) (i : ℕ) : Type 0 where
  pub in_range : i ≤ length entries
  pub less_before : (j : ℕ) (d : K × X) → j < i → R (slice_index_or entries j d).0 key ≡ Less
  pub greater_after : (j : ℕ) (d : K × X) → i ≤ j → j < length entries → R (slice_index_or entries j d).0 key ≡ Greater
