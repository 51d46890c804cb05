-- Tables of names. A name is the list of its bytes, and a table the list of its names.
use Rattle.std.specs.Prelude.{ℕ, List, Option, nat_eq, position}
use lib.Pointwise.{pointwise}

-- the place of the first row with a name, counted from 0
abbrev pub place_of : List (List ℕ) → List ℕ → Option ℕ
place_of rows name = position (λ row. pointwise nat_eq row name) rows
