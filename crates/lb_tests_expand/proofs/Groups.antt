-- No group is open.
use Rattle.std.proofs.Common.{◌≡◌, ◌≤◌, ℕ, List, [], ◌∷◌, arith}
use Rattle.lb_model.specs.declared.group.Group.{Group}
use Rattle.lb_model.specs.Stacked.{kinds_of, saves_in}

-- no open groups have made saves
pub none-stand : (groups : List Group) (n : ℕ) → kinds_of groups ≡ [] → saves_in groups ≤ n
none-stand [] n e = omega arith
none-stand (g ∷ groups) n e = cc
