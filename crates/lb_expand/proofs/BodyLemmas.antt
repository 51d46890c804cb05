-- Bodies among the open readings.
use Rattle.std.proofs.Common.{◌≡◌, Bool, true, false, ◌∷◌, List, [], refl, sym}
use Rattle.std.specs.Prelude.{nat_eq, suc, if◌then◌else◌}
use Rattle.std.proofs.Math.Dec.{eqb-suc-zero}
use Rattle.lb_model.specs.Configs.{Reading}
use Rattle.lb_model_expansion.specs.Steps.{ends_pass, is_body}
use Rattle.lb_expand.specs.Opens.{bodies_in}

one-more : (b : Bool) (readings : List Reading) → ends_pass readings ≡ nat_eq (bodies_in readings) 0 → (if b then false else ends_pass readings) ≡ nat_eq (if b then suc (bodies_in readings) else bodies_in readings) 0
one-more true readings e = sym (eqb-suc-zero (bodies_in readings))
one-more false readings e = e

-- texts may end where none is of a body
pub ends_pass_by : (readings : List Reading) → ends_pass readings ≡ nat_eq (bodies_in readings) 0
ends_pass_by [] = refl
ends_pass_by (r ∷ readings) = one-more (is_body r.kind) readings (ends_pass_by readings)
