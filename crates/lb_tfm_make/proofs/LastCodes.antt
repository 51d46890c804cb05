-- The first and the last code of a description.
use Rattle.std.proofs.Common.{◌≡◌, ◌-◌, ◌<◌, List, [], ◌∷◌, length, get_or, arith, refl, ap, ◌∙◌}
use Rattle.lb_tfm_make.specs.declared.spec.CharWidth.{CharWidth}
use Rattle.lb_tfm_make.specs.FontBytes.{last_code}

last-behind : (row d : CharWidth) (rows : List CharWidth) → (get_or (row ∷ rows) (length rows) d).code ≡ last_code row.code rows
unfolding last_code
last-behind row d [] = refl
last-behind row d (next ∷ rows) = last-behind next d rows

pub last-at : (rows : List CharWidth) (d : CharWidth) → 0 < length rows → (get_or rows (length rows - 1) d).code ≡ last_code 0 rows
unfolding last_code
last-at [] d h = absurd (omega arith)
last-at (row ∷ rows) d h =
    let e : length (row ∷ rows) - 1 ≡ length rows = omega arith in
    ap (λ k. (get_or (row ∷ rows) k d).code) e ∙ last-behind row d rows
