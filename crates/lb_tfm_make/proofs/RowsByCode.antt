-- Rows whose codes rise are found by their codes.
use Rattle.std.proofs.Common.{◌≡◌, ◌≢◌, ℕ, ◌+◌, ◌<◌, ◌≤◌, Bool, true, cond, List, [], ◌∷◌, length, get_or, arith, refl, ap, ◌∙◌, Some}
use Prim.Native.Nat.{zero, suc}
use Rattle.std.specs.Prelude.{nat_le}
use Rattle.lb_tfm_make.specs.declared.spec.CharWidth.{CharWidth}
use Rattle.lb_tfm_make.specs.FontSpecs.{rise_from, row_of}
use Rattle.lb_tfm_make.proofs.Tests.{both, is-from, other, same}

code-from : (low : ℕ) (rows : List CharWidth) (k : ℕ) (d : CharWidth) → rise_from low rows ≡ true → k < length rows → low ≤ (get_or rows k d).code
unfolding rise_from
code-from low [] k d h within = absurd (omega arith)
code-from low (row ∷ rows) zero d h within = is-from low row.code (both (nat_le low row.code) (rise_from (row.code + 1) rows) h).0
code-from low (row ∷ rows) (suc k) d h within =
    let t = both (nat_le low row.code) (rise_from (row.code + 1) rows) h in
    let first = is-from low row.code t.0 in
    let lt : k < length rows = omega arith in
    let later = code-from (row.code + 1) rows k d t.1 lt in
    omega arith

pub row-at : (low : ℕ) (rows : List CharWidth) (k : ℕ) (d : CharWidth) → rise_from low rows ≡ true → k < length rows → row_of rows (get_or rows k d).code ≡ Some (get_or rows k d)
unfolding rise_from
row-at low [] k d h within = absurd (omega arith)
row-at low (row ∷ rows) zero d h within = ap (λ (b : Bool). cond b (Some row) (row_of rows row.code)) (same row.code row.code refl)
row-at low (row ∷ rows) (suc k) d h within =
    let t = both (nat_le low row.code) (rise_from (row.code + 1) rows) h in
    let lt : k < length rows = omega arith in
    let above = code-from (row.code + 1) rows k d t.1 lt in
    let apart : row.code ≢ (get_or rows k d).code = omega arith in
    ap (λ (b : Bool). cond b (Some row) (row_of rows (get_or rows k d).code)) (other row.code (get_or rows k d).code apart) ∙ row-at (row.code + 1) rows k d t.1 lt
