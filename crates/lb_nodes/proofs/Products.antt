-- Products of what a part of a list has to give and an excess.
use Rattle.std.proofs.Common.{◌≡◌, ℕ, ◌+◌, ◌*◌, ◌≤◌, ℤ, ◌+ℤ◌, ◌*ℤ◌, sym, ap, ◌∙◌, subst, w32, to_z, of_z, FitsSigned, arith}
use mir.Syntax.{w128}
use Rattle.std.proofs.lemmas.Int.{fits_signed_mul, ints, to_z-of_z, unsigned_abs-mul}
use Rattle.std.proofs.lemmas.Grind.{common_steps}
use Rattle.std.specs.Prelude.{unsigned_abs}
use Rattle.lb_nodes.specs.Bounds.{IsLength, IsLongSum}

size_of_sum : (z : ℤ) → IsLongSum z → unsigned_abs z ≤ 39614081257132168796771975168
size_of_sum z sum = omega (arith, ints)

size_of_length : (z : ℤ) → FitsSigned w32 z → unsigned_abs z ≤ 2147483648
size_of_length z fits = search (arith, ints)

pub fits_sum : (z : ℤ) → IsLongSum z → FitsSigned w128 z
fits_sum z sum = search (arith, ints)

fits_length : (z : ℤ) → FitsSigned w32 z → FitsSigned w128 z
fits_length z fits = search (arith, ints)

within : (m n : ℕ) → m ≤ 39614081257132168796771975168 → n ≤ 2147483648 → m * n ≤ 85070591730234615865843651857942052864
within m n long short = grind (arith, common_steps)

fits_product : (a b : ℤ) → IsLongSum a → FitsSigned w32 b → FitsSigned w128 (a *ℤ b)
fits_product a b sum fits = fits_signed_mul w128 a b 39614081257132168796771975168 2147483648 (size_of_sum a sum) (size_of_length b fits) (omega arith)

pub product_held : (a b held : ℤ) → IsLongSum a → FitsSigned w32 b → held ≡ b → to_z w128 (of_z w128 (to_z w128 (of_z w128 a) *ℤ to_z w128 (of_z w128 held))) ≡ a *ℤ b
product_held a b held sum fits is =
    ap (λ (z : ℤ). to_z w128 (of_z w128 (z *ℤ to_z w128 (of_z w128 held)))) (to_z-of_z w128 a (fits_sum a sum))
    ∙ ap (λ (z : ℤ). to_z w128 (of_z w128 (a *ℤ to_z w128 (of_z w128 z)))) is
    ∙ ap (λ (z : ℤ). to_z w128 (of_z w128 (a *ℤ z))) (to_z-of_z w128 b (fits_length b fits))
    ∙ to_z-of_z w128 (a *ℤ b) (fits_product a b sum fits)

pub product_bounded : (a b : ℤ) → IsLongSum a → FitsSigned w32 b → unsigned_abs (a *ℤ b) ≤ 85070591730234615865843651857942052864
product_bounded a b sum fits =
    let P : ℕ → Type 0 = λ n. n ≤ 85070591730234615865843651857942052864 in
    subst P (sym (unsigned_abs-mul a b)) (within (unsigned_abs a) (unsigned_abs b) (size_of_sum a sum) (size_of_length b fits))

-- ---- sums

pub IsLength-fits : (z : ℤ) → FitsSigned w32 z → IsLength z
IsLength-fits z fits = let size = size_of_length z fits in search (arith, ints)

pub IsLongSum-of : (z : ℤ) (n : ℕ) → unsigned_abs z ≤ 2147483648 * n → n ≤ 18446744073709551616 → IsLongSum z
IsLongSum-of z n near most =
    let size : unsigned_abs z ≤ 39614081257132168796771975168 = omega arith in
    record { low = omega (arith, ints); high = omega (arith, ints) }

pub plus_bounded : (part give sum : ℤ) (k : ℕ) → unsigned_abs part ≤ 2147483648 * k → FitsSigned w32 give → sum ≡ part +ℤ give → unsigned_abs sum ≤ 2147483648 * (k + 1)
plus_bounded part give sum k near fits is =
    let size = size_of_length give fits in
    let most : unsigned_abs (part +ℤ give) ≤ 2147483648 * (k + 1) = omega (arith, ints) in
    let P : ℤ → Type 0 = λ z. unsigned_abs z ≤ 2147483648 * (k + 1) in
    subst P (sym is) most
