-- Amounts by their order.
use Rattle.std.proofs.Common.{◌≡◌, ℤ, pos, ◌+ℤ◌, if◌then◌else◌, sym, subst, to_z, of_z, w64, FitsSigned, arith}
use Rattle.std.proofs.lemmas.Int.{ints, to_z-of_z}
use Rattle.lb_base.specs.declared.glue.Order.{Order}
use Rattle.lb_base.specs.declared.glue.Order.TheVariants.{Finite, Fil, Fill, Filll}
use Rattle.lb_model_paper.specs.Dvi.{IsSmall}
use Rattle.lb_model_paper.specs.Nodes.{same_order}
use Rattle.lb_nodes.specs.declared.by_order.ByOrder.{ByOrder}
use Rattle.lb_nodes.specs.Totals.{amount_in, AreSmallAmounts}

plus_none : (z : ℤ) → z ≡ z +ℤ pos 0
plus_none z = omega (arith, ints)

-- each amount is small
pub IsSmall-amount_in : (amounts : ByOrder) → AreSmallAmounts amounts → (order : Order) → IsSmall (amount_in amounts order)
IsSmall-amount_in amounts small Finite = small.finite
IsSmall-amount_in amounts small Fil = small.fil
IsSmall-amount_in amounts small Fill = small.fill
IsSmall-amount_in amounts small Filll = small.filll

pub AreSmallAmounts-from : (amounts : ByOrder) → ((order : Order) → IsSmall (amount_in amounts order)) → AreSmallAmounts amounts
AreSmallAmounts-from amounts small = record { finite = small Finite; fil = small Fil; fill = small Fill; filll = small Filll }

-- the finite amount grows, and no other
pub amount_in-more_finite : (amounts : ByOrder) (amount sum : ℤ) → sum ≡ amounts.finite +ℤ amount → (other : Order) → amount_in (record { finite = sum; fil = amounts.fil; fill = amounts.fill; filll = amounts.filll }) other ≡ amount_in amounts other +ℤ (if same_order Finite other then amount else pos 0)
amount_in-more_finite amounts amount sum e Finite = e
amount_in-more_finite amounts amount sum e Fil = plus_none amounts.fil
amount_in-more_finite amounts amount sum e Fill = plus_none amounts.fill
amount_in-more_finite amounts amount sum e Filll = plus_none amounts.filll

-- a length as the code holds it in 64 bits
pub IsSmall-held : (z : ℤ) → FitsSigned w64 z → IsSmall (to_z w64 (of_z w64 z)) → IsSmall z
IsSmall-held z fits small = let P : ℤ → Type 0 = λ y. IsSmall y in subst P (to_z-of_z w64 z fits) small

pub IsSmall-to_hold : (z : ℤ) → FitsSigned w64 z → IsSmall z → IsSmall (to_z w64 (of_z w64 z))
IsSmall-to_hold z fits small = let P : ℤ → Type 0 = λ y. IsSmall y in subst P (sym (to_z-of_z w64 z fits)) small
