-- Amounts by their order.
use Rattle.std.proofs.Common.{◌≡◌, ℤ, pos, ◌+ℤ◌, if◌then◌else◌, arith}
use Rattle.std.proofs.lemmas.Int.{ints}
use Rattle.lb_base.specs.declared.glue.Order.{Order}
use Rattle.lb_base.specs.declared.glue.Order.TheVariants.{Finite, Fil, Fill, Filll}
use Rattle.lb_model_paper.specs.Nodes.{same_order}
use Rattle.lb_page.specs.declared.amounts.Amounts.{Amounts}
use Rattle.lb_page.specs.Sums.{amount_in}

plus_none : (z : ℤ) → z ≡ z +ℤ pos 0
plus_none z = omega (arith, ints)

-- the amount of one order grows, and no other
pub amount_in-more_finite : (amounts : Amounts) (amount sum : ℤ) → sum ≡ amounts.finite +ℤ amount → (other : Order) → amount_in (record { finite = sum; fil = amounts.fil; fill = amounts.fill; filll = amounts.filll }) other ≡ amount_in amounts other +ℤ (if same_order Finite other then amount else pos 0)
amount_in-more_finite amounts amount sum e Finite = e
amount_in-more_finite amounts amount sum e Fil = plus_none amounts.fil
amount_in-more_finite amounts amount sum e Fill = plus_none amounts.fill
amount_in-more_finite amounts amount sum e Filll = plus_none amounts.filll

pub amount_in-more_fil : (amounts : Amounts) (amount sum : ℤ) → sum ≡ amounts.fil +ℤ amount → (other : Order) → amount_in (record { finite = amounts.finite; fil = sum; fill = amounts.fill; filll = amounts.filll }) other ≡ amount_in amounts other +ℤ (if same_order Fil other then amount else pos 0)
amount_in-more_fil amounts amount sum e Finite = plus_none amounts.finite
amount_in-more_fil amounts amount sum e Fil = e
amount_in-more_fil amounts amount sum e Fill = plus_none amounts.fill
amount_in-more_fil amounts amount sum e Filll = plus_none amounts.filll

pub amount_in-more_fill : (amounts : Amounts) (amount sum : ℤ) → sum ≡ amounts.fill +ℤ amount → (other : Order) → amount_in (record { finite = amounts.finite; fil = amounts.fil; fill = sum; filll = amounts.filll }) other ≡ amount_in amounts other +ℤ (if same_order Fill other then amount else pos 0)
amount_in-more_fill amounts amount sum e Finite = plus_none amounts.finite
amount_in-more_fill amounts amount sum e Fil = plus_none amounts.fil
amount_in-more_fill amounts amount sum e Fill = e
amount_in-more_fill amounts amount sum e Filll = plus_none amounts.filll

pub amount_in-more_filll : (amounts : Amounts) (amount sum : ℤ) → sum ≡ amounts.filll +ℤ amount → (other : Order) → amount_in (record { finite = amounts.finite; fil = amounts.fil; fill = amounts.fill; filll = sum }) other ≡ amount_in amounts other +ℤ (if same_order Filll other then amount else pos 0)
amount_in-more_filll amounts amount sum e Finite = plus_none amounts.finite
amount_in-more_filll amounts amount sum e Fil = plus_none amounts.fil
amount_in-more_filll amounts amount sum e Fill = plus_none amounts.fill
amount_in-more_filll amounts amount sum e Filll = e
