use Rattle.std.proofs.Common.{◌≡◌, zero, suc, slice_get, ℕ, ℤ, pos, negsuc, cond, nat_lt, Bool, true, false, Option, Some, None, option_map, refl, sym, ap, subst}
use Rattle.lb_base.specs.declared.token.Category.{Category}
use Rattle.lb_rows.specs.declared.parameter.Parameter.{Parameter}
use Rattle.lb_rows.specs.declared.parameter.ParameterKind.{ParameterKind}
use Rattle.lb_rows.specs.declared.parameter.ParameterKind.TheVariants as parameter
use Rattle.lb_rows.specs.Parameters.{parameter_kind}
use Rattle.lb_values.specs.Categories.{categories, category_at, category_code}
use Rattle.lb_values.specs.declared.cell.Cell.{Cell}
use Rattle.lb_values.specs.declared.cell.Cell.TheVariants.{Cat, Lc, Uc, Sf, Count, Dimen, Par, Counter, Fresh, Body, Toc, Matter, Style, Size}
use Rattle.lb_values.specs.declared.value.Value.{Value}
use Rattle.lb_values.specs.declared.value.Value.TheVariants as value
use Rattle.lb_model.specs.HeldNumbers.{code_value, parameter_value, held_of, number_in}
use Rattle.lb_model.specs.Ranges.{fits, fits_parameter, is_number, is_dimension}
use Rattle.lb_model.proofs.laws.numbers_are_held.Goals as goal

-- what is held where a test passes has what each such value has
by_test : (P : Value → Type 0) (b : Bool) (x v : Value) → cond b (Some x) None ≡ Some v → (b ≡ true → P x) → P v
by_test P true x v h f = subst P (cc) (f refl)
by_test P false x v h f = absurd (cc)

by_category : (P : Value → Type 0) (o : Option Category) (n : ℤ) (v : Value) → option_map value.Category o ≡ Some v → ((c : Category) → o ≡ Some c → P (value.Category c)) → P v
by_category P None n v h f = absurd (cc)
by_category P (Some c) n v h f = subst P (cc) (f c refl)

by_code : (P : Value → Type 0) (n : ℤ) (v : Value) → code_value n ≡ Some v → ((k : ℕ) → n ≡ pos k → P (value.Code k)) → P v
by_code P (pos k) v h f = by_test P (nat_lt k 256) (value.Code k) v h (λ t. f k refl)
by_code P (negsuc k) v h f = absurd (cc)

abbrev Held : Cell → ℤ → Value → Type 0
Held cell n v = (fits cell v ≡ true) × (number_in v ≡ Some n)

of_parameter : (p : Parameter) (kind : ParameterKind) (n : ℤ) (v : Value) → parameter_kind p ≡ kind → parameter_value kind n ≡ Some v → Held (Par p) n v
of_parameter p parameter.Number n v e h = by_test (Held (Par p) n) (is_number n) (value.Number n) v h (λ t. (subst (λ k. fits_parameter k (value.Number n) ≡ true) (sym e) t, refl))
of_parameter p parameter.Dimension n v e h = by_test (Held (Par p) n) (is_dimension n) (value.Dimen n) v h (λ t. (subst (λ k. fits_parameter k (value.Dimen n) ≡ true) (sym e) t, refl))
of_parameter p parameter.Glue n v e h = absurd (cc)

some : {X : Type 0} {x y : X} → Some x ≡ Some y → x ≡ y
some h = cc

-- a category has the code at which it stands
code_at : (k : ℕ) (c : Category) → slice_get categories k ≡ Some c → category_code c ≡ k
unfolding categories category_code
code_at zero c h = subst (λ d. category_code d ≡ 0) (some h) refl
code_at (suc zero) c h = subst (λ d. category_code d ≡ 1) (some h) refl
code_at (suc (suc zero)) c h = subst (λ d. category_code d ≡ 2) (some h) refl
code_at (suc (suc (suc zero))) c h = subst (λ d. category_code d ≡ 3) (some h) refl
code_at (suc (suc (suc (suc zero)))) c h = subst (λ d. category_code d ≡ 4) (some h) refl
code_at (suc (suc (suc (suc (suc zero))))) c h = subst (λ d. category_code d ≡ 5) (some h) refl
code_at (suc (suc (suc (suc (suc (suc zero)))))) c h = subst (λ d. category_code d ≡ 6) (some h) refl
code_at (suc (suc (suc (suc (suc (suc (suc zero))))))) c h = subst (λ d. category_code d ≡ 7) (some h) refl
code_at (suc (suc (suc (suc (suc (suc (suc (suc zero)))))))) c h = subst (λ d. category_code d ≡ 8) (some h) refl
code_at (suc (suc (suc (suc (suc (suc (suc (suc (suc zero))))))))) c h = subst (λ d. category_code d ≡ 9) (some h) refl
code_at (suc (suc (suc (suc (suc (suc (suc (suc (suc (suc zero)))))))))) c h = subst (λ d. category_code d ≡ 10) (some h) refl
code_at (suc (suc (suc (suc (suc (suc (suc (suc (suc (suc (suc zero))))))))))) c h = subst (λ d. category_code d ≡ 11) (some h) refl
code_at (suc (suc (suc (suc (suc (suc (suc (suc (suc (suc (suc (suc zero)))))))))))) c h = subst (λ d. category_code d ≡ 12) (some h) refl
code_at (suc (suc (suc (suc (suc (suc (suc (suc (suc (suc (suc (suc (suc zero))))))))))))) c h = subst (λ d. category_code d ≡ 13) (some h) refl
code_at (suc (suc (suc (suc (suc (suc (suc (suc (suc (suc (suc (suc (suc (suc zero)))))))))))))) c h = subst (λ d. category_code d ≡ 14) (some h) refl
code_at (suc (suc (suc (suc (suc (suc (suc (suc (suc (suc (suc (suc (suc (suc (suc zero))))))))))))))) c h = subst (λ d. category_code d ≡ 15) (some h) refl
code_at (suc (suc (suc (suc (suc (suc (suc (suc (suc (suc (suc (suc (suc (suc (suc (suc k)))))))))))))))) c h = absurd (cc)

code_of : (n : ℤ) (c : Category) → category_at n ≡ Some c → Some (pos (category_code c)) ≡ Some n
code_of (pos k) c h = ap (λ m. Some (pos m)) (code_at k c h)
code_of (negsuc k) c h = absurd (cc)

held : (cell : Cell) (n : ℤ) (v : Value) → held_of cell n ≡ Some v → Held cell n v
unfolding held_of
held (Cat code) n v h = by_category (Held (Cat code) n) (category_at n) n v h (λ c e. (refl, code_of n c e))
held (Lc code) n v h = by_code (Held (Lc code) n) n v h (λ k e. (refl, ap Some (sym e)))
held (Uc code) n v h = by_code (Held (Uc code) n) n v h (λ k e. (refl, ap Some (sym e)))
held (Sf code) n v h = by_test (Held (Sf code) n) _ (value.Number n) v h (λ t. (t, refl))
held (Count r) n v h = by_test (Held (Count r) n) _ (value.Number n) v h (λ t. (t, refl))
held (Dimen r) n v h = by_test (Held (Dimen r) n) _ (value.Dimen n) v h (λ t. (t, refl))
held (Par p) n v h = of_parameter p (parameter_kind p) n v refl h
held (Counter name) n v h = by_test (Held (Counter name) n) _ (value.Number n) v h (λ t. (t, refl))
held (Fresh kind) n v h = by_test (Held (Fresh kind) n) _ (value.Number n) v h (λ t. (t, refl))
held Body n v h = by_test (Held Body n) _ (value.Number n) v h (λ t. (t, refl))
held Toc n v h = by_test (Held Toc n) _ (value.Number n) v h (λ t. (t, refl))
held Matter n v h = by_test (Held Matter n) _ (value.Number n) v h (λ t. (t, refl))
held Style n v h = by_test (Held Style n) _ (value.Number n) v h (λ t. (t, refl))
held Size n v h = by_test (Held Size n) _ (value.Number n) v h (λ t. (t, refl))
held cell n v h = absurd (cc)

pub returns-clause-fits : goal.returns-clause-fits
returns-clause-fits c cell n v h = (held cell n v h).0

pub returns-clause-number : goal.returns-clause-number
returns-clause-number c cell n v h = (held cell n v h).1
