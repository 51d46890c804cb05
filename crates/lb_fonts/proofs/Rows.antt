-- Rows of a table by a number that counts from 0.
use Rattle.std.proofs.Common.{◌≡◌, ◌∙◌, rules, ℕ, ◌<◌, ◌≤◌, nat_lt, length, List, Option, None, Some, is_some, IfSome, Bor, ℤ, pos, negsuc, zero, suc, ◌≢◌, refl, sym, ap, slice_get, slice_index_or}
use Rattle.std.specs.Option.{option_copied}
use Rattle.std.proofs.lemmas.Option.{slice_get_past, slice_get-get_or}
use Rattle.lb_model.specs.FontTable.{row, style_names}

got : {X : Type 0} (table : List X) (n : ℕ) (r : Option (Bor X)) → is_some r ≡ nat_lt n (length table) → IfSome r (λ x. x.now ≡ slice_index_or table n x.now) → option_copied r ≡ slice_get table n
got table n None none same = let past : length table ≤ n = search rules in sym (slice_get_past table n past)
got table n (Some x) some same = let within : n < length table = search rules in ap Some same ∙ sym (slice_get-get_or table n x.now within)

pub row-got : {X : Type 0} (table : List X) (at : ℤ) (n : ℕ) (r : Option (Bor X)) → at ≡ pos n → is_some r ≡ nat_lt n (length table) → IfSome r (λ x. x.now ≡ slice_index_or table n x.now) → option_copied r ≡ row table at
row-got table at n r is some same = rw is (got table n r some same)

-- a number that is none of the styles
pub no-style : (style : ℤ) → style ≢ pos 0 → style ≢ pos 1 → style ≢ pos 2 → style ≢ pos 3 → style ≢ pos 4 → style ≢ pos 5 → row style_names style ≡ None
unfolding style_names
no-style (pos zero) n0 n1 n2 n3 n4 n5 = absurd (n0 refl)
no-style (pos (suc zero)) n0 n1 n2 n3 n4 n5 = absurd (n1 refl)
no-style (pos (suc (suc zero))) n0 n1 n2 n3 n4 n5 = absurd (n2 refl)
no-style (pos (suc (suc (suc zero)))) n0 n1 n2 n3 n4 n5 = absurd (n3 refl)
no-style (pos (suc (suc (suc (suc zero))))) n0 n1 n2 n3 n4 n5 = absurd (n4 refl)
no-style (pos (suc (suc (suc (suc (suc zero)))))) n0 n1 n2 n3 n4 n5 = absurd (n5 refl)
no-style (pos (suc (suc (suc (suc (suc (suc n))))))) n0 n1 n2 n3 n4 n5 = refl
no-style (negsuc less) n0 n1 n2 n3 n4 n5 = refl
