use Rattle.std.proofs.Common.{◌≡◌, List, ℕ, [], ◌∷◌, ◌++◌, ap, ◌∙◌, decimal, arith}
use Rattle.std.proofs.lemmas.Fmt.{decimal_digit, decimal_step}
use Rattle.lb_base.specs.Decimals.{places_of, last_digits, fraction_digits, ascii_digits}
use Rattle.lb_base.proofs.laws.worked_rows.Goals as goal

-- `71`
whole_points : decimal 71 ≡ 55 ∷ 49 ∷ []
whole_points =
    decimal_step 71 (omega arith) (omega arith) ∙ ap (λ (xs : List ℕ). xs ++ 49 ∷ []) (decimal_digit 7 (omega arith))

pub returns-clause-text : goal.returns-clause-text
unfolding places_of last_digits fraction_digits
returns-clause-text c = ap (λ (xs : List ℕ). xs ++ 46 ∷ ascii_digits (fraction_digits 8643)) whole_points

pub returns-clause-text_of_none : goal.returns-clause-text_of_none
unfolding places_of last_digits fraction_digits
returns-clause-text_of_none c = ap (λ (xs : List ℕ). xs ++ 46 ∷ ascii_digits (fraction_digits 0)) (decimal_digit 0 (omega arith))

pub returns-clause-text_below_none : goal.returns-clause-text_below_none
unfolding places_of last_digits fraction_digits
returns-clause-text_below_none c = ap (λ (xs : List ℕ). 45 ∷ xs ++ 46 ∷ ascii_digits (fraction_digits 1)) (decimal_digit 0 (omega arith))
