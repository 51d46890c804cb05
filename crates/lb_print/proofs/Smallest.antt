-- The text of -2^31 scaled points.
use Rattle.std.proofs.Common.{◌≡◌, ◌∙◌, ◌++◌, [], ◌∷◌, List, ℕ, negsuc, codes, ap, arith, decimal}
use Rattle.std.proofs.lemmas.Fmt.{decimal_digit, decimal_step}
use Rattle.lb_base.specs.Decimals.{ascii_digits, fraction_digits, last_digits, places_of, scaled_text}

whole : decimal 32768 ≡ codes "32768"
whole =
    decimal_step 32768 (omega arith) (omega arith)
    ∙ ap (λ l. l ++ 56 ∷ []) (decimal_step 3276 (omega arith) (omega arith)
    ∙ ap (λ l. l ++ 54 ∷ []) (decimal_step 327 (omega arith) (omega arith)
    ∙ ap (λ l. l ++ 55 ∷ []) (decimal_step 32 (omega arith) (omega arith)
    ∙ ap (λ l. l ++ 50 ∷ []) (decimal_digit 3 (omega arith)))))

pub smallest-text : scaled_text (negsuc 2147483647) ≡ codes "-32768.0"
unfolding fraction_digits last_digits places_of
smallest-text = ap (λ (l : List ℕ). 45 ∷ (l ++ 46 ∷ ascii_digits (fraction_digits 0))) whole
