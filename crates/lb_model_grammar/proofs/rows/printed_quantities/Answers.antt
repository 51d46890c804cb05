use Rattle.std.proofs.Common.{◌≡◌, List, ℕ, [], ◌∷◌, ◌++◌, Some, codes, ap, arith, decimal}
use Rattle.std.proofs.lemmas.Fmt.{decimal_digit}
use Rattle.lb_base.specs.Decimals.{places_of, last_digits, fraction_digits, ascii_digits}
use Rattle.lb_model_grammar.proofs.rows.printed_quantities.Goals as goal

none : decimal 0 ≡ 48 ∷ []
none = decimal_digit 0 (omega arith)

one : decimal 1 ≡ 49 ∷ []
one = decimal_digit 1 (omega arith)

-- a fraction behind the digits of the whole points
abbrev behind : List ℕ → ℕ → List ℕ
behind whole fraction = whole ++ 46 ∷ ascii_digits (fraction_digits fraction)

abbrev glue : List ℕ → List ℕ → List ℕ
glue o n =
    45 ∷ behind o 32768 ++ codes "pt" ++ (codes " plus " ++ behind o 0 ++ codes "fil") ++ (codes " minus " ++ behind n 32768 ++ codes "pt")

pub returns-clause-tenth : goal.returns-clause-tenth
unfolding places_of last_digits fraction_digits
returns-clause-tenth c = ap (λ (xs : List ℕ). Some (behind xs 6554 ++ codes "pt")) none

pub returns-clause-glue : goal.returns-clause-glue
unfolding places_of last_digits fraction_digits
returns-clause-glue c = λ i. Some (glue (one i) (none i))

pub returns-clause-plain_glue : goal.returns-clause-plain_glue
unfolding places_of last_digits fraction_digits
returns-clause-plain_glue c = ap (λ (xs : List ℕ). Some (behind xs 0 ++ codes "pt" ++ [] ++ [])) one
