use Rattle.std.proofs.Common.{◌≡◌, ◌∙◌, ◌++◌, ◌∷◌, [], ℕ, List, codes, ap, arith, decimal}
use Rattle.std.proofs.lemmas.Fmt.{decimal_digit, decimal_step}
use Rattle.std.specs.Prelude.{Ok}
use Rattle.lb_model_counters.specs.Counters.{print_counter}
use Rattle.lb_model_counters.proofs.rows.arabic.Goals as goal

d0 : decimal 0 ≡ codes "0"
d0 = decimal_digit 0 (omega arith)

d1 : decimal 1 ≡ codes "1"
d1 = decimal_digit 1 (omega arith)

d4 : decimal 4 ≡ codes "4"
d4 = decimal_digit 4 (omega arith)

d9 : decimal 9 ≡ codes "9"
d9 = decimal_digit 9 (omega arith)

d2 : decimal 2 ≡ codes "2"
d2 = decimal_digit 2 (omega arith)

d26 : decimal 26 ≡ codes "26"
d26 = decimal_step 26 (omega arith) (omega arith) ∙ ap (λ (xs : List ℕ). xs ++ 54 ∷ []) d2

d27 : decimal 27 ≡ codes "27"
d27 = decimal_step 27 (omega arith) (omega arith) ∙ ap (λ (xs : List ℕ). xs ++ 55 ∷ []) d2

d3 : decimal 3 ≡ codes "3"
d3 = decimal_digit 3 (omega arith)

d39 : decimal 39 ≡ codes "39"
d39 = decimal_step 39 (omega arith) (omega arith) ∙ ap (λ (xs : List ℕ). xs ++ 57 ∷ []) d3

d399 : decimal 399 ≡ codes "399"
d399 = decimal_step 399 (omega arith) (omega arith) ∙ ap (λ (xs : List ℕ). xs ++ 57 ∷ []) d39

d3999 : decimal 3999 ≡ codes "3999"
d3999 = decimal_step 3999 (omega arith) (omega arith) ∙ ap (λ (xs : List ℕ). xs ++ 57 ∷ []) d399

d10 : decimal 10 ≡ codes "10"
d10 = decimal_step 10 (omega arith) (omega arith) ∙ ap (λ (xs : List ℕ). xs ++ 48 ∷ []) d1

d100 : decimal 100 ≡ codes "100"
d100 = decimal_step 100 (omega arith) (omega arith) ∙ ap (λ (xs : List ℕ). xs ++ 48 ∷ []) d10

d1000 : decimal 1000 ≡ codes "1000"
d1000 = decimal_step 1000 (omega arith) (omega arith) ∙ ap (λ (xs : List ℕ). xs ++ 48 ∷ []) d100

d10000 : decimal 10000 ≡ codes "10000"
d10000 = decimal_step 10000 (omega arith) (omega arith) ∙ ap (λ (xs : List ℕ). xs ++ 48 ∷ []) d1000

d100000 : decimal 100000 ≡ codes "100000"
d100000 = decimal_step 100000 (omega arith) (omega arith) ∙ ap (λ (xs : List ℕ). xs ++ 48 ∷ []) d10000

d100001 : decimal 100001 ≡ codes "100001"
d100001 = decimal_step 100001 (omega arith) (omega arith) ∙ ap (λ (xs : List ℕ). xs ++ 49 ∷ []) d10000

pub returns-clause-none : goal.returns-clause-none
unfolding print_counter
returns-clause-none c = ap (λ (xs : List ℕ). Ok xs) d0

pub returns-clause-one : goal.returns-clause-one
unfolding print_counter
returns-clause-one c = ap (λ (xs : List ℕ). Ok xs) d1

pub returns-clause-four : goal.returns-clause-four
unfolding print_counter
returns-clause-four c = ap (λ (xs : List ℕ). Ok xs) d4

pub returns-clause-nine : goal.returns-clause-nine
unfolding print_counter
returns-clause-nine c = ap (λ (xs : List ℕ). Ok xs) d9

pub returns-clause-twenty_six : goal.returns-clause-twenty_six
unfolding print_counter
returns-clause-twenty_six c = ap (λ (xs : List ℕ). Ok xs) d26

pub returns-clause-twenty_seven : goal.returns-clause-twenty_seven
unfolding print_counter
returns-clause-twenty_seven c = ap (λ (xs : List ℕ). Ok xs) d27

pub returns-clause-thousands : goal.returns-clause-thousands
unfolding print_counter
returns-clause-thousands c = ap (λ (xs : List ℕ). Ok xs) d3999

pub returns-clause-at_the_limit : goal.returns-clause-at_the_limit
unfolding print_counter
returns-clause-at_the_limit c = ap (λ (xs : List ℕ). Ok xs) d100000

pub returns-clause-over_the_limit : goal.returns-clause-over_the_limit
unfolding print_counter
returns-clause-over_the_limit c = ap (λ (xs : List ℕ). Ok xs) d100001

pub returns-clause-below_none : goal.returns-clause-below_none
unfolding print_counter
returns-clause-below_none c = ap (λ (xs : List ℕ). Ok (45 ∷ xs)) d1
