-- Decimal digits, one after another.
use Rattle.std.proofs.Common.{◌≡◌, ◌∙◌, ◌+◌, ◌-◌, ◌*◌, ◌<◌, ◌≤◌, Bool, true, false, ℕ, List, Some, None, refl, ap, sym, subst, take, drop, length, map, get_or, arith, take_all}
use Rattle.std.specs.Prelude.{◌&&◌, nat_lt, not, if◌then◌else◌}
use Rattle.std.specs.Int.Digits.{number_from_digits, number_from_digits_after}
use Rattle.std.specs.List.{list_all}
use Rattle.std.proofs.lemmas.Int.Digits.{number_after_append, number_after_ge, number_push}
use Rattle.std.proofs.lemmas.List.Folds.{list_all_more}
use Rattle.std.proofs.lemmas.List.{map-append, map_push, take-append-drop, take_more}
use Rattle.lb_model.specs.Lines.{is_empty}
use Rattle.lb_model_aux.specs.Forms.{is_digit, magnitude_of, value_of}

abbrev digit : ℕ → ℕ
digit c = c - 48

pub value-more : (ds : List ℕ) (i : ℕ) → i < length ds → value_of (take (i + 1) ds) ≡ 10 * value_of (take i ds) + (get_or ds i 0 - 48)
value-more ds i h =
    let x : ℕ = value_of (take i ds) in
    let d : ℕ = get_or ds i 0 - 48 in
    ap value_of (take_more ds i 0 h) ∙ ap (number_from_digits 10) (map_push digit (take i ds) (get_or ds i 0)) ∙ number_push 10 (map digit (take i ds)) d ∙ turn x d
  where
    turn : (x d : ℕ) → x * 10 + d ≡ 10 * x + d
    turn x d = omega arith

value-grows : (ds : List ℕ) (i : ℕ) → value_of (take i ds) ≤ value_of ds
value-grows ds i =
    let e : value_of ds ≡ number_from_digits_after 10 (value_of (take i ds)) (map digit (drop i ds)) =
    ap value_of (sym (take-append-drop i ds)) ∙ ap (number_from_digits 10) (map-append digit (take i ds) (drop i ds))
    ∙ number_after_append 10 0 (map digit (take i ds)) (map digit (drop i ds)) in
    subst (λ n. value_of (take i ds) ≤ n) (sym e) (number_after_ge 10 (value_of (take i ds)) (map digit (drop i ds)) (omega arith))

none-of : (a b c : Bool) (n : ℕ) → c ≡ false → (if a && (b && c) then Some n else None) ≡ None
none-of true true c n e = ap (λ (x : Bool). if x then Some n else None) e
none-of true false c n e = refl
none-of false b c n e = refl

not-below : (n m : ℕ) → m ≤ n → nat_lt n m ≡ false
not-below n m h = grind (arith, h)

-- the first digits alone are too large
pub too-large : (ds : List ℕ) (i v : ℕ) → v ≡ value_of (take i ds) → 2147483648 ≤ v → magnitude_of ds ≡ None
too-large ds i v e h =
    let g : 2147483648 ≤ value_of ds = omega (arith, value-grows ds i, e, h) in
    none-of (not (is_empty ds)) (list_all is_digit ds) (nat_lt (value_of ds) 2147483648) (value_of ds) (not-below (value_of ds) 2147483648 g)

below : (n m : ℕ) → n < m → nat_lt n m ≡ true
below n m h = grind (arith, h)

-- all digits are gone over
pub all-digits : (ds : List ℕ) (i v : ℕ) → not (is_empty ds) ≡ true → length ds ≤ i → list_all is_digit (take i ds) ≡ true → v ≡ value_of (take i ds) → v < 2147483648
    → magnitude_of ds ≡ Some v
all-digits ds i v s h a e small =
    let all : take i ds ≡ ds = take_all i ds h in
    let value : v ≡ value_of ds = e ∙ ap value_of all in
    let digits : list_all is_digit ds ≡ true = sym (ap (list_all is_digit) all) ∙ a in
    let low : nat_lt (value_of ds) 2147483648 ≡ true = below (value_of ds) 2147483648 (subst (λ n. n < 2147483648) value small) in
    let test : (not (is_empty ds) && (list_all is_digit ds && nat_lt (value_of ds) 2147483648)) ≡ true = rw (s, digits, low) refl in
    ap (λ (b : Bool). if b then Some (value_of ds) else None) test ∙ ap Some (sym value)

pub digits-more : (ds : List ℕ) (i : ℕ) → i < length ds → list_all is_digit (take i ds) ≡ true → is_digit (get_or ds i 0) ≡ true → list_all is_digit (take (i + 1) ds) ≡ true
digits-more ds i h a b = list_all_more is_digit ds i 0 h ∙ rw (a, b) refl
