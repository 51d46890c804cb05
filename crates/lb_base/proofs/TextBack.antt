-- The text of a dimension stands for the dimension.
use Rattle.std.proofs.Common.{◌≡◌, ◌≢◌, ℕ, ◌+◌, ◌*◌, ◌/◌, ◌%◌, ◌^◌, ◌<◌, zero, suc, false, List, [], ◌∷◌, ◌++◌, arith, refl, sym, ap, take, drop, length, get_or, ◌∙◌, pos, negsuc}
use Rattle.std.specs.Prelude.{map, decimal, neg_ℤ, ◌==◌}
use Rattle.std.specs.Char.{digit_value}
use Rattle.std.specs.List.{before_first, after_first, position_or_len}
use Rattle.std.specs.Int.Digits.{number_from_digits}
use Rattle.std.specs.Str.Parse.{AllDigits}
use Rattle.std.proofs.Math.Seq.{get_or-append_seam, take-append_seam, drop-append-add}
use Rattle.std.proofs.lemmas.Bool.{ne_eqb}
use Rattle.std.proofs.lemmas.Fmt.{decimal_is_IsNumeral}
use Rattle.std.proofs.lemmas.Int.Digits.{digits_value_is}
use Rattle.std.proofs.lemmas.List.{length-append, get_or_append_left}
use Rattle.std.proofs.lemmas.List.Sums.{position_or_len_is}
use Rattle.std.proofs.lemmas.Str.Parse.{digit_from_value}
use Rattle.lb_base.specs.Decimals.{fraction_digits, fraction_from_digits, ascii_digits, magnitude_text, is_point, magnitude_from_text, scaled_text, scaled_from_text}
use Rattle.lb_base.proofs.ReadingBack.{fraction_back, values-fraction_digits}

-- no digit is a point
digits_no_point : (xs : List ℕ) → AllDigits 10 xs → (k : ℕ) → k < length xs → is_point (get_or xs k 0) ≡ false
digits_no_point [] h k below = absurd (omega arith)
digits_no_point (x ∷ xs) h zero below =
    let range = digit_from_value x h.0 in
    let other : x ≢ 46 = λ e. omega arith in
    ne_eqb x 46 other
digits_no_point (x ∷ xs) h (suc k) below = digits_no_point xs h.1 k (omega arith)

point_after : (xs ys : List ℕ) → AllDigits 10 xs → position_or_len is_point (xs ++ 46 ∷ ys) ≡ length xs
point_after xs ys h =
    position_or_len_is is_point (xs ++ 46 ∷ ys) (length xs) 0
    (omega (arith, length-append xs (46 ∷ ys)))
    (λ k below. rw (get_or_append_left xs (46 ∷ ys) 0 k below) (digits_no_point xs h k below))
    (λ _. ap is_point (get_or-append_seam xs 46 ys 0))

before_point : (xs ys : List ℕ) → AllDigits 10 xs → before_first is_point (xs ++ 46 ∷ ys) ≡ xs
before_point xs ys h = ap (λ (n : ℕ). take n (xs ++ 46 ∷ ys)) (point_after xs ys h) ∙ take-append_seam xs (46 ∷ ys)

after_point : (xs ys : List ℕ) → AllDigits 10 xs → after_first is_point (xs ++ 46 ∷ ys) ≡ ys
after_point xs ys h =
    ap (λ (n : ℕ). drop (n + 1) (xs ++ 46 ∷ ys)) (point_after xs ys h) ∙ drop-append-add xs (46 ∷ ys) 1

pub magnitude_back : (n : ℕ) → n < 2 ^ 64 → magnitude_from_text (magnitude_text n) ≡ n
magnitude_back n h =
    let whole : List ℕ = decimal (n / 65536) in
    let digits : List ℕ = fraction_digits (n % 65536) in
    let fits : n / 65536 < 2 ^ 64 = omega arith in
    let small : n % 65536 < 65536 = omega arith in
    let numeral = decimal_is_IsNumeral (n / 65536) fits in
    let front : before_first is_point (magnitude_text n) ≡ whole = before_point whole (ascii_digits digits) numeral.0.1 in
    let back : after_first is_point (magnitude_text n) ≡ ascii_digits digits = after_point whole (ascii_digits digits) numeral.0.1 in
    let points : number_from_digits 10 (map digit_value whole) ≡ n / 65536 = sym (digits_value_is 10 whole) ∙ numeral.1 in
    let read : fraction_from_digits (map digit_value (ascii_digits digits)) ≡ n % 65536 =
    ap fraction_from_digits (values-fraction_digits (n % 65536)) ∙ fraction_back (n % 65536) small in
    let first : number_from_digits 10 (map digit_value (before_first is_point (magnitude_text n))) ≡ n / 65536 =
    ap (λ (xs : List ℕ). number_from_digits 10 (map digit_value xs)) front ∙ points in
    let second : fraction_from_digits (map digit_value (after_first is_point (magnitude_text n))) ≡ n % 65536 =
    ap (λ (xs : List ℕ). fraction_from_digits (map digit_value xs)) back ∙ read in
    ap (λ (k : ℕ). 65536 * k + fraction_from_digits (map digit_value (after_first is_point (magnitude_text n)))) first
    ∙ ap (λ (k : ℕ). 65536 * (n / 65536) + k) second
    ∙ omega arith

-- a text that begins with a digit has no sign
no_sign : (xs ys : List ℕ) → 0 < length xs → AllDigits 10 xs → scaled_from_text (xs ++ ys) ≡ pos (magnitude_from_text (xs ++ ys))
no_sign [] ys some h = absurd (omega arith)
no_sign (x ∷ xs) ys some h =
    let range = digit_from_value x h.0 in
    let other : x ≢ 45 = λ e. omega arith in
    let unsigned : (x == 45) ≡ false = ne_eqb x 45 other in
    rw unsigned refl

pub text_back_pos : (n : ℕ) → n < 2 ^ 64 → scaled_from_text (scaled_text (pos n)) ≡ pos n
text_back_pos n h =
    let fits : n / 65536 < 2 ^ 64 = omega arith in
    let numeral = decimal_is_IsNumeral (n / 65536) fits in
    no_sign (decimal (n / 65536)) (46 ∷ ascii_digits (fraction_digits (n % 65536))) numeral.0.0 numeral.0.1
    ∙ ap pos (magnitude_back n h)

pub text_back_negsuc : (n : ℕ) → suc n < 2 ^ 64 → scaled_from_text (scaled_text (negsuc n)) ≡ negsuc n
text_back_negsuc n h = ap (λ (size : ℕ). neg_ℤ (pos size)) (magnitude_back (suc n) h)
