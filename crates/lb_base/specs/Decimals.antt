-- Decimal fractions of a point, and dimensions as text. A fraction is a number of scaled points, 65536ths of a point, that
-- is below 65536.
use Rattle.std.specs.Prelude.{ℕ, zero, suc, ℤ, pos, negsuc, neg_ℤ, ◌+◌, ◌*◌, ◌/◌, ◌%◌, ◌^◌, ◌==◌, Bool, if◌then◌else◌, List, [], ◌∷◌, ◌++◌, length, map, decimal}
use Rattle.std.specs.Char.{digit_value}
use Rattle.std.specs.List.{before_first, after_first}
use Rattle.std.specs.Int.Digits.{number_from_digits}

-- ---- A decimal that is read (tex.web, section 102: the result is correctly rounded)

-- the fraction nearest to the decimal of this many places whose digits make the number d, halves up
abbrev pub nearest_fraction : ℕ → ℕ → ℕ
nearest_fraction places d = (131072 * d + 10 ^ places) / (2 * 10 ^ places)

-- the same of the digits
abbrev pub fraction_from_digits : List ℕ → ℕ
fraction_from_digits digits = nearest_fraction (length digits) (number_from_digits 10 digits)

-- ---- A fraction that is written (tex.web, section 103): in the shortest decimal that is read as the fraction again, and of
-- those in the nearest

-- the decimal of this many places that is nearest to a fraction, halves up, as the number that its digits make
abbrev pub nearest_decimal : ℕ → ℕ → ℕ
nearest_decimal places fraction = (10 ^ places * fraction + 32768) / 65536

-- whether that decimal is read as the fraction again
abbrev pub reads_back : ℕ → ℕ → Bool
reads_back places fraction = nearest_fraction places (nearest_decimal places fraction) == fraction

-- the fewest places at which it is, and at least one; at five places it always is
unfoldable pub places_of : ℕ → ℕ
places_of fraction =
    if reads_back 1 fraction then 1
    else (if reads_back 2 fraction then 2
    else (if reads_back 3 fraction then 3
    else (if reads_back 4 fraction then 4 else 5)))

-- the last k digits of a number
unfoldable pub last_digits : ℕ → ℕ → List ℕ
last_digits zero n = []
last_digits (suc k) n = last_digits k (n / 10) ++ (n % 10) ∷ []

-- the digits that are written behind the point
unfoldable pub fraction_digits : ℕ → List ℕ
fraction_digits fraction = last_digits (places_of fraction) (nearest_decimal (places_of fraction) fraction)

-- ---- Texts

-- digits in ASCII
abbrev pub ascii_digits : List ℕ → List ℕ
ascii_digits digits = map (λ d. 48 + d) digits

-- a dimension that is not negative: whole points, a point and the digits of the fraction
abbrev pub magnitude_text : ℕ → List ℕ
magnitude_text size = decimal (size / 65536) ++ 46 ∷ ascii_digits (fraction_digits (size % 65536))

-- a dimension in points, without its unit
abbrev pub scaled_text : ℤ → List ℕ
scaled_text (pos size) = magnitude_text size
scaled_text (negsuc less) = 45 ∷ magnitude_text (suc less)

-- ---- What a text stands for that is a sign or none, digits, a point and digits

abbrev pub is_point : ℕ → Bool
is_point byte = byte == 46

abbrev pub magnitude_from_text : List ℕ → ℕ
magnitude_from_text text =
    65536 * number_from_digits 10 (map digit_value (before_first is_point text))
    + fraction_from_digits (map digit_value (after_first is_point text))

abbrev pub scaled_from_text : List ℕ → ℤ
scaled_from_text [] = pos 0
scaled_from_text (first ∷ rest) =
    if first == 45 then neg_ℤ (pos (magnitude_from_text rest)) else pos (magnitude_from_text (first ∷ rest))
