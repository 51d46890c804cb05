-- What is true of each mark of a page.
use Rattle.std.proofs.Common.{◌≡◌, ℕ, suc, ◌+◌, ◌-◌, ◌*◌, ◌/◌, ◌<◌, ◌≤◌, ◌^◌, Bool, true, false, List, [], ◌∷◌, ◌++◌, length, refl, ap, sym, subst, ◌∙◌, arith, zero-add, sum_by, pos, decimal, filter, not, ◌==◌, if◌then◌else◌, length-append, lit≤}
use Rattle.std.specs.List.{AllByRecursion, list_all}
use Rattle.std.proofs.lemmas.Bool.{and_parts, and_from, leb-true}
use Rattle.std.proofs.lemmas.List.Sums.{sum_by-append}
use Rattle.std.proofs.lemmas.Fmt.{length-decimal-le}
use Rattle.std.proofs.lemmas.Int.{ints}
use Rattle.lb_base.specs.declared.page.Mark.{Mark}
use Rattle.lb_base.specs.declared.page.Mark.TheVariants.{Char}
use Rattle.lb_model_paper.specs.Dvi.{IsSmall, IsSmallMark}
use Rattle.lb_model.specs.Lines.{lines_of, is_empty}
use Rattle.lb_model_book.specs.PlainForm.{is_plain_text, is_plain_line, lines_with_text}
use Rattle.lb_model_book.specs.PlainPages.{roman, advance, row_marks, line_marks, lines_marks, number_marks}
use Rattle.lb_plain.specs.Marks.{IsRoman}

-- at most so many marks, that are characters of the test font and stand in small places
pub record IsDrawn (most : ℕ) (marks : List Mark) : Type 0 where
  pub small : AllByRecursion IsSmallMark marks
  pub roman : AllByRecursion IsRoman marks
  pub few : length marks ≤ most

all-append : (P : Mark → Type 0) (xs ys : List Mark) → AllByRecursion P xs → AllByRecursion P ys → AllByRecursion P (xs ++ ys)
all-append P [] ys a b = b
all-append P (x ∷ xs) ys a b = (a.0, all-append P xs ys a.1 b)

none : IsDrawn 0 []
none = record { small = tt; roman = tt; few = lit≤ tt }

both : (m n : ℕ) (xs ys : List Mark) → IsDrawn m xs → IsDrawn n ys → IsDrawn (m + n) (xs ++ ys)
both m n xs ys a b = record {
  small = all-append IsSmallMark xs ys a.small b.small;
  roman = all-append IsRoman xs ys a.roman b.roman;
  few = omega (arith, length-append xs ys, a.few, b.few);
}

wider : (m n : ℕ) (xs : List Mark) → m ≤ n → IsDrawn m xs → IsDrawn n xs
wider m n xs h a = record { small = a.small; roman = a.roman; few = omega (arith, a.few) }

small-pos : (n : ℕ) → n ≤ 1073741823 → IsSmall (pos n)
small-pos n h = record { low = omega (arith, ints); high = omega (arith, ints) }

character : (h v c : ℕ) (b : Bool) → h + 327680 ≤ 1073741823 → v ≤ 1073741823 → IsDrawn 1 (if b then [] else Char (pos h) (pos v) roman c (pos 327680) ∷ [])
character h v c true right low = wider 0 1 [] (lit≤ tt) none
character h v c false right low = record {
  small = (record { left = small-pos h (omega arith); baseline = small-pos v low; right = small-pos (h + 327680) right; name = lit≤ tt }, tt);
  roman = (refl, tt);
  few = lit≤ tt;
}

narrow : (c : ℕ) (b : Bool) → (if b then 196608 else 327680) ≤ 327680
narrow c true = lit≤ tt
narrow c false = lit≤ tt

-- so far into a row, and so much left to its right end
row : (start v limit : ℕ) (before row : List ℕ) → start + sum_by advance before + 327680 * length row ≤ limit → limit ≤ 1073741823 → v ≤ 1073741823 → IsDrawn (length row) (row_marks start v before row)
unfolding row_marks
row start v limit before [] within small low = none
row start v limit before (c ∷ rest) within small low =
    let sums : sum_by advance (before ++ c ∷ []) ≡ sum_by advance before + advance c = sum_by-append advance before (c ∷ []) ∙ ap (λ x. sum_by advance before + x) (zero-add (advance c)) in
    let wide : advance c ≤ 327680 = narrow c (c == 32) in
    let here : start + sum_by advance before + 327680 ≤ 1073741823 = omega arith in
    let next : start + sum_by advance (before ++ c ∷ []) + 327680 * length rest ≤ limit = omega (arith, sums, wide) in
    wider (1 + length rest) (suc (length rest)) _ (omega arith) (both 1 (length rest) _ _ (character (start + sum_by advance before) v c (c == 32) here low) (row start v limit (before ++ c ∷ []) rest next small low))

lines : (m : ℕ) (ls : List (List ℕ)) → m + length ls ≤ 40 → list_all is_plain_line ls ≡ true → IsDrawn (60 * length ls) (lines_marks m ls)
unfolding lines_marks
lines m [] few plain = wider 0 (60 * 0) [] (omega arith) none
lines m (l ∷ ls) few plain =
    let p = and_parts (is_plain_line l) (list_all is_plain_line ls) plain in
    let q = and_parts _ _ p.0 in
    let short : length l ≤ 60 = leb-true (length l) 60 q.0 in
    let one : IsDrawn (length l) (line_marks m l) = row 983040 (2621440 + 786432 * m) 1073741823 [] l (omega arith) (omega arith) (omega arith) in
    wider (length l + 60 * length ls) (60 * suc (length ls)) _ (omega arith) (both (length l) (60 * length ls) _ _ one (lines (m + 1) ls (omega arith) p.1))

kept : (p q : List ℕ → Bool) (ls : List (List ℕ)) → list_all p ls ≡ true → list_all p (filter q ls) ≡ true
kept p q [] h = refl
kept p q (l ∷ ls) h = let a = and_parts (p l) (list_all p ls) h in one (q l) (kept p q ls a.1) a.0 where
  one : (b : Bool) → list_all p (filter q ls) ≡ true → p l ≡ true → list_all p (if b then l ∷ filter q ls else filter q ls) ≡ true
  one true rest here = and_from (p l) (list_all p (filter q ls)) here rest
  one false rest here = rest

number : (n : ℕ) → n < 2 ^ 31 → IsDrawn 10 (number_marks n)
number n h =
    let short : length (decimal n) ≤ 10 = length-decimal-le 10 n (lit≤ tt) (omega arith) (omega arith) in
    wider (length (decimal n)) 10 _ short (row ((22609920 - 327680 * length (decimal n)) / 2) 38862848 1073741823 [] (decimal n) (omega arith) (omega arith) (omega arith))

pub drawn : (text : List ℕ) (n : ℕ) → is_plain_text text ≡ true → n < 2 ^ 31 → IsDrawn 2410 (lines_marks 0 (lines_with_text text) ++ number_marks n)
unfolding lines_with_text
drawn text n plain h =
    let a = and_parts _ _ plain in
    let b = and_parts _ _ a.1 in
    let few : length (lines_with_text text) ≤ 40 = leb-true (length (lines_with_text text)) 40 a.0 in
    let of_lines : IsDrawn (60 * length (lines_with_text text)) (lines_marks 0 (lines_with_text text)) = lines 0 (lines_with_text text) (omega arith) (kept is_plain_line (λ line. not (is_empty line)) (lines_of text) b.0) in
    wider (60 * length (lines_with_text text) + 10) 2410 _ (omega arith) (both (60 * length (lines_with_text text)) 10 _ _ of_lines (number n h))

pub decimal-short : (n : ℕ) (row : List ℕ) → n < 2 ^ 32 → row ≡ decimal n → length row ≤ 10
decimal-short n row h e = let short : length (decimal n) ≤ 10 = length-decimal-le 10 n (lit≤ tt) (omega arith) (omega arith) in subst (λ (l : List ℕ). length l ≤ 10) (sym e) short
