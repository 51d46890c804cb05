-- Parts of texts, lists of names, and lists of files.
use Rattle.std.proofs.Common.{◌≡◌, ℕ, suc, ◌+◌, ◌-◌, ◌<◌, ◌≤◌, Bool, true, false, List, [], ◌∷◌, length, take, drop, get_or, refl, ap, sym, ◌∙◌, add-one, drop-cons, nat_eq, nat_le, ◌&&◌, ◌||◌, not}
use Rattle.std.specs.List.{starts_with, list_any, list_all}
use Rattle.std.specs.FinMap.{entries}
use Rattle.std.proofs.lemmas.List.{take_rest, drop_all}
use Rattle.lb_model.specs.declared.world.World.{World}
use Rattle.lb_model_book.specs.PlainForm.{has_part, are_distinct, is_among, is_labelled, is_plain_book, is_plain_chapter, has_test_font}
use Rattle.lb_plain.specs.Parts.{are_good_names}

at : (part text : List ℕ) (i : ℕ) → i < length text → has_part part (drop i text) ≡ (starts_with nat_eq (drop i text) part || has_part part (drop (i + 1) text))
unfolding has_part
at part text i inside =
    ap (has_part part) (drop-cons text i 0 inside)
    ∙ ap (λ t. starts_with nat_eq t part || has_part part (drop (suc i) text)) (sym (drop-cons text i 0 inside))
    ∙ ap (λ n. starts_with nat_eq (drop i text) part || has_part part (drop n text)) (sym (add-one i))

pub part-found : (part text : List ℕ) (i : ℕ) (b : Bool) → i < length text → b ≡ starts_with nat_eq (take (length text - i) (drop i text)) part → b ≡ true → true ≡ has_part part (drop i text)
part-found part text i b inside e h =
    sym (at part text i inside ∙ ap (λ t. t || has_part part (drop (i + 1) text)) (sym (ap (λ t. starts_with nat_eq t part) (take_rest text i)) ∙ sym e ∙ h))

pub part-more : (part text : List ℕ) (i : ℕ) (b : Bool) → i < length text → b ≡ starts_with nat_eq (take (length text - i) (drop i text)) part → b ≡ false → has_part part (drop (i + 1) text) ≡ has_part part (drop i text)
part-more part text i b inside e h =
    sym (at part text i inside ∙ ap (λ t. t || has_part part (drop (i + 1) text)) (sym (ap (λ t. starts_with nat_eq t part) (take_rest text i)) ∙ sym e ∙ h))

pub part-none : (part text : List ℕ) (i : ℕ) → length text ≤ i → false ≡ has_part part (drop i text)
unfolding has_part
part-none part text i past = sym (ap (has_part part) (drop_all i text past))

apart : (names : List (List ℕ)) (i : ℕ) (name : List ℕ) → i < length names → name ≡ get_or names i name → are_distinct (drop i names) ≡ (not (is_among name (drop (i + 1) names)) && are_distinct (drop (i + 1) names))
unfolding are_distinct
apart names i name inside e =
    ap are_distinct (drop-cons names i name inside)
    ∙ ap (λ x. not (is_among x (drop (suc i) names)) && are_distinct (drop (suc i) names)) (sym e)
    ∙ ap (λ n. not (is_among name (drop n names)) && are_distinct (drop n names)) (sym (add-one i))

pub distinct-none : (names : List (List ℕ)) (i : ℕ) → length names ≤ i → true ≡ are_distinct (drop i names)
unfolding are_distinct
distinct-none names i past = sym (ap are_distinct (drop_all i names past))

module _ (names : List (List ℕ)) (i : ℕ) (name : List ℕ) (inside : i < length names) (e : name ≡ get_or names i name) (b : Bool) (is : b ≡ is_among name (take (length names - (i + 1)) (drop (i + 1) names))) where
  among : b ≡ is_among name (drop (i + 1) names)
  among = is ∙ ap (is_among name) (take_rest names (i + 1))

  pub distinct-stop : b ≡ true → false ≡ are_distinct (drop i names)
  distinct-stop h = sym (apart names i name inside e ∙ ap (λ t. not t && are_distinct (drop (i + 1) names)) (sym among ∙ h))

  pub distinct-more : b ≡ false → are_distinct (drop (i + 1) names) ≡ are_distinct (drop i names)
  distinct-more h = sym (apart names i name inside e ∙ ap (λ t. not t && are_distinct (drop (i + 1) names)) (sym among ∙ h))

any-all : {X : Type 0} (p : X → Bool) (xs : List X) → list_all (λ x. not (p x)) xs ≡ not (list_any p xs)
any-all p [] = refl
any-all p (x ∷ xs) = ap (λ b. not (p x) && b) (any-all p xs) ∙ both (p x) (list_any p xs) where
  both : (a b : Bool) → (not a && not b) ≡ not (a || b)
  both true b = refl
  both false b = refl

-- the five tests of a plain book, taken in order
book : (n d m f l c : Bool) → (n && (d && (m && (f && (not l && c))))) ≡ ((n && (d && m)) && (f && (not l && c)))
book true true true f l c = refl
book true true false f l c = refl
book true false m f l c = refl
book false d m f l c = refl

pub book-parts : (world : World) (names : List (List ℕ)) → is_plain_book world names ≡ (are_good_names world.main names && (has_test_font world && (not (list_any is_labelled (entries world.files)) && list_all (is_plain_chapter world) names)))
book-parts world names =
    ap (λ l. nat_le (length names) 1000 && (are_distinct names && (not (is_among world.main names) && (has_test_font world && (l && list_all (is_plain_chapter world) names))))) (any-all is_labelled (entries world.files))
    ∙ book (nat_le (length names) 1000) (are_distinct names) (not (is_among world.main names)) (has_test_font world) (list_any is_labelled (entries world.files)) (list_all (is_plain_chapter world) names)

pub book-labelled : (world : World) (names : List (List ℕ)) → are_good_names world.main names ≡ true → has_test_font world ≡ true → list_any is_labelled (entries world.files) ≡ true → false ≡ is_plain_book world names
book-labelled world names good font labelled =
    sym (
    book-parts world names
    ∙ ap (λ b. b && (has_test_font world && (not (list_any is_labelled (entries world.files)) && list_all (is_plain_chapter world) names))) good
    ∙ ap (λ b. b && (not (list_any is_labelled (entries world.files)) && list_all (is_plain_chapter world) names)) font
    ∙ ap (λ b. not b && list_all (is_plain_chapter world) names) labelled
    )

pub book-clear : (world : World) (names : List (List ℕ)) → are_good_names world.main names ≡ true → has_test_font world ≡ true → list_any is_labelled (entries world.files) ≡ false
    → list_all (is_plain_chapter world) names ≡ is_plain_book world names
book-clear world names good font clear =
    sym (
    book-parts world names
    ∙ ap (λ b. b && (has_test_font world && (not (list_any is_labelled (entries world.files)) && list_all (is_plain_chapter world) names))) good
    ∙ ap (λ b. b && (not (list_any is_labelled (entries world.files)) && list_all (is_plain_chapter world) names)) font
    ∙ ap (λ b. not b && list_all (is_plain_chapter world) names) clear
    )
