-- The names of a book in the built form.
use Rattle.std.proofs.Common.{◌≡◌, ℕ, ◌≤◌, Bool, true, false, ◌&&◌, List, [], ◌∷◌, length, Option, Some, None, refl, subst}
use Rattle.std.specs.Prelude.{IsTrue, nat_le, not}
use Rattle.std.specs.List.{list_all, AllByRecursion}
use Rattle.std.specs.FinMap.{get, entries}
use Rattle.std.proofs.lemmas.Bool.{leb-true}
use Rattle.lb_model.specs.declared.world.World.{World}
use Rattle.lb_model.specs.Lines.{lines_of}
use Rattle.lb_model_book.specs.PlainForm.{tex_file, names_of_main, plain_names, names_in_text, names_if_plain, is_plain_book, is_plain_chapter, are_distinct, is_among, has_test_font, is_labelled}

first : (a b : Bool) → a && b ≡ true → a ≡ true
first true b both = refl
first false b both = cc

second : (a b : Bool) → a && b ≡ true → b ≡ true
second true b both = both
second false b both = cc

all_pass : {X : Type 0} (p : X → Bool) (xs : List X) → list_all p xs ≡ true → AllByRecursion (λ x. IsTrue (p x)) xs
all_pass p [] all = tt
all_pass p (x ∷ xs) all = (first (p x) (list_all p xs) all, all_pass p xs (second (p x) (list_all p xs) all))

-- what the crate knows of a book in the built form
pub record IsKnown (world : World) (names : List (List ℕ)) : Type 0 where
  pub few : length names ≤ 1000
  pub plain : AllByRecursion (λ name. IsTrue (is_plain_chapter world name)) names

ends : (a b c d e f : Bool) → a && (b && (c && (d && (e && f)))) ≡ true → (a ≡ true) × (f ≡ true)
ends a b c d e f is =
    let rest : (b && (c && (d && (e && f)))) ≡ true = second a (b && (c && (d && (e && f)))) is in
    (first a (b && (c && (d && (e && f)))) is, second e f (second d (e && f) (second c (d && (e && f)) (second b (c && (d && (e && f))) rest))))

known_book : (world : World) (names : List (List ℕ)) → is_plain_book world names ≡ true → IsKnown world names
known_book world names is =
    let parts = ends (nat_le (length names) 1000) (are_distinct names) (not (is_among world.main names)) (has_test_font world) (list_all (λ (file : List ℕ × List ℕ). not (is_labelled file)) (entries world.files)) (list_all (is_plain_chapter world) names) is in
    record { few = leb-true (length names) 1000 parts.0; plain = all_pass (is_plain_chapter world) names parts.1 }

chosen : (world : World) (found names : List (List ℕ)) (b : Bool) → is_plain_book world found ≡ b → names_if_plain world (Some found) ≡ Some names → IsKnown world names
chosen world found names true is same =
    let these : Some found ≡ Some names = rw is at same in
    let equal : found ≡ names = cc in
    subst (IsKnown world) equal (known_book world found is)
chosen world found names false is same =
    let none : ◌≡◌ {A = Option (List (List ℕ))} None (Some names) = rw is at same in
    absurd (cc)

from_main : (world : World) (names : List (List ℕ)) (found : Option (List (List ℕ))) → names_if_plain world found ≡ Some names → IsKnown world names
from_main world names None same = absurd (cc)
from_main world names (Some found) same = chosen world found names (is_plain_book world found) refl same

from_text : (world : World) (names : List (List ℕ)) (text : Option (List ℕ)) → names_in_text world text ≡ Some names → IsKnown world names
from_text world names None same = absurd (cc)
from_text world names (Some text) same = from_main world names (names_of_main (lines_of text)) same

pub known_names : (world : World) (names : List (List ℕ)) → plain_names world ≡ Some names → IsKnown world names
unfolding plain_names
known_names world names same = from_text world names (get world.files (tex_file world.main)) same
