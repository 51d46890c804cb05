-- What a map has after the files of the first names were put into it.
use Rattle.std.proofs.Common.{◌≡◌, ℕ, ◌+◌, ◌<◌, Bool, true, false, cond, ◌||◌, ◌&&◌, IsTrue, List, [], ◌∷◌, ◌++◌, length, take, drop, get_or, Option, None, Some, IfSome, IsPermutation, refl, sym, ◌∙◌, ap, subst, suc, add-one, arith}
use Rattle.std.specs.Option.{is_some}
use Rattle.std.specs.List.{list_any}
use Rattle.std.specs.Ordering.{eq_by_cmp, is_eq}
use Rattle.std.specs.declared.cmp.Ordering.{Ordering}
use Rattle.std.specs.declared.cmp.Ordering.TheVariants.{Less, Equal, Greater}
use Rattle.std.specs.Cmp.Lexicographic.{nat_list_cmp_total}
use Rattle.std.specs.FinMap as map
use Rattle.std.specs.FinMap.{same_map, get-empty, get-insert, get-retain_keys, contains_key-keys, slice_cmp-IsAntisymmetric, nat_cmp-IsAntisymmetric}
use Rattle.std.proofs.lemmas.List.Sorted.{list_any-IsPermutation, IsPermutation-trans}
use Rattle.std.proofs.lemmas.List.Folds.{list_any-append}
use Rattle.std.proofs.lemmas.List.{take-append-drop, take_all}
use Rattle.std.proofs.lemmas.Cmp.{eq_by_cmp_equiv}
use Rattle.std.proofs.Math.Seq.{take-suc}
use Rattle.lb_model.specs.Files.{Files, name_cmp, is_book_file, book_files}

abbrev pub is_at : List ℕ → List ℕ → Bool
is_at = eq_by_cmp name_cmp

-- the names of the files, where they are told
abbrev pub Listed : Option Files → List (List ℕ) → Type 0
Listed contents names = IfSome contents (λ told. IsPermutation (map.keys told) names)

-- the book files among these names, with their bytes where they are told
abbrev pub Loaded : Option Files → List (List ℕ) → Files → Type 0
Loaded contents names files = IfSome contents (λ told. (q : List ℕ) → map.get files q ≡ cond (is_book_file q && list_any (is_at q) names) (map.get told q) None)

equal_from_is_eq : (r : Ordering) → is_eq r ≡ true → r ≡ Equal
equal_from_is_eq Less e = cc
equal_from_is_eq Equal e = refl
equal_from_is_eq Greater e = cc

name_cmp_exact : (x y : List ℕ) → name_cmp x y ≡ Equal → x ≡ y
name_cmp_exact = slice_cmp-IsAntisymmetric nat_cmp-IsAntisymmetric

same_name : (q name : List ℕ) → is_at q name ≡ true → q ≡ name
same_name q name e = name_cmp_exact q name (equal_from_is_eq (name_cmp q name) e)

none_but_listed : (b : Bool) (x : Option (List ℕ)) → None ≡ cond (b && false) x None
none_but_listed true x = refl
none_but_listed false x = refl

pub listed_sorted : (contents : Option Files) (xs ys : List (List ℕ)) → Listed contents xs → IsPermutation xs ys → Listed contents ys
listed_sorted None xs ys h p = tt
listed_sorted (Some told) xs ys h p = IsPermutation-trans (map.keys told) xs ys h p

pub loaded_none : (contents : Option Files) → Loaded contents [] map.empty
loaded_none None = tt
loaded_none (Some told) = λ q. get-empty name_cmp q ∙ none_but_listed (is_book_file q) (map.get told q)

passed_over : (book a e : Bool) (x y : Option (List ℕ)) → y ≡ cond (book && a) x None → (e ≡ true → book ≡ false) → y ≡ cond (book && (a || (e || false))) x None
passed_over false a e x y h tied = h
passed_over true true e x y h tied = h
passed_over true false false x y h tied = h
passed_over true false true x y h tied = let no : true ≡ false = tied refl in cc

put_in : (book a e : Bool) (v : List ℕ) (x y z : Option (List ℕ)) → z ≡ cond e (Some v) y → y ≡ cond (book && a) x None → (e ≡ true → (book ≡ true) × (x ≡ Some v)) → z ≡ cond (book && (a || (e || false))) x None
put_in false a true v x y z hz hy tied = let no : false ≡ true = (tied refl).0 in cc
put_in false a false v x y z hz hy tied = hz ∙ hy
put_in true true true v x y z hz hy tied = hz ∙ sym (tied refl).1
put_in true true false v x y z hz hy tied = hz ∙ hy
put_in true false true v x y z hz hy tied = hz ∙ sym (tied refl).1
put_in true false false v x y z hz hy tied = hz ∙ hy

or_right : (a b : Bool) → b ≡ true → (a || b) ≡ true
or_right true b e = refl
or_right false b e = e

or_left : (a b : Bool) → a ≡ true → (a || b) ≡ true
or_left true b e = refl
or_left false b e = let no : false ≡ true = e in cc

-- the name at an index is among the names
listed_at : (names : List (List ℕ)) (i : ℕ) (name : List ℕ) → i < length names → name ≡ get_or names i name → list_any (is_at name) names ≡ true
listed_at names i name h e =
    let itself : is_at name name ≡ true = (eq_by_cmp_equiv nat_list_cmp_total).refl name in
    let here : list_any (is_at name) (get_or names i name ∷ []) ≡ true = ap (λ n. list_any (is_at name) (n ∷ [])) (sym e) ∙ or_left (is_at name name) false itself in
    let upto : list_any (is_at name) (take (suc i) names) ≡ true = ap (list_any (is_at name)) (take-suc names i name h) ∙ list_any-append (is_at name) (take i names) (get_or names i name ∷ []) ∙ or_right (list_any (is_at name) (take i names)) _ here in
    ap (list_any (is_at name)) (sym (take-append-drop (suc i) names)) ∙ list_any-append (is_at name) (take (suc i) names) (drop (suc i) names) ∙ or_left _ _ upto

-- a name that is listed is that of a file
told_at : (told : Files) (names : List (List ℕ)) (i : ℕ) (name : List ℕ) → IsPermutation (map.keys told) names → i < length names → name ≡ get_or names i name → is_some (map.get told name) ≡ true
told_at told names i name p h e = contains_key-keys told name ∙ list_any-IsPermutation (is_at name) (map.keys told) names p ∙ listed_at names i name h e

-- the turn of one name, at another name q
turn_at : (told before after : Files) (seen : List (List ℕ)) (name q : List ℕ) (book : Bool) (x : Option (List ℕ)) → is_book_file name ≡ book → map.get told name ≡ x → is_some x ≡ true → (IsTrue book → IfSome x (λ content. after ≡ map.insert before name content)) → (book ≡ false → after ≡ before) → map.get before q ≡ cond (is_book_file q && list_any (is_at q) seen) (map.get told q) None → map.get after q ≡ cond (is_book_file q && (list_any (is_at q) seen || (is_at q name || false))) (map.get told q) None
turn_at told before after seen name q book None is_book is_x some put same old = let no : false ≡ true = some in cc
turn_at told before after seen name q false (Some v) is_book is_x some put same old =
    passed_over (is_book_file q) (list_any (is_at q) seen) (is_at q name) (map.get told q) (map.get after q) (ap (λ m. map.get m q) (same refl) ∙ old) (λ e. ap is_book_file (same_name q name e) ∙ is_book)
turn_at told before after seen name q true (Some v) is_book is_x some put same old =
    put_in (is_book_file q) (list_any (is_at q) seen) (is_at q name) v (map.get told q) (map.get before q) (map.get after q)
    (ap (λ m. map.get m q) (put refl) ∙ get-insert nat_list_cmp_total before name v q)
    old
    (λ e. (ap is_book_file (same_name q name e) ∙ is_book, ap (map.get told) (same_name q name e) ∙ is_x))

pub loaded_more : (contents : Option Files) (names : List (List ℕ)) (i : ℕ) (name : List ℕ) (before after : Files) → i < length names → name ≡ get_or names i name → Listed contents names → (IsTrue (is_book_file name) → IfSome contents (λ told. IfSome (map.get told name) (λ content. after ≡ map.insert before name content))) → (is_book_file name ≡ false → after ≡ before) → Loaded contents (take i names) before → Loaded contents (take (i + 1) names) after
loaded_more None names i name before after h e listed put same loaded = tt
loaded_more (Some told) names i name before after h e listed put same loaded = λ q.
    let more : take (i + 1) names ≡ take i names ++ name ∷ [] = ap (λ n. take n names) (add-one i) ∙ take-suc names i name h ∙ ap (λ n. take i names ++ n ∷ []) (sym e) in
    let seen : list_any (is_at q) (take (i + 1) names) ≡ (list_any (is_at q) (take i names) || (is_at q name || false)) = ap (list_any (is_at q)) more ∙ list_any-append (is_at q) (take i names) (name ∷ []) in
    turn_at told before after (take i names) name q (is_book_file name) (map.get told name) refl refl (told_at told names i name listed h e) put same (loaded q)
    ∙ ap (λ b. cond (is_book_file q && b) (map.get told q) None) (sym seen)

-- the same, where the folder's files are those that were told at first
pub loaded_turn : (now contents : Option Files) → now ≡ contents → (names : List (List ℕ)) (i : ℕ) (name : List ℕ) (before after : Files) → i < length names → name ≡ get_or names i name → Listed contents names → (IsTrue (is_book_file name) → IfSome now (λ told. IfSome (map.get told name) (λ content. after ≡ map.insert before name content))) → (is_book_file name ≡ false → after ≡ before) → Loaded contents (take i names) before → Loaded contents (take (i + 1) names) after
loaded_turn now contents e names i name before after h is listed put same loaded =
    let Put : Option Files → Type 0 = λ o. IfSome o (λ told. IfSome (map.get told name) (λ content. after ≡ map.insert before name content)) in
    loaded_more contents names i name before after h is listed (λ book. subst Put e (put book)) same loaded

all_listed : (book a : Bool) (x : Option (List ℕ)) → is_some x ≡ a → cond (book && a) x None ≡ cond book x None
all_listed false a x e = refl
all_listed true true x e = refl
all_listed true false None e = refl
all_listed true false (Some v) e = let no : true ≡ false = e in cc

pub loaded_all : (contents : Option Files) (names : List (List ℕ)) (n : ℕ) (files : Files) → length names ≡ n → Listed contents names → Loaded contents (take n names) files → IfSome contents (λ told. files ≡ book_files told)
loaded_all None names n files e listed loaded = tt
loaded_all (Some told) names n files e listed loaded =
    same_map nat_list_cmp_total name_cmp_exact files (book_files told) (λ q.
    let whole : take n names ≡ names = take_all n names (omega arith) in
    let among : is_some (map.get told q) ≡ list_any (is_at q) (take n names) = contains_key-keys told q ∙ list_any-IsPermutation (is_at q) (map.keys told) names listed ∙ ap (list_any (is_at q)) (sym whole) in
    loaded q ∙ all_listed (is_book_file q) (list_any (is_at q) (take n names)) (map.get told q) among
    ∙ sym (get-retain_keys told is_book_file q (λ x t. ap is_book_file (sym (name_cmp_exact q x t)))))
