-- What is read of units, by their table.
use Rattle.std.proofs.Common.{◌≡◌, ◌∙◌, ◌++◌, Bool, true, false, ℕ, List, [], ◌∷◌, refl, ap, sym, subst}
use Rattle.std.specs.Prelude.{if◌then◌else◌, ◌==◌, ◌&&◌}
use Rattle.std.proofs.lemmas.Bool.{eq-eqb, eqb-true}
use Rattle.lb_base.specs.declared.token.Category.TheVariants as category
use Rattle.lb_base.specs.declared.token.Tok.{Tok}
use Rattle.lb_base.specs.declared.token.Tok.TheVariants.{Char, Word, Active, Param}
use Rattle.lb_model_grammar.specs.declared.given.Given.{Given}
use Rattle.lb_model_grammar.specs.declared.given.Given.TheVariants.{Tok as AToken, Quantity as AQuantity, End}
use Rattle.lb_model_grammar.specs.declared.given.Quantity.{Quantity as Quantities}
use Rattle.lb_model_grammar.specs.declared.given.Scanned.{Scanned}
use Rattle.lb_model_grammar.specs.declared.given.Want.TheVariants as want
use Rattle.lb_model_grammar.specs.Dimensions.{Unit_of}
use Rattle.lb_model_grammar.specs.LengthGrammar.{Grammar, OneOf}
use Rattle.lb_model_grammar.specs.LengthGrammar.OneOf.{here, there}
use Rattle.lb_model_grammar.specs.Scans.{Meant, is_letter, letters, lower, one_of}
use Rattle.lb_model_grammar.specs.Scans.Meant.{Open}
use Rattle.lb_model_grammar.specs.WordGrammar.{Letters}
use Rattle.lb_model_grammar.specs.WordGrammar.Letters.{ended, letter}
use Rattle.lb_model_grammar.specs.Written.{ReadsOr, Worth}
use Rattle.lb_model_grammar.specs.Written.Answers.{expanded}
use Rattle.lb_model_grammar.specs.Written.ReadsOr.{reads}
use Rattle.lb_model_grammar.proofs.ReadingSteps.{reads-or-among, reads-or-behind, reads-or-equal}
use Rattle.lb_model_grammar.proofs.WordReading.{behind-letter, letters-spelled, no-letters, none-left, spelled}

-- ---- How a list stands to a word

-- its letters stand first, and this behind them
pub data Front : List ℕ → List Given → List Given → Type 0 where
  done : {given : List Given} → Front [] given given
  also : {c : ℕ} {word : List ℕ} {t : Tok} {given rest : List Given} → is_letter c t ≡ true → Front word given rest
      → Front (c ∷ word) (AToken t ∷ given) rest

-- all of the list are its letters, and these are left
pub data Left : List ℕ → List Given → List ℕ → Type 0 where
  all_left : {word : List ℕ} → Left word [] word
  also : {c : ℕ} {word left : List ℕ} {t : Tok} {given : List Given} → is_letter c t ≡ true → Left word given left
      → Left (c ∷ word) (AToken t ∷ given) left

-- another thing stands in place of a letter
pub data Differs : List ℕ → List Given → Type 0 where
  token : {c : ℕ} {word : List ℕ} {t : Tok} {given : List Given} → is_letter c t ≡ false → Differs (c ∷ word) (AToken t ∷ given)
  quantity : {c : ℕ} {word : List ℕ} {q : Quantities} {given : List Given} → Differs (c ∷ word) (AQuantity q ∷ given)
  end : {c : ℕ} {word : List ℕ} {given : List Given} → Differs (c ∷ word) (End ∷ given)
  also : {c : ℕ} {word : List ℕ} {t : Tok} {given : List Given} → is_letter c t ≡ true → Differs word given → Differs (c ∷ word) (AToken t ∷ given)

pub data Fate (word : List ℕ) (given : List Given) : Type 0 where
  short : (c : ℕ) (left : List ℕ) → Left word given (c ∷ left)
      → ((f : List Given → Meant Scanned) (m : Meant Scanned) → letters word f m given ≡ Open want.Expanded) → Fate word given
  whole : (rest : List Given) → Front word given rest → ((f : List Given → Meant Scanned) (m : Meant Scanned) → letters word f m given ≡ f rest)
      → Fate word given
  differs : Differs word given → ((f : List Given → Meant Scanned) (m : Meant Scanned) → letters word f m given ≡ m) → Fate word given

fate-also : (c : ℕ) (word : List ℕ) (t : Tok) (given : List Given) → is_letter c t ≡ true → Fate word given → Fate (c ∷ word) (AToken t ∷ given)
fate-also c word t given e (short d left l s) = short d left (also e l) (λ f m. ap (λ (b : Bool). if b then letters word f m given else m) e ∙ s f m)
fate-also c word t given e (whole rest l s) = whole rest (also e l) (λ f m. ap (λ (b : Bool). if b then letters word f m given else m) e ∙ s f m)
fate-also c word t given e (differs l s) = differs (also e l) (λ f m. ap (λ (b : Bool). if b then letters word f m given else m) e ∙ s f m)

fate-at : (c : ℕ) (word : List ℕ) (t : Tok) (given : List Given) → Fate word given → (b : Bool) → is_letter c t ≡ b
    → Fate (c ∷ word) (AToken t ∷ given)
fate-at c word t given l true e = fate-also c word t given e l
fate-at c word t given l false e = differs (token e) (λ f m. ap (λ (b : Bool). if b then letters word f m given else m) e)

pub fate : (word : List ℕ) (given : List Given) → Fate word given
fate [] given = whole given done (λ f m. refl)
fate (c ∷ word) [] = short c word all_left (λ f m. refl)
fate (c ∷ word) (AToken t ∷ given) = fate-at c word t given (fate word given) (is_letter c t) refl
fate (c ∷ word) (AQuantity q ∷ given) = differs quantity (λ f m. refl)
fate (c ∷ word) (End ∷ given) = differs end (λ f m. refl)

pub goes-on : (K : Grammar) (some : List Given) (worth : Worth Scanned) → K some worth → (word : List ℕ) (given : List Given) (c : ℕ) (left : List ℕ)
    → Left word given (c ∷ left) → Letters K word (given ++ AToken (Char category.Letter c) ∷ spelled left some) worth
goes-on K some worth k _ _ c left all_left = letters-spelled K (c ∷ left) some worth k
goes-on K some worth k _ _ c left (also {word = word} {given = given} e l) = letter e (goes-on K some worth k word given c left l)

pub front-reads : (F : Meant Scanned → Type 0) (K : Grammar) (m : Meant Scanned) (word : List ℕ) (given rest : List Given)
    → Front word given rest → ReadsOr F K rest m → ReadsOr F (Letters K word) given m
front-reads F K m _ given _ done r = reads-or-equal (none-left K) given m r
front-reads F K m _ _ rest (also {c = c} {word = word} {t = t} {given = given} e l) r =
    reads-or-behind (behind-letter K c word t e) (no-letters K c word) given m (front-reads F K m word given rest l r)

-- ---- Two words

-- whether they differ in a letter
abbrev pub apart : List ℕ → List ℕ → Bool
apart (c ∷ word) (d ∷ other) = if lower c == lower d then apart word other else true
apart word other = false

-- a word is apart from each one of a table
abbrev pub apart_from : List ℕ → List (List ℕ × Unit_of) → Bool
apart_from word [] = true
apart_from word (u ∷ table) = apart word u.0 && apart_from word table

abbrev pub all_apart : List (List ℕ × Unit_of) → Bool
all_apart [] = true
all_apart (u ∷ table) = apart_from u.0 table && all_apart table

both : (a b : Bool) → (a && b) ≡ true → (a ≡ true) × (b ≡ true)
both true true e = (e, e)
both true false e = cc
both false b e = cc

swapped : (a b : ℕ) → (a == b) ≡ (b == a)
swapped a b = by (a == b) (b == a) refl refl where
  by : (x y : Bool) → (a == b) ≡ x → (b == a) ≡ y → x ≡ y
  by true true e h = refl
  by false false e h = refl
  by true false e h = let q : a ≡ b = eqb-true a b e in let r : (b == a) ≡ true = eq-eqb b a (sym q) in cc
  by false true e h = let q : b ≡ a = eqb-true b a h in let r : (a == b) ≡ true = eq-eqb a b (sym q) in cc

-- a letter that two words have
two-letters : (c d : ℕ) (t : Tok) (b : Bool) → (lower c == lower d) ≡ b → is_letter d t ≡ true → is_letter c t ≡ b
two-letters c d (Char cat x) b e h =
    let q : lower x ≡ lower d = eqb-true (lower x) (lower d) h in
    let r : is_letter c (Char cat x) ≡ (lower d == lower c) = ap (λ k. k == lower c) q in
    r ∙ swapped (lower d) (lower c) ∙ e
two-letters c d (Active x) b e h =
    let q : lower x ≡ lower d = eqb-true (lower x) (lower d) h in
    let r : is_letter c (Active x) ≡ (lower d == lower c) = ap (λ k. k == lower c) q in
    r ∙ swapped (lower d) (lower c) ∙ e
two-letters c d (Word name) b e h = cc
two-letters c d (Param k) b e h = cc

apart-at : (c d : ℕ) (word other : List ℕ) (t : Tok) (given : List Given) → is_letter d t ≡ true → (apart word other ≡ true → Differs word given)
    → (b : Bool) → (lower c == lower d) ≡ b → (if b then apart word other else true) ≡ true → Differs (c ∷ word) (AToken t ∷ given)
apart-at c d word other t given h ih true q e = also (two-letters c d t true q h) (ih e)
apart-at c d word other t given h ih false q e = token (two-letters c d t false q h)

pub apart-differs : (K : Grammar) (word other : List ℕ) (given : List Given) (w : Worth Scanned) → apart word other ≡ true
    → Letters K other given w → Differs word given
apart-differs K [] other given w e l = cc
apart-differs K (c ∷ word) _ given w e (ended k) = cc
apart-differs K (c ∷ word) _ _ w e (letter {c = d} {word = other} {t = t} {given = given} h l) =
    apart-at c d word other t given h (λ a. apart-differs K word other given w a l) (lower c == lower d) refl e

pub table-differs : (K : Unit_of → List Given → Worth Scanned → Type 0) (word : List ℕ) (table : List (List ℕ × Unit_of)) (given : List Given) (w : Worth Scanned)
    → apart_from word table ≡ true → OneOf K table given w → Differs word given
table-differs K word (u ∷ table) given w e (here l) = apart-differs (K u.1) word u.0 given w (both (apart word u.0) (apart_from word table) e).0 l
table-differs K word (u ∷ table) given w e (there o) = table-differs K word table given w (both (apart word u.0) (apart_from word table) e).1 o
table-differs K word [] given w e o = elim o [ ]

-- ---- Lists that begin alike

pub front-differs : (word : List ℕ) (given rest all more behind : List Given) → Front word given rest → Differs word all
    → given ++ more ≡ all ++ behind → ⊥
front-differs _ _ _ all more behind done d q = elim d [ ]
front-differs _ _ rest all more behind (also {t = t} {given = given} e l) (token {t = s} {given = one} h) q =
    let same : AToken t ≡ AToken s = cc in cc
front-differs _ _ rest all more behind (also {t = t} {given = given} e l) quantity q = cc
front-differs _ _ rest all more behind (also {t = t} {given = given} e l) end q = cc
front-differs _ _ rest all more behind (also {word = word} {t = t} {given = given} e l) (also {t = s} {given = one} h d) q =
    let tail : given ++ more ≡ one ++ behind = cc in
    front-differs word given rest one more behind l d tail

pub letters-differs : (K : Grammar) (word : List ℕ) (given all more behind : List Given) (w : Worth Scanned) → Differs word given
    → Letters K word all w → given ++ more ≡ all ++ behind → ⊥
letters-differs K _ _ _ more behind w (token {t = s} {given = one} h) (letter {t = t} {given = given} e l) q =
    let same : AToken t ≡ AToken s = cc in cc
letters-differs K _ _ _ more behind w quantity (letter e l) q = cc
letters-differs K _ _ _ more behind w end (letter e l) q = cc
letters-differs K _ _ _ more behind w (also {t = s} {given = one} h d) (letter {word = word} {t = t} {given = given} e l) q =
    let tail : one ++ more ≡ given ++ behind = cc in
    letters-differs K word one given more behind w d l tail

-- ---- A table

table-at : (F : Meant Scanned → Type 0) (K : Unit_of → List Given → Worth Scanned → Type 0) (found : Unit_of → List Given → Meant Scanned) (u : List ℕ × Unit_of)
    (table : List (List ℕ × Unit_of)) (given some : List Given) (worth : Worth Scanned) (m : Meant Scanned) → K u.1 some worth
    → ((rest : List Given) → ReadsOr F (K u.1) rest (found u.1 rest)) → apart_from u.0 table ≡ true → ReadsOr F (OneOf K table) given m
    → Fate u.0 given
    → ReadsOr F (OneOf K (u ∷ table)) given (letters u.0 (found u.1) m given)
table-at F K found u table given some worth m k behind a r (short c left l s) =
    subst (λ (x : Meant Scanned). ReadsOr F (OneOf K (u ∷ table)) given x) (sym (s (found u.1) m))
    (reads (record { next = AToken (Char category.Letter c); answers = expanded; more = spelled left some; worth = worth; is = here (goes-on (K u.1) some worth k u.0 given c left l) }))
table-at F K found u table given some worth m k behind a r (whole rest l s) =
    subst (λ (x : Meant Scanned). ReadsOr F (OneOf K (u ∷ table)) given x) (sym (s (found u.1) m))
    (reads-or-among (record { into = λ more all after w e i. here i; onto = onto }) (found u.1 rest) (front-reads F (K u.1) (found u.1 rest) u.0 given rest l (behind rest)))
  where
    onto : (more all after : List Given) (w : Worth Scanned) → given ++ more ≡ all ++ after → OneOf K (u ∷ table) all w → Letters (K u.1) u.0 all w
    onto more all after w e (here i) = i
    onto more all after w e (there o) = absurd (front-differs u.0 given rest all more after l (table-differs K u.0 table all w a o) e)
table-at F K found u table given some worth m k behind a r (differs d s) =
    subst (λ (x : Meant Scanned). ReadsOr F (OneOf K (u ∷ table)) given x) (sym (s (found u.1) m))
    (reads-or-among (record { into = λ more all after w e i. there i; onto = onto }) m r)
  where
    onto : (more all after : List Given) (w : Worth Scanned) → given ++ more ≡ all ++ after → OneOf K (u ∷ table) all w → OneOf K table all w
    onto more all after w e (here i) = absurd (letters-differs (K u.1) u.0 given all more after w d i e)
    onto more all after w e (there o) = o

-- of each unit what stands behind it is read, and there is such a thing
pub data Each (F : Meant Scanned → Type 0) (K : Unit_of → List Given → Worth Scanned → Type 0) (found : Unit_of → List Given → Meant Scanned) : List (List ℕ × Unit_of) → Type 0 where
  no_more : Each F K found []
  next : {u : List ℕ × Unit_of} {table : List (List ℕ × Unit_of)} (some : List Given) (worth : Worth Scanned) → K u.1 some worth
      → ((rest : List Given) → ReadsOr F (K u.1) rest (found u.1 rest)) → Each F K found table → Each F K found (u ∷ table)

pub table-reads : (F : Meant Scanned → Type 0) (K : Unit_of → List Given → Worth Scanned → Type 0) (found : Unit_of → List Given → Meant Scanned) (missing : Meant Scanned)
    → F missing → (table : List (List ℕ × Unit_of)) → all_apart table ≡ true → Each F K found table → (given : List Given)
    → ReadsOr F (OneOf K table) given (one_of table found missing given)
table-reads F K found missing f _ a no_more given = ReadsOr.none f (λ more all behind w e o. elim o [ ])
table-reads F K found missing f _ a (next {u = u} {table = table} some worth k behind each) given =
    let s = both (apart_from u.0 table) (all_apart table) a in
    table-at F K found u table given some worth (one_of table found missing given) k behind s.0 (table-reads F K found missing f table s.1 each given) (fate u.0 given)

-- ---- No word is empty

abbrev pub has_letters : List ℕ → Bool
has_letters [] = false
has_letters (c ∷ word) = true

abbrev pub all_letters : List (List ℕ × Unit_of) → Bool
all_letters [] = true
all_letters (u ∷ table) = has_letters u.0 && all_letters table

word-not-empty : (K : Grammar) (word : List ℕ) (w : Worth Scanned) → has_letters word ≡ true → Letters K word [] w → ⊥
word-not-empty K [] w e l = cc
word-not-empty K (c ∷ word) w e l = elim l [ ]

pub table-not-empty : (K : Unit_of → List Given → Worth Scanned → Type 0) (table : List (List ℕ × Unit_of)) (w : Worth Scanned)
    → all_letters table ≡ true → OneOf K table [] w → ⊥
table-not-empty K [] w e o = elim o [ ]
table-not-empty K (u ∷ table) w e (here l) = word-not-empty (K u.1) u.0 w (both (has_letters u.0) (all_letters table) e).0 l
table-not-empty K (u ∷ table) w e (there o) = table-not-empty K table w (both (has_letters u.0) (all_letters table) e).1 o
