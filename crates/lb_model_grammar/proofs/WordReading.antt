-- What is read of a word, by the grammar.
use Rattle.std.proofs.Common.{◌≡◌, ◌≤◌, Bool, true, false, ℕ, List, [], ◌∷◌, length, refl, subst, arith}
use Rattle.std.specs.Prelude.{if◌then◌else◌}
use Rattle.std.proofs.lemmas.Bool.{eq-eqb}
use Rattle.lb_base.specs.declared.fault.Kind.{Kind}
use Rattle.lb_base.specs.declared.token.Category.TheVariants as category
use Rattle.lb_base.specs.declared.token.Tok.{Tok}
use Rattle.lb_base.specs.declared.token.Tok.TheVariants.{Char}
use Rattle.lb_model_grammar.specs.declared.given.Given.{Given}
use Rattle.lb_model_grammar.specs.declared.given.Given.TheVariants.{Tok as AToken, Quantity as AQuantity, End}
use Rattle.lb_model_grammar.specs.declared.given.Scanned.{Scanned}
use Rattle.lb_model_grammar.specs.declared.given.Scanned.TheVariants as scanned
use Rattle.lb_model_grammar.specs.declared.given.Want.{Want}
use Rattle.lb_model_grammar.specs.Scans.{Meant, is_letter, is_space, keyword, letters, lower}
use Rattle.lb_model_grammar.specs.Scans.Meant.{Open, Ended, Wrong}
use Rattle.lb_model_grammar.specs.WordGrammar.{IsKeyword, Keyword, Letters, Nothing}
use Rattle.lb_model_grammar.specs.WordGrammar.Keyword.{blank, letters as the_letters}
use Rattle.lb_model_grammar.specs.WordGrammar.Letters.{ended, letter}
use Rattle.lb_model_grammar.specs.WordGrammar.Nothing.{more as nothing_more}
use Rattle.lb_model_grammar.specs.Written.{GoesOn, IsRead, IsTooLarge, NoneBegins, Reads, ReadsOr, Worth}
use Rattle.lb_model_grammar.specs.Written.Answers.{expanded}
use Rattle.lb_model_grammar.specs.Written.ReadsOr.{none, reads}
use Rattle.lb_model_grammar.specs.Written.Worth.{TooLarge, Value}
use Rattle.lb_model_grammar.proofs.ReadingSteps.{Equal, Same, Step, nothing-begins, reads-or-as, reads-or-behind, reads-or-equal}

-- ---- A word as it may be written

abbrev pub spelled : List ℕ → List Given → List Given
spelled [] behind = behind
spelled (c ∷ word) behind = AToken (Char category.Letter c) ∷ spelled word behind

pub letters-spelled : {X : Type 0} (K : List Given → Worth X → Type 0) (word : List ℕ) (behind : List Given) (w : Worth X) → K behind w
    → Letters K word (spelled word behind) w
letters-spelled K [] behind w k = ended k
letters-spelled K (c ∷ word) behind w k = letter (eq-eqb (lower c) (lower c) refl) (letters-spelled K word behind w k)

-- ---- Letters

pub no-letters : {X : Type 0} (K : List Given → Worth X → Type 0) (c : ℕ) (word : List ℕ) (w : Worth X) → Letters K (c ∷ word) [] w → ⊥
no-letters K c word w l = elim l [ ]

pub behind-letter : {X : Type 0} (K : List Given → Worth X → Type 0) (c : ℕ) (word : List ℕ) (t : Tok) → is_letter c t ≡ true
    → Step (Letters K (c ∷ word)) (Letters K word) (AToken t)
behind-letter {X} K c word t e = record { into = λ all w r. letter e r; onto = onto } where
  onto : (all : List Given) (w : Worth X) → Letters K (c ∷ word) (AToken t ∷ all) w → Letters K word all w
  onto all w (letter h r) = r

no-letter : {X : Type 0} (K : List Given → Worth X → Type 0) (c : ℕ) (word : List ℕ) (t : Tok) → is_letter c t ≡ false
    → (all : List Given) (w : Worth X) → Letters K (c ∷ word) (AToken t ∷ all) w → ⊥
no-letter K c word t e all w (letter h r) = cc

pub none-left : {X : Type 0} (K : List Given → Worth X → Type 0) → Equal (Letters K []) K
none-left {X} K = record { into = λ all w k. ended k; onto = onto } where
  onto : (all : List Given) (w : Worth X) → Letters K [] all w → K all w
  onto all w (ended k) = k

letter-at : {X : Type 0} (F : Meant X → Type 0) (K : List Given → Worth X → Type 0) (c : ℕ) (word : List ℕ) (t : Tok) (given : List Given)
    (m missing : Meant X) → F missing → ReadsOr F (Letters K word) given m
    → (b : Bool) → is_letter c t ≡ b → ReadsOr F (Letters K (c ∷ word)) (AToken t ∷ given) (if b then m else missing)
letter-at F K c word t given m missing f r true e = reads-or-behind (behind-letter K c word t e) (no-letters K c word) given m r
letter-at F K c word t given m missing f r false e =
    none f (nothing-begins (Letters K (c ∷ word)) (AToken t) given (no-letters K c word) (no-letter K c word t e))

-- where what stands behind the word is read, and there is such a thing
pub letters-reads : {X : Type 0} (F : Meant X → Type 0) (K : List Given → Worth X → Type 0) (found : List Given → Meant X) (missing : Meant X)
    → F missing → (some : List Given) (worth : Worth X) → K some worth → ((given : List Given) → ReadsOr F K given (found given))
    → (word : List ℕ) (given : List Given) → ReadsOr F (Letters K word) given (letters word found missing given)
letters-reads F K found missing f some worth k behind [] given = reads-or-equal (none-left K) given (found given) (behind given)
letters-reads F K found missing f some worth k behind (c ∷ word) [] =
    reads (record { next = AToken (Char category.Letter c); answers = expanded; more = spelled word some; worth = worth; is = letters-spelled K (c ∷ word) some worth k })
letters-reads F K found missing f some worth k behind (c ∷ word) (AToken t ∷ given) =
    letter-at F K c word t given (letters word found missing given) missing f (letters-reads F K found missing f some worth k behind word given) (is_letter c t) refl
letters-reads F K found missing f some worth k behind (c ∷ word) (AQuantity q ∷ given) =
    none f (nothing-begins (Letters K (c ∷ word)) (AQuantity q) given (no-letters K c word) (λ all w l. elim l [ ]))
letters-reads F K found missing f some worth k behind (c ∷ word) (End ∷ given) =
    none f (nothing-begins (Letters K (c ∷ word)) End given (no-letters K c word) (λ all w l. elim l [ ]))

-- ---- A word behind spaces

pub no-keyword : {X : Type 0} (K : List Given → Worth X → Type 0) (c : ℕ) (word : List ℕ) (w : Worth X) → Keyword K (c ∷ word) [] w → ⊥
no-keyword K c word w (the_letters b l) = no-letters K c word w l

pub behind-blank : {X : Type 0} (K : List Given → Worth X → Type 0) (word : List ℕ) (t : Tok) → is_space t ≡ true
    → Step (Keyword K word) (Keyword K word) (AToken t)
behind-blank {X} K word t e = record { into = λ all w r. blank e r; onto = onto } where
  onto : (all : List Given) (w : Worth X) → Keyword K word (AToken t ∷ all) w → Keyword K word all w
  onto all w (blank h r) = r
  onto all w (the_letters b l) = cc

pub no-blank : {X : Type 0} (K : List Given → Worth X → Type 0) (word : List ℕ) (t : Tok) → is_space t ≡ false
    → Same (Keyword K word) (Letters K word) (AToken t)
no-blank {X} K word t e = record { empty = λ w l. the_letters refl l; into = λ all w l. the_letters e l; onto = onto } where
  onto : (all : List Given) (w : Worth X) → Keyword K word (AToken t ∷ all) w → Letters K word (AToken t ∷ all) w
  onto all w (the_letters b l) = l
  onto all w (blank h r) = cc

keyword-at : {X : Type 0} (F : Meant X → Type 0) (K : List Given → Worth X → Type 0) (c : ℕ) (word : List ℕ) (t : Tok) (given : List Given)
    (m other : Meant X) → ReadsOr F (Keyword K (c ∷ word)) given m → ReadsOr F (Letters K (c ∷ word)) (AToken t ∷ given) other
    → (b : Bool) → is_space t ≡ b → ReadsOr F (Keyword K (c ∷ word)) (AToken t ∷ given) (if b then m else other)
keyword-at F K c word t given m other r l true e = reads-or-behind (behind-blank K (c ∷ word) t e) (no-keyword K c word) given m r
keyword-at F K c word t given m other r l false e =
    reads-or-as (no-blank K (c ∷ word) t e) (no-keyword K c word) given other l

pub keyword-reads : {X : Type 0} (F : Meant X → Type 0) (K : List Given → Worth X → Type 0) (found : List Given → Meant X) (missing : Meant X)
    → F missing → (some : List Given) (worth : Worth X) → K some worth → ((given : List Given) → ReadsOr F K given (found given))
    → (c : ℕ) (word : List ℕ) (given : List Given) → ReadsOr F (Keyword K (c ∷ word)) given (keyword (c ∷ word) found missing given)
keyword-reads F K found missing f some worth k behind c word [] =
    reads (record { next = AToken (Char category.Letter c); answers = expanded; more = spelled word some; worth = worth; is = the_letters refl (letters-spelled K (c ∷ word) some worth k) })
keyword-reads F K found missing f some worth k behind c word (AToken t ∷ given) =
    keyword-at F K c word t given (keyword (c ∷ word) found missing given) (letters (c ∷ word) found missing (AToken t ∷ given))
    (keyword-reads F K found missing f some worth k behind c word given)
    (letters-reads F K found missing f some worth k behind (c ∷ word) (AToken t ∷ given)) (is_space t) refl
keyword-reads F K found missing f some worth k behind c word (AQuantity q ∷ given) =
    none f (nothing-begins (Keyword K (c ∷ word)) (AQuantity q) given (no-keyword K c word) (λ all w l. elim l [ the_letters b r ↦ elim r [ ] ]))
keyword-reads F K found missing f some worth k behind c word (End ∷ given) =
    none f (nothing-begins (Keyword K (c ∷ word)) End given (no-keyword K c word) (λ all w l. elim l [ the_letters b r ↦ elim r [ ] ]))

-- ---- A keyword by itself

abbrev Word : ℕ → List ℕ → List Given → Worth Scanned → Type 0
Word c word = IsKeyword (c ∷ word)

no-more : {X : Type 0} (worth w : Worth X) (more all behind : List Given) → Nothing worth all w → length all ≤ 0
no-more worth w more _ behind nothing_more = omega arith

word-reads : (c : ℕ) (word : List ℕ) (all given : List Given)
    → ReadsOr (λ m. m ≡ Ended (scanned.Found false) all) (Word c word) given (keyword (c ∷ word) (Ended (scanned.Found true)) (Ended (scanned.Found false) all) given)
word-reads c word all given =
    keyword-reads (λ m. m ≡ Ended (scanned.Found false) all) (Nothing (Value (scanned.Found true))) (Ended (scanned.Found true)) (Ended (scanned.Found false) all)
    refl [] (Value (scanned.Found true)) nothing_more
    (λ rest. reads (record { read = []; parts = refl; is = nothing_more; longest = λ more al behind w e i. no-more (Value (scanned.Found true)) w more al behind i }))
    c word given

abbrev Means : ℕ → List ℕ → List Given → Meant Scanned
Means c word given = keyword (c ∷ word) (Ended (scanned.Found true)) (Ended (scanned.Found false) given) given

pub word-read : (c : ℕ) (word : List ℕ) (given rest : List Given) → Means c word given ≡ Ended (scanned.Found true) rest
    → IsRead (Word c word) given (Value (scanned.Found true)) rest
word-read c word given rest e = by (word-reads c word given given) where
  by : ReadsOr (λ m. m ≡ Ended (scanned.Found false) given) (Word c word) given (Means c word given)
      → IsRead (Word c word) given (Value (scanned.Found true)) rest
  by (reads r) = subst (λ (m : Meant Scanned). Reads (Word c word) given m) e r
  by (none m n) = cc

nothing-worth : {X : Type 0} (worth w : Worth X) (all : List Given) → Nothing worth all w → w ≡ worth
nothing-worth worth w _ nothing_more = refl

letters-worth : {X : Type 0} (worth w : Worth X) (word : List ℕ) (all : List Given) → Letters (Nothing worth) word all w → w ≡ worth
letters-worth worth w _ all (ended k) = nothing-worth worth w all k
letters-worth worth w _ _ (letter {word = word} {given = all} h l) = letters-worth worth w word all l

keyword-worth : {X : Type 0} (worth : Worth X) (word : List ℕ) (w : Worth X) (all : List Given) → Keyword (Nothing worth) word all w → w ≡ worth
keyword-worth worth word w _ (blank {given = all} h r) = keyword-worth worth word w all r
keyword-worth worth word w all (the_letters b l) = letters-worth worth w word all l

pub word-goes_on : (c : ℕ) (word : List ℕ) (given : List Given) (want : Want) → Means c word given ≡ Open want → GoesOn (Word c word) given want
word-goes_on c word given want e = by (word-reads c word given given) where
  by : ReadsOr (λ m. m ≡ Ended (scanned.Found false) given) (Word c word) given (Means c word given) → GoesOn (Word c word) given want
  by (reads r) = subst (λ (m : Meant Scanned). Reads (Word c word) given m) e r
  by (none m n) = cc

pub word-missing : (c : ℕ) (word : List ℕ) (given rest : List Given) → Means c word given ≡ Ended (scanned.Found false) rest
    → NoneBegins (Word c word) given
word-missing c word given rest e = by (word-reads c word given given) where
  by : ReadsOr (λ m. m ≡ Ended (scanned.Found false) given) (Word c word) given (Means c word given) → NoneBegins (Word c word) given
  by (none m n) = n
  by (reads r) =
      let i : IsRead (Word c word) given (Value (scanned.Found false)) rest = subst (λ (m : Meant Scanned). Reads (Word c word) given m) e r in
      let w : Value (scanned.Found false) ≡ Value (scanned.Found true) = keyword-worth (Value (scanned.Found true)) (c ∷ word) (Value (scanned.Found false)) i.read i.is in
      cc

pub word-goes_back : (c : ℕ) (word : List ℕ) (given rest : List Given) → Means c word given ≡ Ended (scanned.Found false) rest → rest ≡ given
word-goes_back c word given rest e = by (word-reads c word given given) where
  by : ReadsOr (λ m. m ≡ Ended (scanned.Found false) given) (Word c word) given (Means c word given) → rest ≡ given
  by (none m n) = cc
  by (reads r) =
      let i : IsRead (Word c word) given (Value (scanned.Found false)) rest = subst (λ (m : Meant Scanned). Reads (Word c word) given m) e r in
      let w : Value (scanned.Found false) ≡ Value (scanned.Found true) = keyword-worth (Value (scanned.Found true)) (c ∷ word) (Value (scanned.Found false)) i.read i.is in
      cc

pub word-not_wrong : (c : ℕ) (word : List ℕ) (given : List Given) (kind : Kind) → Means c word given ≡ Wrong kind → ⊥
word-not_wrong c word given kind e = by (word-reads c word given given) where
  by : ReadsOr (λ m. m ≡ Ended (scanned.Found false) given) (Word c word) given (Means c word given) → ⊥
  by (none m n) = cc
  by (reads r) =
      let i : IsTooLarge (Word c word) given kind = subst (λ (m : Meant Scanned). Reads (Word c word) given m) e r in
      let w : TooLarge kind ≡ Value (scanned.Found true) = keyword-worth (Value (scanned.Found true)) (c ∷ word) (TooLarge kind) i.is.read i.is.is in
      cc
