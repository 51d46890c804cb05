-- Where a keyword stands, behind spaces.
use Rattle.std.proofs.Common.{◌≡◌, ◌∙◌, ◌++◌, Bool, true, false, ℕ, List, [], ◌∷◌, refl, ap, sym}
use Rattle.std.specs.Prelude.{if◌then◌else◌}
use Rattle.lb_base.specs.declared.token.Category.TheVariants as category
use Rattle.lb_base.specs.declared.token.Tok.{Tok}
use Rattle.lb_base.specs.declared.token.Tok.TheVariants.{Char}
use Rattle.lb_model_grammar.specs.LengthGrammar.{Grammar}
use Rattle.lb_model_grammar.specs.declared.given.Given.{Given}
use Rattle.lb_model_grammar.specs.declared.given.Given.TheVariants.{Tok as AToken, Quantity as AQuantity, End}
use Rattle.lb_model_grammar.specs.declared.given.Scanned.{Scanned}
use Rattle.lb_model_grammar.specs.declared.given.Want.TheVariants as want
use Rattle.lb_model_grammar.specs.Scans.{Meant, is_space, keyword, letters}
use Rattle.lb_model_grammar.specs.Scans.Meant.{Open}
use Rattle.lb_model_grammar.specs.WordGrammar.{Keyword, Letters, begins_blank}
use Rattle.lb_model_grammar.specs.WordGrammar.Keyword.{blank, letters as the_letters}
use Rattle.lb_model_grammar.specs.WordGrammar.Letters.{letter}
use Rattle.lb_model_grammar.specs.Written.{ReadsOr, Worth}
use Rattle.lb_model_grammar.proofs.ReadingSteps.{reads-or-as, reads-or-behind}
use Rattle.lb_model_grammar.proofs.UnitReading.{Differs, Fate, Front, Left, apart, apart-differs, fate, front-differs, front-reads, goes-on, letters-differs}
use Rattle.lb_model_grammar.proofs.UnitReading.Differs.{end, quantity}
use Rattle.lb_model_grammar.proofs.UnitReading.Fate.{differs, short, whole}
use Rattle.lb_model_grammar.proofs.UnitReading.Front.{also as front_also}
use Rattle.lb_model_grammar.proofs.UnitReading.Left.{all_left}
use Rattle.lb_model_grammar.proofs.WordReading.{behind-blank, no-blank, no-keyword, spelled}

-- spaces, and then the letters of a word, and this behind them
pub data WordFront (word : List ℕ) : List Given → List Given → Type 0 where
  front_blank : {t : Tok} {given rest : List Given} → is_space t ≡ true → WordFront word given rest → WordFront word (AToken t ∷ given) rest
  front_here : {given rest : List Given} → begins_blank given ≡ false → Front word given rest → WordFront word given rest

-- spaces, and then a part of its letters
pub data WordLeft (word : List ℕ) : List Given → List ℕ → Type 0 where
  left_blank : {t : Tok} {given : List Given} {left : List ℕ} → is_space t ≡ true → WordLeft word given left → WordLeft word (AToken t ∷ given) left
  left_here : {given : List Given} {left : List ℕ} → begins_blank given ≡ false → Left word given left → WordLeft word given left

-- spaces, and then another thing in place of a letter
pub data WordDiffers (word : List ℕ) : List Given → Type 0 where
  differs_blank : {t : Tok} {given : List Given} → is_space t ≡ true → WordDiffers word given → WordDiffers word (AToken t ∷ given)
  differs_here : {given : List Given} → begins_blank given ≡ false → Differs word given → WordDiffers word given

pub data WordFate (word : List ℕ) (given : List Given) : Type 0 where
  word_short : (c : ℕ) (left : List ℕ) → WordLeft word given (c ∷ left)
      → ((f : List Given → Meant Scanned) (m : Meant Scanned) → keyword word f m given ≡ Open want.Expanded) → WordFate word given
  word_whole : (rest : List Given) → WordFront word given rest
      → ((f : List Given → Meant Scanned) (m : Meant Scanned) → keyword word f m given ≡ f rest) → WordFate word given
  word_differs : WordDiffers word given → ((f : List Given → Meant Scanned) (m : Meant Scanned) → keyword word f m given ≡ m) → WordFate word given

fate-blank : (word : List ℕ) (t : Tok) (given : List Given) → is_space t ≡ true → WordFate word given → WordFate word (AToken t ∷ given)
fate-blank word t given e (word_short c left l s) =
    word_short c left (left_blank e l) (λ f m. ap (λ (b : Bool). if b then keyword word f m given else letters word f m (AToken t ∷ given)) e ∙ s f m)
fate-blank word t given e (word_whole rest l s) =
    word_whole rest (front_blank e l) (λ f m. ap (λ (b : Bool). if b then keyword word f m given else letters word f m (AToken t ∷ given)) e ∙ s f m)
fate-blank word t given e (word_differs l s) =
    word_differs (differs_blank e l) (λ f m. ap (λ (b : Bool). if b then keyword word f m given else letters word f m (AToken t ∷ given)) e ∙ s f m)

fate-here : (word : List ℕ) (t : Tok) (given : List Given) → is_space t ≡ false → Fate word (AToken t ∷ given) → WordFate word (AToken t ∷ given)
fate-here word t given e (short c left l s) =
    word_short c left (left_here e l) (λ f m. ap (λ (b : Bool). if b then keyword word f m given else letters word f m (AToken t ∷ given)) e ∙ s f m)
fate-here word t given e (whole rest l s) =
    word_whole rest (front_here e l) (λ f m. ap (λ (b : Bool). if b then keyword word f m given else letters word f m (AToken t ∷ given)) e ∙ s f m)
fate-here word t given e (differs l s) =
    word_differs (differs_here e l) (λ f m. ap (λ (b : Bool). if b then keyword word f m given else letters word f m (AToken t ∷ given)) e ∙ s f m)

fate-at : (word : List ℕ) (t : Tok) (given : List Given) → WordFate word given → (b : Bool) → is_space t ≡ b → WordFate word (AToken t ∷ given)
fate-at word t given k true e = fate-blank word t given e k
fate-at word t given k false e = fate-here word t given e (fate word (AToken t ∷ given))

pub word-fate : (c : ℕ) (word : List ℕ) (given : List Given) → WordFate (c ∷ word) given
word-fate c word [] = word_short c word (left_here refl all_left) (λ f m. refl)
word-fate c word (AToken t ∷ given) = fate-at (c ∷ word) t given (word-fate c word given) (is_space t) refl
word-fate c word (AQuantity q ∷ given) = word_differs (differs_here refl quantity) (λ f m. refl)
word-fate c word (End ∷ given) = word_differs (differs_here refl end) (λ f m. refl)

still-no-blank : (given more : List Given) (c : ℕ) → begins_blank given ≡ false
    → begins_blank (given ++ AToken (Char category.Letter c) ∷ more) ≡ false
still-no-blank [] more c e = refl
still-no-blank (AToken t ∷ given) more c e = e
still-no-blank (AQuantity q ∷ given) more c e = refl
still-no-blank (End ∷ given) more c e = refl

pub word-goes-on : (K : Grammar) (some : List Given) (worth : Worth Scanned) → K some worth
    → (word : List ℕ) (given : List Given) (c : ℕ) (left : List ℕ)
    → WordLeft word given (c ∷ left) → Keyword K word (given ++ AToken (Char category.Letter c) ∷ spelled left some) worth
word-goes-on K some worth k word _ c left (left_blank {given = given} e l) = blank e (word-goes-on K some worth k word given c left l)
word-goes-on K some worth k word given c left (left_here e l) =
    the_letters (still-no-blank given (spelled left some) c e) (goes-on K some worth k word given c left l)

front-token : (F : Meant Scanned → Type 0) (K : Grammar) (m : Meant Scanned) (c : ℕ) (word : List ℕ) (given rest : List Given)
    → begins_blank given ≡ false → Front (c ∷ word) given rest → ReadsOr F (Letters K (c ∷ word)) given m → ReadsOr F (Keyword K (c ∷ word)) given m
front-token F K m c word _ rest e (front_also {t = t} {given = given} h l) r = reads-or-as (no-blank K (c ∷ word) t e) (no-keyword K c word) given m r

pub word-front-reads : (F : Meant Scanned → Type 0) (K : Grammar) (m : Meant Scanned) (c : ℕ) (word : List ℕ) (given rest : List Given)
    → WordFront (c ∷ word) given rest → ReadsOr F K rest m → ReadsOr F (Keyword K (c ∷ word)) given m
word-front-reads F K m c word _ rest (front_blank {t = t} {given = given} e l) r =
    reads-or-behind (behind-blank K (c ∷ word) t e) (no-keyword K c word) given m (word-front-reads F K m c word given rest l r)
word-front-reads F K m c word given rest (front_here e l) r = front-token F K m c word given rest e l (front-reads F K m (c ∷ word) given rest l r)

-- what begins with the one word does not begin with another
pub word-not-other : (K : Grammar) (c : ℕ) (word other : List ℕ) (given rest all more behind : List Given) (w : Worth Scanned)
    → apart (c ∷ word) other ≡ true
    → WordFront (c ∷ word) given rest → Keyword K other all w → given ++ more ≡ all ++ behind → ⊥
word-not-other K c word other _ rest _ more behind w a (front_blank {t = t} {given = given} e l) (blank {t = s} {given = all} h r) q =
    let tail : given ++ more ≡ all ++ behind = cc in
    word-not-other K c word other given rest all more behind w a l r tail
word-not-other K c word other _ rest all more behind w a (front_blank {t = t} {given = given} e l) (the_letters b r) q =
    no-letters-there all b r q where
      no-letters-there : (all : List Given) → begins_blank all ≡ false → Letters K other all w → AToken t ∷ given ++ more ≡ all ++ behind → ⊥
      no-letters-there [] b r q = empty other r a where
        empty : (other : List ℕ) → Letters K other [] w → apart (c ∷ word) other ≡ true → ⊥
        empty [] r a = cc
        empty (d ∷ other) r a = elim r [ ]
      no-letters-there (AToken s ∷ all) b r q =
          let head : t ≡ s = cc in
          let x : is_space s ≡ true = sym (ap is_space head) ∙ e in
          cc
      no-letters-there (AQuantity x ∷ all) b r q = cc
      no-letters-there (End ∷ all) b r q = cc
word-not-other K c word other _ rest _ more behind w a (front_here b (front_also {t = t} {given = given} h l)) (blank {t = s} {given = all} e r) q =
    let head : t ≡ s = cc in
    let x : is_space t ≡ true = ap is_space head ∙ e in
    cc
word-not-other K c word other given rest all more behind w a (front_here b l) (the_letters d r) q =
    front-differs (c ∷ word) given rest all more behind l (apart-differs K (c ∷ word) other all w a r) q

-- what begins with another thing does not begin with the word
pub word-not-there : (K : Grammar) (c : ℕ) (word : List ℕ) (given all more behind : List Given) (w : Worth Scanned) → WordDiffers (c ∷ word) given
    → Keyword K (c ∷ word) all w → given ++ more ≡ all ++ behind → ⊥
word-not-there K c word _ _ more behind w (differs_blank {t = t} {given = given} e d) (blank {t = s} {given = all} h r) q =
    let tail : given ++ more ≡ all ++ behind = cc in
    word-not-there K c word given all more behind w d r tail
word-not-there K c word _ _ more behind w (differs_blank {t = t} {given = given} e d) (the_letters b (letter {t = s} {given = all} h r)) q =
    let head : t ≡ s = cc in
    let x : is_space s ≡ true = sym (ap is_space head) ∙ e in
    cc
word-not-there K c word given _ more behind w (differs_here b d) (blank {t = s} {given = all} h r) q = at given b d q where
  at : (given : List Given) → begins_blank given ≡ false → Differs (c ∷ word) given → given ++ more ≡ AToken s ∷ all ++ behind → ⊥
  at (AToken t ∷ given) b d q =
      let head : t ≡ s = cc in
      let x : is_space t ≡ true = ap is_space head ∙ h in
      cc
  at (AQuantity x ∷ given) b d q = cc
  at (End ∷ given) b d q = cc
  at [] b d q = elim d [ ]
word-not-there K c word given all more behind w (differs_here b d) (the_letters e r) q = letters-differs K (c ∷ word) given all more behind w d r q
