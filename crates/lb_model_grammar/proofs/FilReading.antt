-- What is read of the units of glue, and where a keyword stands.
use Rattle.std.proofs.Common.{◌≡◌, ◌∙◌, ◌++◌, ◌+◌, ◌*◌, Bool, true, false, ℕ, ℤ, List, [], ◌∷◌, codes, refl, ap, sym, subst, inr}
use Rattle.std.specs.Prelude.{if◌then◌else◌}
use Rattle.lb_base.specs.declared.fault.Kind.TheVariants.{UnitMissing}
use Rattle.lb_base.specs.declared.glue.Order.{Order}
use Rattle.lb_base.specs.declared.glue.Order.TheVariants.{Fil, Fill, Filll}
use Rattle.lb_base.specs.declared.token.Category.TheVariants as category
use Rattle.lb_base.specs.declared.token.Tok.{Tok}
use Rattle.lb_base.specs.declared.token.Tok.TheVariants.{Char}
use Rattle.lb_model_grammar.specs.declared.given.Given.{Given}
use Rattle.lb_model_grammar.specs.declared.given.Given.TheVariants.{Tok as AToken, Quantity as AQuantity, End}
use Rattle.lb_model_grammar.specs.declared.given.Scanned.{Scanned}
use Rattle.lb_model_grammar.specs.declared.given.Want.TheVariants as want
use Rattle.lb_model_grammar.specs.Dimensions.{Uses, glue_units, in_unit, sized, units}
use Rattle.lb_model_grammar.specs.Dimensions.Unit_of.{Infinite}
use Rattle.lb_model_grammar.specs.GlueGrammar.{Fils, GlueUnit}
use Rattle.lb_model_grammar.specs.GlueGrammar.Fils.{fil, fill, filll, second, third}
use Rattle.lb_model_grammar.specs.GlueGrammar.GlueUnit.{finite, infinite}
use Rattle.lb_model_grammar.specs.LengthGrammar.{BySize, InUnit, OneOf, Sized}
use Rattle.lb_model_grammar.specs.LengthGrammar.Spaced.{space as a_space}
use Rattle.lb_model_grammar.specs.Scans.{Meant, is_letter, letters, one_of, space_before}
use Rattle.lb_model_grammar.specs.Scans.Meant.{Open}
use Rattle.lb_model_grammar.specs.WordGrammar.{Letters}
use Rattle.lb_model_grammar.specs.Written.{Reads, ReadsOr, Worth}
use Rattle.lb_model_grammar.specs.Written.Answers.{expanded}
use Rattle.lb_model_grammar.specs.Written.ReadsOr.{reads}
use Rattle.lb_model_grammar.proofs.DimensionReading.{units-each}
use Rattle.lb_model_grammar.proofs.LengthReading.{Lacks, sized-has, spaced-size}
use Rattle.lb_model_grammar.proofs.ReadingSteps.{Equal, Has, Same, Step, reads-as, reads-behind, reads-equal, reads-or-among}
use Rattle.lb_model_grammar.proofs.UnitReading.{Differs, Fate, Front, Left, fate, front-differs, front-reads, goes-on, letters-differs, table-differs, table-not-empty, table-reads}
use Rattle.lb_model_grammar.proofs.UnitReading.Differs.{also as differs_also, end, quantity, token}
use Rattle.lb_model_grammar.proofs.UnitReading.Fate.{differs, short, whole as all_there}
use Rattle.lb_model_grammar.proofs.UnitReading.Front.{also as front_also, done}
use Rattle.lb_model_grammar.proofs.UnitReading.Left.{all_left, also as left_also}
use Rattle.lb_model_grammar.proofs.WordReading.{spelled}

-- ---- Letters behind those that stand there

front-letters : {X : Type 0} (f : List Given → Meant X) (m : Meant X) (more word : List ℕ) (given rest : List Given) → Front word given rest
    → letters (word ++ more) f m given ≡ letters more f m rest
front-letters f m more _ given _ done = refl
front-letters f m more _ _ rest (front_also {word = word} {given = given} e l) =
    ap (λ (b : Bool). if b then letters (word ++ more) f m given else m) e ∙ front-letters f m more word given rest l

left-letters : {X : Type 0} (f : List Given → Meant X) (m : Meant X) (more word : List ℕ) (given : List Given) (c : ℕ) (left : List ℕ)
    → Left word given (c ∷ left) → letters (word ++ more) f m given ≡ Open want.Expanded
left-letters f m more _ _ c left all_left = refl
left-letters f m more _ _ c left (left_also {word = word} {given = given} e l) =
    ap (λ (b : Bool). if b then letters (word ++ more) f m given else m) e ∙ left-letters f m more word given c left l

differs-letters : {X : Type 0} (f : List Given → Meant X) (m : Meant X) (more word : List ℕ) (given : List Given) → Differs word given
    → letters (word ++ more) f m given ≡ m
differs-letters f m more _ _ (token {c = c} {word = word} {t = t} {given = given} e) =
    ap (λ (b : Bool). if b then letters (word ++ more) f m given else m) e
differs-letters f m more _ _ quantity = refl
differs-letters f m more _ _ end = refl
differs-letters f m more _ _ (differs_also {word = word} {given = given} e l) =
    ap (λ (b : Bool). if b then letters (word ++ more) f m given else m) e ∙ differs-letters f m more word given l

-- ---- Letters l

pub behind-second : (K : Order → List Given → Worth Scanned → Type 0) (t : Tok) → is_letter 108 t ≡ true → Step (Fils K Fil) (Fils K Fill) (AToken t)
behind-second K t e = record { into = λ all w r. second e r; onto = onto } where
  onto : (all : List Given) (w : Worth Scanned) → Fils K Fil (AToken t ∷ all) w → Fils K Fill all w
  onto all w (fil b k) = cc
  onto all w (second h r) = r

pub behind-third : (K : Order → List Given → Worth Scanned → Type 0) (t : Tok) → is_letter 108 t ≡ true → Step (Fils K Fill) (Fils K Filll) (AToken t)
behind-third K t e = record { into = λ all w r. third e r; onto = onto } where
  onto : (all : List Given) (w : Worth Scanned) → Fils K Fill (AToken t ∷ all) w → Fils K Filll all w
  onto all w (fill b k) = cc
  onto all w (third h r) = r

no-second : (K : Order → List Given → Worth Scanned → Type 0) (t : Tok) → is_letter 108 t ≡ false → Same (Fils K Fil) (K Fil) (AToken t)
no-second K t e = record { empty = λ w k. fil refl k; into = λ all w k. fil e k; onto = onto } where
  onto : (all : List Given) (w : Worth Scanned) → Fils K Fil (AToken t ∷ all) w → K Fil (AToken t ∷ all) w
  onto all w (fil b k) = k
  onto all w (second h r) = cc

no-third : (K : Order → List Given → Worth Scanned → Type 0) (t : Tok) → is_letter 108 t ≡ false → Same (Fils K Fill) (K Fill) (AToken t)
no-third K t e = record { empty = λ w k. fill refl k; into = λ all w k. fill e k; onto = onto } where
  onto : (all : List Given) (w : Worth Scanned) → Fils K Fill (AToken t ∷ all) w → K Fill (AToken t ∷ all) w
  onto all w (fill b k) = k
  onto all w (third h r) = cc

pub three : (K : Order → List Given → Worth Scanned → Type 0) → Equal (Fils K Filll) (K Filll)
three K = record { into = λ all w k. filll k; onto = onto } where
  onto : (all : List Given) (w : Worth Scanned) → Fils K Filll all w → K Filll all w
  onto all w (filll k) = k

third-at : (K : Order → List Given → Worth Scanned → Type 0) (read : Order → List Given → Meant Scanned)
    → ((order : Order) (given : List Given) → Reads (K order) given (read order given))
    → (t : Tok) (given : List Given) (b : Bool) → is_letter 108 t ≡ b
    → Reads (Fils K Fill) (AToken t ∷ given) (if b then read Filll given else read Fill (AToken t ∷ given))
third-at K read r t given true e =
    reads-behind (behind-third K t e) given (read Filll given) (reads-equal (three K) given (read Filll given) (r Filll given))
third-at K read r t given false e = reads-as (no-third K t e) given (read Fill (AToken t ∷ given)) (r Fill (AToken t ∷ given))

third-reads : (K : Order → List Given → Worth Scanned → Type 0) (read : Order → List Given → Meant Scanned)
    → ((order : Order) → Has (λ all w. K order (AToken (Char category.Space 32) ∷ all) w))
    → ((order : Order) (given : List Given) → Reads (K order) given (read order given))
    → (given : List Given) → Reads (Fils K Fill) given (letters (108 ∷ []) (read Filll) (read Fill given) given)
third-reads K read h r [] =
    let k = h Fill in
    record { next = AToken (Char category.Space 32); answers = expanded; more = k.some; worth = k.worth; is = fill refl k.is }
third-reads K read h r (AToken t ∷ given) = third-at K read r t given (is_letter 108 t) refl
third-reads K read h r (AQuantity q ∷ given) =
    reads-as (record { empty = λ w k. fill refl k; into = λ all w k. fill refl k; onto = λ all w s. elim s [ fill b k ↦ k ] }) given (read Fill (AQuantity q ∷ given)) (r Fill (AQuantity q ∷ given))
third-reads K read h r (End ∷ given) =
    reads-as (record { empty = λ w k. fill refl k; into = λ all w k. fill refl k; onto = λ all w s. elim s [ fill b k ↦ k ] }) given (read Fill (End ∷ given)) (r Fill (End ∷ given))

second-at : (K : Order → List Given → Worth Scanned → Type 0) (read : Order → List Given → Meant Scanned)
    → ((order : Order) → Has (λ all w. K order (AToken (Char category.Space 32) ∷ all) w))
    → ((order : Order) (given : List Given) → Reads (K order) given (read order given))
    → (t : Tok) (given : List Given) (b : Bool) → is_letter 108 t ≡ b
    → Reads (Fils K Fil) (AToken t ∷ given)
    (if b then letters (108 ∷ []) (read Filll) (if b then read Fill given else read Fil (AToken t ∷ given)) given else (if b then read Fill given else read Fil (AToken t ∷ given)))
second-at K read h r t given true e =
    reads-behind (behind-second K t e) given (letters (108 ∷ []) (read Filll) (read Fill given) given) (third-reads K read h r given)
second-at K read h r t given false e = reads-as (no-second K t e) given (read Fil (AToken t ∷ given)) (r Fil (AToken t ∷ given))

second-reads : (K : Order → List Given → Worth Scanned → Type 0) (read : Order → List Given → Meant Scanned)
    → ((order : Order) → Has (λ all w. K order (AToken (Char category.Space 32) ∷ all) w))
    → ((order : Order) (given : List Given) → Reads (K order) given (read order given))
    → (given : List Given)
    → Reads (Fils K Fil) given (letters (108 ∷ 108 ∷ []) (read Filll) (letters (108 ∷ []) (read Fill) (read Fil given) given) given)
second-reads K read h r [] =
    let k = h Fil in
    record { next = AToken (Char category.Space 32); answers = expanded; more = k.some; worth = k.worth; is = fil refl k.is }
second-reads K read h r (AToken t ∷ given) = second-at K read h r t given (is_letter 108 t) refl
second-reads K read h r (AQuantity q ∷ given) =
    reads-as (record { empty = λ w k. fil refl k; into = λ all w k. fil refl k; onto = λ all w s. elim s [ fil b k ↦ k ] }) given (read Fil (AQuantity q ∷ given)) (r Fil (AQuantity q ∷ given))
second-reads K read h r (End ∷ given) =
    reads-as (record { empty = λ w k. fil refl k; into = λ all w k. fil refl k; onto = λ all w s. elim s [ fil b k ↦ k ] }) given (read Fil (End ∷ given)) (r Fil (End ∷ given))

-- ---- The units of glue

-- what is read where `fil`, `fill` and `filll` are tried one after another, and then others
abbrev fils : (Order → List Given → Meant Scanned) → Meant Scanned → List Given → Meant Scanned
fils read other given =
    letters (codes "filll") (read Filll) (letters (codes "fill") (read Fill) (letters (codes "fil") (read Fil) other given) given) given

fils-at : (F : Meant Scanned → Type 0) (found : BySize) (n : Bool) (whole fraction : ℕ) (read : Order → List Given → Meant Scanned)
    → ((order : Order) → Has (λ all w. InUnit found n whole fraction (Infinite order) (AToken (Char category.Space 32) ∷ all) w))
    → ((order : Order) (given : List Given) → Reads (InUnit found n whole fraction (Infinite order)) given (read order given))
    → (other : Meant Scanned) (given : List Given) → ReadsOr F (OneOf (InUnit found n whole fraction) units) given other
    → Fate (codes "fil") given → ReadsOr F (GlueUnit found n whole fraction) given (fils read other given)
fils-at F found n whole fraction read h r other given o (short c left l s) =
    let k = h Fil in
    subst (λ (m : Meant Scanned). ReadsOr F (GlueUnit found n whole fraction) given m)
    (sym (left-letters (read Filll) (letters (codes "fill") (read Fill) (letters (codes "fil") (read Fil) other given) given) (codes "ll") (codes "fil") given c left l))
    (reads (record {
      next = AToken (Char category.Letter c);
      answers = expanded;
      more = spelled left (AToken (Char category.Space 32) ∷ k.some);
      worth = k.worth;
      is =
          infinite (goes-on (Fils (λ order. InUnit found n whole fraction (Infinite order)) Fil) (AToken (Char category.Space 32) ∷ k.some) k.worth (fil refl k.is) (codes "fil") given c left l);
    }))
fils-at F found n whole fraction read h r other given o (all_there rest l s) =
    subst (λ (m : Meant Scanned). ReadsOr F (GlueUnit found n whole fraction) given m) (sym same)
    (reads-or-among (record { into = λ more all after w e i. infinite i; onto = onto }) _
    (front-reads F (Fils (λ order. InUnit found n whole fraction (Infinite order)) Fil) _ (codes "fil") given rest l
    (reads (second-reads (λ order. InUnit found n whole fraction (Infinite order)) read h r rest))))
  where
    onto : (more all after : List Given) (w : Worth Scanned) → given ++ more ≡ all ++ after → GlueUnit found n whole fraction all w
        → Letters (Fils (λ order. InUnit found n whole fraction (Infinite order)) Fil) (codes "fil") all w
    onto more all after w e (infinite i) = i
    onto more all after w e (finite i) =
        absurd (front-differs (codes "fil") given rest all more after l (table-differs (InUnit found n whole fraction) (codes "fil") units all w refl i) e)

    same : fils read other given ≡ letters (108 ∷ 108 ∷ []) (read Filll) (letters (108 ∷ []) (read Fill) (read Fil rest) rest) rest
    same =
        front-letters (read Filll) (letters (codes "fill") (read Fill) (letters (codes "fil") (read Fil) other given) given) (codes "ll") (codes "fil") given rest l
        ∙ ap (λ m. letters (108 ∷ 108 ∷ []) (read Filll) m rest)
        (front-letters (read Fill) (letters (codes "fil") (read Fil) other given) (codes "l") (codes "fil") given rest l
        ∙ ap (λ m. letters (108 ∷ []) (read Fill) m rest) (front-letters (read Fil) other [] (codes "fil") given rest l))
fils-at F found n whole fraction read h r other given o (differs d s) =
    subst (λ (m : Meant Scanned). ReadsOr F (GlueUnit found n whole fraction) given m) (sym same)
    (reads-or-among (record { into = λ more all after w e i. finite i; onto = onto }) other o)
  where
    onto : (more all after : List Given) (w : Worth Scanned) → given ++ more ≡ all ++ after → GlueUnit found n whole fraction all w
        → OneOf (InUnit found n whole fraction) units all w
    onto more all after w e (infinite i) =
        absurd (letters-differs (Fils (λ order. InUnit found n whole fraction (Infinite order)) Fil) (codes "fil") given all more after w d i e)
    onto more all after w e (finite i) = i

    same : fils read other given ≡ other
    same =
        differs-letters (read Filll) (letters (codes "fill") (read Fill) (letters (codes "fil") (read Fil) other given) given) (codes "ll") (codes "fil") given d
        ∙ differs-letters (read Fill) (letters (codes "fil") (read Fil) other given) (codes "l") (codes "fil") given d
        ∙ differs-letters (read Fil) other [] (codes "fil") given d

pub glue-units-read : (u : Uses) (found : BySize) → ((order : Order) (v : ℤ) → Has (found order v))
    → ((order : Order) (v : ℤ) (given : List Given) → Reads (found order v) given (u.found order v given))
    → (n : Bool) (whole fraction : ℕ) (given : List Given)
    → ReadsOr (Lacks u) (GlueUnit found n whole fraction) given (one_of glue_units (in_unit u n whole fraction) (u.missing UnitMissing) given)
glue-units-read u found h r n whole fraction given =
    fils-at (Lacks u) found n whole fraction (λ order. space_before (sized u n order (65536 * whole + fraction)))
    (λ order. let k : Has (Sized found n order (65536 * whole + fraction)) = sized-has found h n order (65536 * whole + fraction) in
    record { some = k.some; worth = k.worth; is = a_space refl k.is })
    (λ order all. spaced-size u found h r n order (65536 * whole + fraction) all)
    (one_of units (in_unit u n whole fraction) (u.missing UnitMissing) given) given
    (table-reads (Lacks u) (InUnit found n whole fraction) (in_unit u n whole fraction) (u.missing UnitMissing) (inr refl) units refl (units-each u found h r n whole fraction) given)
    (fate (codes "fil") given)

pub glue-unit-filled : (found : BySize) (n : Bool) (whole fraction : ℕ) (w : Worth Scanned) → GlueUnit found n whole fraction [] w → ⊥
glue-unit-filled found n whole fraction w (infinite l) = elim l [ ]
glue-unit-filled found n whole fraction w (finite o) = table-not-empty (InUnit found n whole fraction) units w refl o
