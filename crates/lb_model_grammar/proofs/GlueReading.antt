-- What is read of glue, by the grammar.
use Rattle.std.proofs.Common.{◌≡◌, ◌∙◌, ◌++◌, ◌≤◌, Bool, false, ℕ, ℤ, pos, List, [], ◌∷◌, length, codes, refl, sym, subst, arith, inl, inr}
use Rattle.std.specs.Prelude.{◌⊎◌}
use Rattle.lb_base.specs.declared.fault.Kind.{Kind}
use Rattle.lb_base.specs.declared.fault.Kind.TheVariants.{DimenTooLarge, NumberMissing, NumberTooBig, UnitMissing}
use Rattle.lb_base.specs.declared.glue.Glue.{Glue}
use Rattle.lb_base.specs.declared.glue.Order.{Order}
use Rattle.lb_base.specs.declared.glue.Order.TheVariants.{Finite, Fil, Fill, Filll}
use Rattle.lb_base.specs.declared.token.Category.TheVariants as category
use Rattle.lb_base.specs.declared.token.Tok.TheVariants.{Char}
use Rattle.lb_model_grammar.specs.declared.given.Given.{Given}
use Rattle.lb_model_grammar.specs.declared.given.Given.TheVariants.{Tok as AToken}
use Rattle.lb_model_grammar.specs.declared.given.Quantity.{Quantity}
use Rattle.lb_model_grammar.specs.declared.given.Quantity.TheVariants as quantity
use Rattle.lb_model_grammar.specs.declared.given.Scanned.{Scanned}
use Rattle.lb_model_grammar.specs.declared.given.Scanned.TheVariants.{Skip}
use Rattle.lb_model_grammar.specs.declared.given.Want.{Want}
use Rattle.lb_model_grammar.specs.Dimensions.{Uses, glue, glue_alone, glue_units, in_unit, length_behind, of_width, shrink, shrink_alone, signed_glue, stretch, stretch_alone, units}
use Rattle.lb_model_grammar.specs.GlueGrammar.{Fils, GlueUnit, IsGlue, Shrink, Stretch, glue_by, glue_found, shrink_by, shrink_found, shrunk, stretch_by, stretch_found, stretched}
use Rattle.lb_model_grammar.specs.GlueGrammar.Fils.{fil, fill, filll, second, third}
use Rattle.lb_model_grammar.specs.GlueGrammar.GlueUnit.{finite, infinite}
use Rattle.lb_model_grammar.specs.GlueGrammar.Shrink.{minus, nothing as no_shrink}
use Rattle.lb_model_grammar.specs.GlueGrammar.Stretch.{nothing as no_stretch, plus}
use Rattle.lb_model_grammar.specs.Dimensions.Unit_of.{Infinite}
use Rattle.lb_model_grammar.specs.LengthGrammar.{BySize, Grammar, InUnit, IsLength, OneOf}
use Rattle.lb_model_grammar.specs.Scans.{Meant, signed}
use Rattle.lb_model_grammar.specs.Scans.Meant.{Open, Ended, Wrong}
use Rattle.lb_model_grammar.specs.WordGrammar.{Keyword, Nothing}
use Rattle.lb_model_grammar.specs.WordGrammar.Keyword.{blank as key_blank, letters as key_letters}
use Rattle.lb_model_grammar.specs.WordGrammar.Nothing.{more as nothing_more}
use Rattle.lb_model_grammar.specs.Written.{GoesOn, IsRead, IsTooLarge, NoneBegins, Reads, ReadsOr, Worth}
use Rattle.lb_model_grammar.specs.Written.Answers.{expanded}
use Rattle.lb_model_grammar.specs.Written.ReadsOr.{none, reads}
use Rattle.lb_model_grammar.specs.Written.Worth.{TooLarge, Value}
use Rattle.lb_model_grammar.proofs.DecimalReading.{length-has, length-reads}
use Rattle.lb_model_grammar.proofs.DimensionReading.{IsFine, in-unit-all, length-all, letters-all, one-of-all, nothing-has, nothing-more, point-rest, units-each}
use Rattle.lb_model_grammar.proofs.FilReading.{glue-unit-filled, glue-units-read}
use Rattle.lb_model_grammar.proofs.KeywordPlaces.{WordFate, WordFront, word-fate, word-front-reads, word-goes-on, word-not-other, word-not-there}
use Rattle.lb_model_grammar.proofs.KeywordPlaces.WordFate.{word_differs, word_short, word_whole}
use Rattle.lb_model_grammar.proofs.LengthReading.{Behind, Lacks}
use Rattle.lb_model_grammar.proofs.ReadingSteps.{Has, reads-among}
use Rattle.lb_model_grammar.proofs.UnitReading.{table-not-empty, table-reads}
use Rattle.lb_model_grammar.proofs.WordReading.{spelled}

-- ---- A part, or nothing

-- where the one grammar has besides what the other has only the empty list, which is read where the other has nothing
or-nothing : (G H : Grammar) (x : Scanned) (given : List Given) (m : Meant Scanned) → ReadsOr (λ m. m ≡ Ended x given) H given m
    → ((all : List Given) (w : Worth Scanned) → H all w → G all w)
    → ((more all behind : List Given) (w : Worth Scanned) → given ++ more ≡ all ++ behind → G all w → (length all ≤ 0) ⊎ H all w)
    → G [] (Value x) → Reads G given m
or-nothing G H x given (Open want) (reads r) into onto empty =
    record { next = r.next; answers = r.answers; more = r.more; worth = r.worth; is = into (given ++ r.next ∷ r.more) r.worth r.is }
or-nothing G H x given (Ended y rest) (reads r) into onto empty =
    record { read = r.read; parts = r.parts; is = into r.read (Value y) r.is; longest = longest } where
      longest : (more all behind : List Given) (w : Worth Scanned) → given ++ more ≡ all ++ behind → G all w → length all ≤ length r.read
      longest more all behind w e i = by (onto more all behind w e i) where
        by : (length all ≤ 0) ⊎ H all w → length all ≤ length r.read
        by (inl l) = omega (arith, l)
        by (inr h) = r.longest more all behind w e h
or-nothing G H x given (Wrong kind) (reads r) into onto empty =
    record { rest = r.rest; is = record { read = r.is.read; parts = r.is.parts; is = into r.is.read (TooLarge kind) r.is.is; longest = longest } } where
      longest : (more all behind : List Given) (w : Worth Scanned) → given ++ more ≡ all ++ behind → G all w → length all ≤ length r.is.read
      longest more all behind w e i = by (onto more all behind w e i) where
        by : (length all ≤ 0) ⊎ H all w → length all ≤ length r.is.read
        by (inl l) = omega (arith, l)
        by (inr h) = r.is.longest more all behind w e h
or-nothing G H x given m (none f n) into onto empty =
    subst (λ (k : Meant Scanned). Reads G given k) (sym f) (record { read = []; parts = refl; is = empty; longest = longest }) where
      longest : (more all behind : List Given) (w : Worth Scanned) → given ++ more ≡ all ++ behind → G all w → length all ≤ 0
      longest more all behind w e i = by (onto more all behind w e i) where
        by : (length all ≤ 0) ⊎ H all w → length all ≤ 0
        by (inl l) = l
        by (inr h) = absurd (n more all behind w e h)

-- both kinds of lack are one
lack : (u : Uses) (x : Scanned) (given : List Given) (G : Grammar) (some : List Given) (m : Meant Scanned)
    → u.missing NumberMissing ≡ Ended x given → u.missing UnitMissing ≡ Ended x given → ReadsOr (Lacks u) G some m
    → ReadsOr (λ m. m ≡ Ended x given) G some m
lack u x given G some m a b (reads r) = reads r
lack u x given G some m a b (none (inl f) n) = none (f ∙ a) n
lack u x given G some m a b (none (inr f) n) = none (f ∙ b) n

-- ---- What glue shrinks by

abbrev shrink_uses : Glue → List Given → Uses
shrink_uses g given =
    record { units = glue_units; found = λ order v rest. Ended (Skip (record g { shrink = v; shrink_order = order })) rest; alone = shrink_alone g given; missing = λ kind. Ended (Skip g) given }

shrink-behind : (g : Glue) (before : List Given) → Behind (shrink_uses g before) (GlueUnit (shrink_found g)) (shrink_found g) (shrink_by g)
shrink-behind g before = record {
  found_reads = λ order v given. nothing-more (Skip (shrunk g order v)) given;
  found_has = λ order v. nothing-has (Skip (shrunk g order v));
  alone_reads = alone_reads;
  alone_has = λ n. nothing-has (Skip (shrunk g Finite (signed n (pos 0))));
  units_read =
      glue-units-read (shrink_uses g before) (shrink_found g) (λ order v. nothing-has (Skip (shrunk g order v))) (λ order v all. nothing-more (Skip (shrunk g order v)) all);
  units_filled = glue-unit-filled (shrink_found g);
  unit_rest = unit_rest;
} where
  alone_reads : (n : Bool) (q : Quantity) (given : List Given)
      → ReadsOr (Lacks (shrink_uses g before)) (shrink_by g n q) given (shrink_alone g before n q given)
  alone_reads n (quantity.Dimen v) given = reads (nothing-more (Skip (shrunk g Finite (signed n v))) given)
  alone_reads n quantity.NotOne given = none (inl refl) (λ more all behind w e r. r)
  alone_reads n (quantity.Number q) given = none (inl refl) (λ more all behind w e r. r)
  alone_reads n (quantity.Skip q) given = none (inl refl) (λ more all behind w e r. r)

  unit_rest : (n : Bool) (whole fraction : ℕ) → Has (λ all w. GlueUnit (shrink_found g) n whole fraction (AToken (Char category.Letter 112) ∷ all) w)
  unit_rest n whole fraction =
      let h = point-rest (shrink_found g) (λ order v. nothing-has (Skip (shrunk g order v))) n whole fraction in
      record { some = h.some; worth = h.worth; is = finite h.is }

abbrev Shrinks : Glue → List Given → Worth Scanned → Type 0
Shrinks g = IsLength (GlueUnit (shrink_found g)) (shrink_found g) (shrink_by g) false

shrink-onto : (g : Glue) (all : List Given) (w : Worth Scanned) → Shrink g all w → (length all ≤ 0) ⊎ Keyword (Shrinks g) (codes "minus") all w
shrink-onto g _ _ no_shrink = inl (omega arith)
shrink-onto g all w (minus k) = inr k

shrink-by-fate : (g : Glue) (given : List Given) → WordFate (codes "minus") given → Reads (Shrink g) given (shrink g given)
shrink-by-fate g given (word_short c left l s) =
    let h = length-has (shrink_uses g given) (GlueUnit (shrink_found g)) (shrink_found g) (shrink_by g) (shrink-behind g given) false in
    subst (λ (m : Meant Scanned). Reads (Shrink g) given m) (sym (s (length_behind (shrink_uses g given) false) (Ended (Skip g) given)))
    (record { next = AToken (Char category.Letter c); answers = expanded; more = spelled left h.some; worth = h.worth; is = minus (word-goes-on (Shrinks g) h.some h.worth h.is (codes "minus") given c left l) })
shrink-by-fate g given (word_whole rest l s) =
    subst (λ (m : Meant Scanned). Reads (Shrink g) given m) (sym (s (length_behind (shrink_uses g given) false) (Ended (Skip g) given)))
    (or-nothing (Shrink g) (Keyword (Shrinks g) (codes "minus")) (Skip g) given (length_behind (shrink_uses g given) false rest)
    (lack (shrink_uses g given) (Skip g) given (Keyword (Shrinks g) (codes "minus")) given (length_behind (shrink_uses g given) false rest) refl refl
    (word-front-reads (Lacks (shrink_uses g given)) (Shrinks g) (length_behind (shrink_uses g given) false rest) 109 (codes "inus") given rest l
    (length-reads (shrink_uses g given) (GlueUnit (shrink_found g)) (shrink_found g) (shrink_by g) (shrink-behind g given) false rest)))
    (λ all w k. minus k) (λ more all behind w e i. shrink-onto g all w i) no_shrink)
shrink-by-fate g given (word_differs d s) =
    subst (λ (m : Meant Scanned). Reads (Shrink g) given m) (sym (s (length_behind (shrink_uses g given) false) (Ended (Skip g) given)))
    (or-nothing (Shrink g) (Keyword (Shrinks g) (codes "minus")) (Skip g) given (Ended (Skip g) given)
    (none refl (λ more all behind w e k. word-not-there (Shrinks g) 109 (codes "inus") given all more behind w d k e))
    (λ all w k. minus k) (λ more all behind w e i. shrink-onto g all w i) no_shrink)

shrink-reads : (g : Glue) (given : List Given) → Reads (Shrink g) given (shrink g given)
shrink-reads g given = shrink-by-fate g given (word-fate 109 (codes "inus") given)

shrink-has : (g : Glue) → Has (Shrink g)
shrink-has g = record { some = []; worth = Value (Skip g); is = no_shrink }

-- ---- What it stretches by

abbrev stretch_uses : Glue → List Given → Uses
stretch_uses g given =
    record { units = glue_units; found = λ order v rest. shrink (record g { stretch = v; stretch_order = order }) rest; alone = stretch_alone g given; missing = λ kind. Ended (Skip g) given }

stretch-behind : (g : Glue) (before : List Given) → Behind (stretch_uses g before) (GlueUnit (stretch_found g)) (stretch_found g) (stretch_by g)
stretch-behind g before = record {
  found_reads = λ order v given. shrink-reads (stretched g order v) given;
  found_has = λ order v. shrink-has (stretched g order v);
  alone_reads = alone_reads;
  alone_has = λ n. shrink-has (stretched g Finite (signed n (pos 0)));
  units_read =
      glue-units-read (stretch_uses g before) (stretch_found g) (λ order v. shrink-has (stretched g order v)) (λ order v all. shrink-reads (stretched g order v) all);
  units_filled = glue-unit-filled (stretch_found g);
  unit_rest = unit_rest;
} where
  alone_reads : (n : Bool) (q : Quantity) (given : List Given)
      → ReadsOr (Lacks (stretch_uses g before)) (stretch_by g n q) given (stretch_alone g before n q given)
  alone_reads n (quantity.Dimen v) given = reads (shrink-reads (stretched g Finite (signed n v)) given)
  alone_reads n quantity.NotOne given = none (inl refl) (λ more all behind w e r. r)
  alone_reads n (quantity.Number q) given = none (inl refl) (λ more all behind w e r. r)
  alone_reads n (quantity.Skip q) given = none (inl refl) (λ more all behind w e r. r)

  unit_rest : (n : Bool) (whole fraction : ℕ) → Has (λ all w. GlueUnit (stretch_found g) n whole fraction (AToken (Char category.Letter 112) ∷ all) w)
  unit_rest n whole fraction =
      let h = point-rest (stretch_found g) (λ order v. shrink-has (stretched g order v)) n whole fraction in
      record { some = h.some; worth = h.worth; is = finite h.is }

abbrev Stretches : Glue → List Given → Worth Scanned → Type 0
Stretches g = IsLength (GlueUnit (stretch_found g)) (stretch_found g) (stretch_by g) false

stretch-onto : (g : Glue) (given rest more all behind : List Given) (w : Worth Scanned) → WordFront (codes "plus") given rest
    → given ++ more ≡ all ++ behind → Stretch g all w
    → (length all ≤ 0) ⊎ Keyword (Stretches g) (codes "plus") all w
stretch-onto g given rest more _ behind _ l e (no_stretch no_shrink) = inl (omega arith)
stretch-onto g given rest more all behind w l e (no_stretch (minus k)) =
    absurd (word-not-other (Shrinks g) 112 (codes "lus") (codes "minus") given rest all more behind w refl l k e)
stretch-onto g given rest more all behind w l e (plus k) = inr k

stretch-by-fate : (g : Glue) (given : List Given) → WordFate (codes "plus") given → Reads (Stretch g) given (stretch g given)
stretch-by-fate g given (word_short c left l s) =
    let h = length-has (stretch_uses g given) (GlueUnit (stretch_found g)) (stretch_found g) (stretch_by g) (stretch-behind g given) false in
    subst (λ (m : Meant Scanned). Reads (Stretch g) given m) (sym (s (length_behind (stretch_uses g given) false) (shrink g given)))
    (record { next = AToken (Char category.Letter c); answers = expanded; more = spelled left h.some; worth = h.worth; is = plus (word-goes-on (Stretches g) h.some h.worth h.is (codes "plus") given c left l) })
stretch-by-fate g given (word_whole rest l s) =
    subst (λ (m : Meant Scanned). Reads (Stretch g) given m) (sym (s (length_behind (stretch_uses g given) false) (shrink g given)))
    (or-nothing (Stretch g) (Keyword (Stretches g) (codes "plus")) (Skip g) given (length_behind (stretch_uses g given) false rest)
    (lack (stretch_uses g given) (Skip g) given (Keyword (Stretches g) (codes "plus")) given (length_behind (stretch_uses g given) false rest) refl refl
    (word-front-reads (Lacks (stretch_uses g given)) (Stretches g) (length_behind (stretch_uses g given) false rest) 112 (codes "lus") given rest l
    (length-reads (stretch_uses g given) (GlueUnit (stretch_found g)) (stretch_found g) (stretch_by g) (stretch-behind g given) false rest)))
    (λ all w k. plus k) (λ more all behind w e i. stretch-onto g given rest more all behind w l e i) (no_stretch no_shrink))
stretch-by-fate g given (word_differs d s) =
    subst (λ (m : Meant Scanned). Reads (Stretch g) given m) (sym (s (length_behind (stretch_uses g given) false) (shrink g given)))
    (reads-among (record { into = λ more all behind w e i. no_stretch i; onto = onto }) (shrink g given) (shrink-reads g given))
  where
    onto : (more all behind : List Given) (w : Worth Scanned) → given ++ more ≡ all ++ behind → Stretch g all w → Shrink g all w
    onto more all behind w e (no_stretch i) = i
    onto more all behind w e (plus k) = absurd (word-not-there (Stretches g) 112 (codes "lus") given all more behind w d k e)

stretch-reads : (g : Glue) (given : List Given) → Reads (Stretch g) given (stretch g given)
stretch-reads g given = stretch-by-fate g given (word-fate 112 (codes "lus") given)

stretch-has : (g : Glue) → Has (Stretch g)
stretch-has g = record { some = []; worth = Value (Skip g); is = no_stretch no_shrink }

-- ---- Glue

abbrev glue_uses : Uses
glue_uses = record { units = units; found = λ order v rest. stretch (of_width v) rest; alone = glue_alone; missing = Wrong }

abbrev units_of_glue : Bool → ℕ → ℕ → List Given → Worth Scanned → Type 0
units_of_glue n whole fraction = OneOf (InUnit glue_found n whole fraction) units

glue-behind : Behind glue_uses units_of_glue glue_found glue_by
glue-behind = record {
  found_reads = λ order v given. stretch-reads (of_width v) given;
  found_has = λ order v. stretch-has (of_width v);
  alone_reads = alone_reads;
  alone_has = λ n. stretch-has (of_width (signed n (pos 0)));
  units_read =
      λ n whole fraction given. table-reads (Lacks glue_uses) (InUnit glue_found n whole fraction) (in_unit glue_uses n whole fraction) (Wrong UnitMissing) (inr refl) units refl
      (units-each glue_uses glue_found (λ order v. stretch-has (of_width v)) (λ order v all. stretch-reads (of_width v) all) n whole fraction) given;
  units_filled = λ n whole fraction w. table-not-empty (InUnit glue_found n whole fraction) units w refl;
  unit_rest = point-rest glue_found (λ order v. stretch-has (of_width v));
} where
  alone_reads : (n : Bool) (q : Quantity) (given : List Given) → ReadsOr (Lacks glue_uses) (glue_by n q) given (glue_alone n q given)
  alone_reads n (quantity.Dimen v) given = reads (stretch-reads (of_width (signed n v)) given)
  alone_reads n (quantity.Skip g) given = reads (nothing-more (Skip (signed_glue n g)) given)
  alone_reads n quantity.NotOne given = none (inl refl) (λ more all behind w e r. r)
  alone_reads n (quantity.Number q) given = none (inl refl) (λ more all behind w e r. r)

pub glue-reads : (given : List Given) → ReadsOr (Lacks glue_uses) IsGlue given (glue given)
glue-reads given = length-reads glue_uses units_of_glue glue_found glue_by glue-behind false given

-- ---- By what the list means

pub glue-read : (given rest : List Given) (x : Scanned) → glue given ≡ Ended x rest → IsRead IsGlue given (Value x) rest
glue-read given rest x e = by (glue-reads given) where
  by : ReadsOr (Lacks glue_uses) IsGlue given (glue given) → IsRead IsGlue given (Value x) rest
  by (reads r) = subst (λ (m : Meant Scanned). Reads IsGlue given m) e r
  by (none (inl m) n) = cc
  by (none (inr m) n) = cc

pub glue-goes_on : (given : List Given) (want : Want) → glue given ≡ Open want → GoesOn IsGlue given want
glue-goes_on given want e = by (glue-reads given) where
  by : ReadsOr (Lacks glue_uses) IsGlue given (glue given) → GoesOn IsGlue given want
  by (reads r) = subst (λ (m : Meant Scanned). Reads IsGlue given m) e r
  by (none (inl m) n) = cc
  by (none (inr m) n) = cc

pub glue-wrong : (given : List Given) (kind : Kind) → glue given ≡ Wrong kind
    → IsTooLarge IsGlue given kind ⊎ (((kind ≡ NumberMissing) ⊎ (kind ≡ UnitMissing)) × NoneBegins IsGlue given)
glue-wrong given kind e = by (glue-reads given) where
  by : ReadsOr (Lacks glue_uses) IsGlue given (glue given)
      → IsTooLarge IsGlue given kind ⊎ (((kind ≡ NumberMissing) ⊎ (kind ≡ UnitMissing)) × NoneBegins IsGlue given)
  by (reads r) = inl (subst (λ (m : Meant Scanned). Reads IsGlue given m) e r)
  by (none (inl m) n) = inr (inl cc, n)
  by (none (inr m) n) = inr (inr cc, n)

-- ---- What glue is worth

keyword-all : (P : Worth Scanned → Type 0) (K : Grammar) → ((all : List Given) (w : Worth Scanned) → K all w → P w)
    → (word : List ℕ) (all : List Given) (w : Worth Scanned) → Keyword K word all w → P w
keyword-all P K k word _ w (key_blank {given = all} h r) = keyword-all P K k word all w r
keyword-all P K k word all w (key_letters b l) = letters-all P K k word all w l

fils-all : (P : Worth Scanned → Type 0) (K : Order → List Given → Worth Scanned → Type 0)
    → ((order : Order) (all : List Given) (w : Worth Scanned) → K order all w → P w)
    → (order : Order) (all : List Given) (w : Worth Scanned) → Fils K order all w → P w
fils-all P K k _ all w (fil b r) = k Fil all w r
fils-all P K k _ all w (fill b r) = k Fill all w r
fils-all P K k _ all w (filll r) = k Filll all w r
fils-all P K k _ _ w (second {given = all} h r) = fils-all P K k Fill all w r
fils-all P K k _ _ w (third {given = all} h r) = fils-all P K k Filll all w r

glue-unit-fine : (found : BySize) → ((order : Order) (v : ℤ) (all : List Given) (w : Worth Scanned) → found order v all w → IsFine w)
    → (n : Bool) (whole fraction : ℕ) (all : List Given) (w : Worth Scanned) → GlueUnit found n whole fraction all w → IsFine w
glue-unit-fine found f n whole fraction all w (infinite l) =
    letters-all IsFine (Fils (λ order. InUnit found n whole fraction (Infinite order)) Fil)
    (fils-all IsFine (λ order. InUnit found n whole fraction (Infinite order)) (λ order. in-unit-all IsFine (inl refl) found f n whole fraction (Infinite order)) Fil) (codes "fil") all w l
glue-unit-fine found f n whole fraction all w (finite o) =
    one-of-all IsFine (InUnit found n whole fraction) (in-unit-all IsFine (inl refl) found f n whole fraction) units all w o

nothing-fine : (x : Scanned) (all : List Given) (w : Worth Scanned) → Nothing (Value x) all w → IsFine w
nothing-fine x _ _ nothing_more = tt

shrink-fine : (g : Glue) (all : List Given) (w : Worth Scanned) → Shrink g all w → IsFine w
shrink-fine g _ _ no_shrink = tt
shrink-fine g all w (minus k) =
    keyword-all IsFine (Shrinks g)
    (length-all IsFine (inl refl) (inr refl) (GlueUnit (shrink_found g)) (shrink_found g) (shrink_by g) (λ order v. nothing-fine (Skip (shrunk g order v)))
    (glue-unit-fine (shrink_found g) (λ order v. nothing-fine (Skip (shrunk g order v)))) by_fine false) (codes "minus") all w k where
      by_fine : (n : Bool) (q : Quantity) (all : List Given) (w : Worth Scanned) → shrink_by g n q all w → IsFine w
      by_fine n (quantity.Dimen v) all w r = nothing-fine (Skip (shrunk g Finite (signed n v))) all w r
      by_fine n quantity.NotOne all w r = absurd r
      by_fine n (quantity.Number v) all w r = absurd r
      by_fine n (quantity.Skip v) all w r = absurd r

stretch-fine : (g : Glue) (all : List Given) (w : Worth Scanned) → Stretch g all w → IsFine w
stretch-fine g all w (no_stretch r) = shrink-fine g all w r
stretch-fine g all w (plus k) =
    keyword-all IsFine (Stretches g)
    (length-all IsFine (inl refl) (inr refl) (GlueUnit (stretch_found g)) (stretch_found g) (stretch_by g) (λ order v. shrink-fine (stretched g order v))
    (glue-unit-fine (stretch_found g) (λ order v. shrink-fine (stretched g order v))) by_fine false) (codes "plus") all w k where
      by_fine : (n : Bool) (q : Quantity) (all : List Given) (w : Worth Scanned) → stretch_by g n q all w → IsFine w
      by_fine n (quantity.Dimen v) all w r = shrink-fine (stretched g Finite (signed n v)) all w r
      by_fine n quantity.NotOne all w r = absurd r
      by_fine n (quantity.Number v) all w r = absurd r
      by_fine n (quantity.Skip v) all w r = absurd r

glue-fine : (all : List Given) (w : Worth Scanned) → IsGlue all w → IsFine w
glue-fine all w r =
    length-all IsFine (inl refl) (inr refl) units_of_glue glue_found glue_by (λ order v. stretch-fine (of_width v))
    (λ n whole fraction. one-of-all IsFine (InUnit glue_found n whole fraction) (in-unit-all IsFine (inl refl) glue_found (λ order v. stretch-fine (of_width v)) n whole fraction) units)
    by_fine false all w r where
      by_fine : (n : Bool) (q : Quantity) (all : List Given) (w : Worth Scanned) → glue_by n q all w → IsFine w
      by_fine n (quantity.Dimen v) all w r = stretch-fine (of_width (signed n v)) all w r
      by_fine n (quantity.Skip g) all w r = nothing-fine (Skip (signed_glue n g)) all w r
      by_fine n quantity.NotOne all w r = absurd r
      by_fine n (quantity.Number v) all w r = absurd r

never : (kind : Kind) → (kind ≡ NumberMissing) ⊎ (kind ≡ UnitMissing) → (kind ≡ DimenTooLarge) ⊎ (kind ≡ NumberTooBig) → ⊥
never kind (inl a) (inl b) = cc
never kind (inl a) (inr b) = cc
never kind (inr a) (inl b) = cc
never kind (inr a) (inr b) = cc

pub glue-missing : (given : List Given) (kind : Kind) → glue given ≡ Wrong kind → (kind ≡ NumberMissing) ⊎ (kind ≡ UnitMissing)
    → NoneBegins IsGlue given
glue-missing given kind e h = by (glue-wrong given kind e) where
  by : IsTooLarge IsGlue given kind ⊎ (((kind ≡ NumberMissing) ⊎ (kind ≡ UnitMissing)) × NoneBegins IsGlue given) → NoneBegins IsGlue given
  by (inr n) = n.1
  by (inl t) = absurd (never kind h (glue-fine t.is.read (TooLarge kind) t.is.is))

pub glue-too_large : (given : List Given) (kind : Kind) → glue given ≡ Wrong kind → (kind ≡ DimenTooLarge) ⊎ (kind ≡ NumberTooBig)
    → IsTooLarge IsGlue given kind
glue-too_large given kind e h = by (glue-wrong given kind e) where
  by : IsTooLarge IsGlue given kind ⊎ (((kind ≡ NumberMissing) ⊎ (kind ≡ UnitMissing)) × NoneBegins IsGlue given) → IsTooLarge IsGlue given kind
  by (inl t) = t
  by (inr n) = absurd (never kind n.0 h)

pub glue-faults : (given : List Given) (kind : Kind) → glue given ≡ Wrong kind
    → ((kind ≡ DimenTooLarge) ⊎ (kind ≡ NumberTooBig)) ⊎ ((kind ≡ NumberMissing) ⊎ (kind ≡ UnitMissing))
glue-faults given kind e = by (glue-wrong given kind e) where
  by : IsTooLarge IsGlue given kind ⊎ (((kind ≡ NumberMissing) ⊎ (kind ≡ UnitMissing)) × NoneBegins IsGlue given)
      → ((kind ≡ DimenTooLarge) ⊎ (kind ≡ NumberTooBig)) ⊎ ((kind ≡ NumberMissing) ⊎ (kind ≡ UnitMissing))
  by (inl t) = inl (glue-fine t.is.read (TooLarge kind) t.is.is)
  by (inr n) = inr n.0
