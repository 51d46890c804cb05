-- What arguments are, by lists of tokens.
use Rattle.std.proofs.Common.{rules, ◌≡◌, ◌↔◌, ◌∙◌, ◌++◌, ◌+◌, ◌<◌, ◌≤◌, IsTrue, Bool, true, false, ℕ, zero, suc, nat_lt, List, [], ◌∷◌, length, Some, None, refl, ap, sym, arith, inl, inr, append_assoc, append-nil, length-append}
use Rattle.std.specs.Prelude.{◌⊎◌, Option, if◌then◌else◌}
use Rattle.std.proofs.lemmas.Bool.{ltb-false}
use Rattle.lb_base.specs.declared.fault.Kind.{Kind}
use Rattle.lb_base.specs.declared.fault.Kind.TheVariants.{DepthLimit, Runaway, UseMismatch}
use Rattle.lb_base.specs.declared.token.Category.TheVariants as category
use Rattle.lb_base.specs.declared.token.Tok.{Tok}
use Rattle.lb_base.specs.declared.token.Tok.TheVariants.{Char, Word, Active, Param}
use Rattle.lb_model_grammar.specs.declared.class.Brace.{Brace}
use Rattle.lb_model_grammar.specs.declared.class.Brace.TheVariants.{Opening, Closing, Paragraph, Plain}
use Rattle.lb_model_grammar.specs.declared.given.Given.{Given}
use Rattle.lb_model_grammar.specs.declared.given.Given.TheVariants.{Tok as AToken, Quantity as AQuantity, End}
use Rattle.lb_model_grammar.specs.declared.given.Quantity.{Quantity}
use Rattle.lb_model_grammar.specs.ArgumentGrammar.{Fits, IsDelimited, NoneDelimited, OnlyLonger, before, is_barred, levels}
use Rattle.lb_model_grammar.specs.ArgumentGrammar.Fits.{nothing, token}
use Rattle.lb_model_grammar.specs.Arguments.{Begun, at_base, begins, brace_of, closes, delimited, delimited_as, delimited_by, level_then, longer, one_less, opens, without_braces}
use Rattle.lb_model_grammar.specs.Arguments.Begun.{Cut, Does, DoesNot, May}
use Rattle.lb_model_grammar.specs.Same.{tok_eq}
use Rattle.lb_model_grammar.specs.Scans.{Meant}
use Rattle.lb_model_grammar.specs.Scans.Meant.{Ended, Wrong}

-- ---- Tokens that are one

pub tok-same : (a b : Tok) → IsTrue (tok_eq a b) ↔ (a ≡ b)
unfolding tok_eq
tok-same a b = search rules

same-tok : (a : Tok) → tok_eq a a ≡ true
same-tok a = (tok-same a a).1 refl

-- ---- What a token is in an argument

pub data Stands (long : Bool) (t : Tok) : Type 0 where
  opening : brace_of long t ≡ Opening → opens t ≡ true → ((level : ℕ) → level_then t level ≡ Some (suc level)) → is_barred long t ≡ false
      → Stands long t
  closing : brace_of long t ≡ Closing → closes t ≡ true → ((level : ℕ) → level_then t level ≡ one_less level) → is_barred long t ≡ false
      → Stands long t
  paragraph : brace_of long t ≡ Paragraph → is_barred long t ≡ true → Stands long t
  plain : brace_of long t ≡ Plain → opens t ≡ false → closes t ≡ false → ((level : ℕ) → level_then t level ≡ Some level) → is_barred long t ≡ false
      → Stands long t

word-stands : (long : Bool) (name : List ℕ) (b : Bool) → is_barred long (Word name) ≡ b → Stands long (Word name)
word-stands long name true e = paragraph (ap (λ (b : Bool). if b then Paragraph else Plain) e) e
word-stands long name false e = plain (ap (λ (b : Bool). if b then Paragraph else Plain) e) refl refl (λ level. refl) e

pub stands : (long : Bool) (t : Tok) → Stands long t
stands long (Char category.BeginGroup c) = opening refl refl (λ level. refl) refl
stands long (Char category.EndGroup c) = closing refl refl (λ level. refl) refl
stands long (Char cat c) = plain refl refl refl (λ level. refl) refl
stands long (Word name) = word-stands long name (is_barred long (Word name)) refl
stands long (Active c) = plain refl refl refl (λ level. refl) refl
stands long (Param k) = plain refl refl refl (λ level. refl) refl

-- ---- The delimiter

begins-does : (delimiter : List Tok) (given rest : List Given) → begins delimiter given ≡ Does rest → given ≡ before delimiter rest
begins-does [] given rest e = cc
begins-does (d ∷ delimiter) [] rest e = cc
begins-does (d ∷ delimiter) (AToken t ∷ given) rest e = at (tok_eq d t) refl e (λ h. begins-does delimiter given rest h) where
  at : (b : Bool) → tok_eq d t ≡ b → (if b then begins delimiter given else DoesNot) ≡ Does rest
      → (begins delimiter given ≡ Does rest → given ≡ before delimiter rest)
      → AToken t ∷ given ≡ AToken d ∷ before delimiter rest
  at true h q ih = let s : d ≡ t = (tok-same d t).0 h in λ i. AToken (sym s i) ∷ ih q i
  at false h q ih = cc
begins-does (d ∷ delimiter) (AQuantity x ∷ given) rest e = cc
begins-does (d ∷ delimiter) (End ∷ given) rest e = cc

begins-so : (delimiter : List Tok) (behind : List Given) → begins delimiter (before delimiter behind) ≡ Does behind
begins-so [] behind = refl
begins-so (d ∷ delimiter) behind =
    ap (λ (b : Bool). if b then begins delimiter (before delimiter behind) else DoesNot) (same-tok d) ∙ begins-so delimiter behind

-- what does not begin with the delimiter does not begin with it whatever comes
begins-not : (delimiter : List Tok) (given more behind : List Given) → begins delimiter given ≡ DoesNot → given ++ more ≡ before delimiter behind → ⊥
begins-not [] given more behind e q = cc
begins-not (d ∷ delimiter) [] more behind e q = cc
begins-not (d ∷ delimiter) (AToken t ∷ given) more behind e q =
    let head : t ≡ d = cc in
    let tail : given ++ more ≡ before delimiter behind = cc in
    let s : tok_eq d t ≡ true = ap (tok_eq d) head ∙ same-tok d in
    begins-not delimiter given more behind (sym (ap (λ (b : Bool). if b then begins delimiter given else DoesNot) s) ∙ e) tail
begins-not (d ∷ delimiter) (AQuantity x ∷ given) more behind e q = cc
begins-not (d ∷ delimiter) (End ∷ given) more behind e q = cc

-- a thing that is no token stands among the first so many
pub data Cuts : ℕ → List Given → Type 0 where
  quantity : {n : ℕ} {q : Quantity} {given : List Given} → Cuts (suc n) (AQuantity q ∷ given)
  end : {n : ℕ} {given : List Given} → Cuts (suc n) (End ∷ given)
  later : {n : ℕ} {t : Tok} {given : List Given} → Cuts n given → Cuts (suc n) (AToken t ∷ given)

pub begins-cut : (delimiter : List Tok) (given : List Given) → begins delimiter given ≡ Cut → Cuts (length delimiter) given
begins-cut [] given e = cc
begins-cut (d ∷ delimiter) [] e = cc
begins-cut (d ∷ delimiter) (AToken t ∷ given) e = at (tok_eq d t) refl e (begins-cut delimiter given) where
  at : (b : Bool) → tok_eq d t ≡ b → (if b then begins delimiter given else DoesNot) ≡ Cut
      → (begins delimiter given ≡ Cut → Cuts (length delimiter) given)
      → Cuts (suc (length delimiter)) (AToken t ∷ given)
  at true h q ih = later (ih q)
  at false h q ih = cc
begins-cut (d ∷ delimiter) (AQuantity x ∷ given) e = quantity
begins-cut (d ∷ delimiter) (End ∷ given) e = end

-- so no more tokens stand there
cut-short : (n : ℕ) (given more behind : List Given) (toks : List Tok) → Cuts n given → n ≤ length toks → given ++ more ≡ before toks behind → ⊥
cut-short _ _ more behind [] (quantity {n = n}) l q = absurd (omega (arith, l))
cut-short _ _ more behind [] (end {n = n}) l q = absurd (omega (arith, l))
cut-short _ _ more behind [] (later {n = n} c) l q = absurd (omega (arith, l))
cut-short _ _ more behind (t ∷ toks) quantity l q = cc
cut-short _ _ more behind (t ∷ toks) end l q = cc
cut-short _ _ more behind (t ∷ toks) (later {n = n} {t = s} {given = given} c) l q =
    let tail : given ++ more ≡ before toks behind = cc in
    cut-short n given more behind toks c (omega (arith, l)) tail

before-before : (a b : List Tok) (behind : List Given) → before a (before b behind) ≡ before (a ++ b) behind
before-before [] b behind = refl
before-before (t ∷ a) b behind = ap (λ l. AToken t ∷ l) (before-before a b behind)

-- ---- The longest lists that are taken

pub longer-ended : {X : Type 0} (body : List Tok) (t : Tok) (more : List Tok → Meant X) (x : X) (rest : List Given)
    → longer body t more ≡ Ended x rest → more (body ++ t ∷ []) ≡ Ended x rest
longer-ended {X} body t more x rest e = at (nat_lt (length body) 1000000) e where
  at : (b : Bool) → (if b then more (body ++ t ∷ []) else Wrong DepthLimit) ≡ Ended x rest → more (body ++ t ∷ []) ≡ Ended x rest
  at true q = q
  at false q = cc

pub longer-wrong : {X : Type 0} (body : List Tok) (t : Tok) (more : List Tok → Meant X) (kind : Kind) → longer body t more ≡ Wrong kind
    → ((kind ≡ DepthLimit) × (1000000 ≤ length body)) ⊎ (more (body ++ t ∷ []) ≡ Wrong kind)
longer-wrong {X} body t more kind e = at (nat_lt (length body) 1000000) refl e where
  at : (b : Bool) → nat_lt (length body) 1000000 ≡ b → (if b then more (body ++ t ∷ []) else Wrong DepthLimit) ≡ Wrong kind
      → ((kind ≡ DepthLimit) × (1000000 ≤ length body)) ⊎ (more (body ++ t ∷ []) ≡ Wrong kind)
  at true h q = inr q
  at false h q = inl (cc, ltb-false (length body) 1000000 h)

-- ---- Delimited arguments

record Rest (long : Bool) (delimiter : List Tok) (level : ℕ) (body : List Tok) (given : List Given) (arg : List Tok) (rest : List Given) : Type 0 where
  toks : List Tok
  parts : given ≡ before toks (before delimiter rest)
  same : arg ≡ without_braces (body ++ toks)
  balanced : levels (Some level) toks ≡ Some 0
  fits : Fits long toks
  shortest : (other : List Tok) (behind : List Given) → levels (Some level) other ≡ Some 0 → given ≡ before other (before delimiter behind)
      → length toks ≤ length other

-- one more token is taken
rest-then : (long : Bool) (delimiter : List Tok) (level next : ℕ) (body : List Tok) (t : Tok) (given : List Given) (arg : List Tok) (rest : List Given)
    → is_barred long t ≡ false → level_then t level ≡ Some next → at_base level (begins delimiter (AToken t ∷ given)) ≡ DoesNot
    → Rest long delimiter next (body ++ t ∷ []) given arg rest → Rest long delimiter level body (AToken t ∷ given) arg rest
rest-then long delimiter level next body t given arg rest f e d r = record {
  toks = t ∷ r.toks;
  parts = ap (λ l. AToken t ∷ l) r.parts;
  same = r.same ∙ ap without_braces (append_assoc body (t ∷ []) r.toks);
  balanced = ap (λ (o : Option ℕ). levels o r.toks) e ∙ r.balanced;
  fits = token f r.fits;
  shortest = shortest;
} where
  not-here : (level : ℕ) (behind : List Given) → at_base level (begins delimiter (AToken t ∷ given)) ≡ DoesNot → Some level ≡ Some 0
      → AToken t ∷ given ≡ before delimiter behind → ⊥
  not-here zero behind d l q = begins-not delimiter (AToken t ∷ given) [] behind d (append-nil (AToken t ∷ given) ∙ q)
  not-here (suc n) behind d l q = cc

  shortest : (other : List Tok) (behind : List Given) → levels (Some level) other ≡ Some 0 → AToken t ∷ given ≡ before other (before delimiter behind)
      → suc (length r.toks) ≤ length other
  shortest [] behind l q = absurd (not-here level behind d l q)
  shortest (s ∷ other) behind l q =
      let head : t ≡ s = cc in
      let tail : given ≡ before other (before delimiter behind) = cc in
      let b : levels (Some next) other ≡ Some 0 = ap (λ (o : Option ℕ). levels o other) (sym e ∙ ap (λ k. level_then k level) head) ∙ l in
      let m = r.shortest other behind b tail in
      omega (arith, m)

rest-here : (long : Bool) (delimiter : List Tok) (level : ℕ) (body : List Tok) (given : List Given) (arg : List Tok) (rest : List Given)
    → at_base level (begins delimiter given) ≡ Does rest → arg ≡ without_braces body → Rest long delimiter level body given arg rest
rest-here long delimiter zero body given arg rest d e = record {
  toks = [];
  parts = begins-does delimiter given rest d;
  same = e ∙ ap without_braces (sym (append-nil body));
  balanced = refl;
  fits = nothing;
  shortest = λ other behind l q. omega arith;
}
rest-here long delimiter (suc level) body given arg rest d e = cc

rest-taken : (long : Bool) (delimiter : List Tok) (level : ℕ) (body : List Tok) (t : Tok) (given : List Given) (arg : List Tok) (rest : List Given)
    → at_base level (begins delimiter (AToken t ∷ given)) ≡ DoesNot
    → ((l : ℕ) (b : List Tok) → delimited long delimiter l b given ≡ Ended arg rest → Rest long delimiter l b given arg rest)
    → Stands long t → delimited_as (brace_of long t) level body t (λ l b. delimited long delimiter l b given) ≡ Ended arg rest
    → Rest long delimiter level body (AToken t ∷ given) arg rest
rest-taken long delimiter level body t given arg rest d ih (opening k o l f) e =
    let q : longer body t (λ b. delimited long delimiter (suc level) b given) ≡ Ended arg rest =
    sym (ap (λ (x : Brace). delimited_as x level body t (λ l b. delimited long delimiter l b given)) k) ∙ e in
    rest-then long delimiter level (suc level) body t given arg rest f (l level) d
    (ih (suc level) (body ++ t ∷ []) (longer-ended body t (λ b. delimited long delimiter (suc level) b given) arg rest q))
rest-taken long delimiter zero body t given arg rest d ih (closing k o l f) e =
    let q : Wrong UseMismatch ≡ Ended arg rest = sym (ap (λ (x : Brace). delimited_as x 0 body t (λ l b. delimited long delimiter l b given)) k) ∙ e in cc
rest-taken long delimiter (suc level) body t given arg rest d ih (closing k o l f) e =
    let q : longer body t (λ b. delimited long delimiter level b given) ≡ Ended arg rest =
    sym (ap (λ (x : Brace). delimited_as x (suc level) body t (λ l b. delimited long delimiter l b given)) k) ∙ e in
    rest-then long delimiter (suc level) level body t given arg rest f (l (suc level)) d
    (ih level (body ++ t ∷ []) (longer-ended body t (λ b. delimited long delimiter level b given) arg rest q))
rest-taken long delimiter level body t given arg rest d ih (paragraph k f) e =
    let q : Wrong Runaway ≡ Ended arg rest = sym (ap (λ (x : Brace). delimited_as x level body t (λ l b. delimited long delimiter l b given)) k) ∙ e in cc
rest-taken long delimiter level body t given arg rest d ih (plain k o c l f) e =
    let q : longer body t (λ b. delimited long delimiter level b given) ≡ Ended arg rest =
    sym (ap (λ (x : Brace). delimited_as x level body t (λ l b. delimited long delimiter l b given)) k) ∙ e in
    rest-then long delimiter level level body t given arg rest f (l level) d
    (ih level (body ++ t ∷ []) (longer-ended body t (λ b. delimited long delimiter level b given) arg rest q))

rest-by : (long : Bool) (delimiter : List Tok) (level : ℕ) (body : List Tok) (t : Tok) (given : List Given) (arg : List Tok) (rest : List Given)
    → ((l : ℕ) (b : List Tok) → delimited long delimiter l b given ≡ Ended arg rest → Rest long delimiter l b given arg rest)
    → (begun : Begun) → at_base level (begins delimiter (AToken t ∷ given)) ≡ begun
    → delimited_by begun body (delimited_as (brace_of long t) level body t (λ l b. delimited long delimiter l b given)) ≡ Ended arg rest
    → Rest long delimiter level body (AToken t ∷ given) arg rest
rest-by long delimiter level body t given arg rest ih (Does r) d e =
    let same : r ≡ rest = cc in
    let braces : arg ≡ without_braces body = cc in
    rest-here long delimiter level body (AToken t ∷ given) arg rest (d ∙ ap Does same) braces
rest-by long delimiter level body t given arg rest ih May d e = cc
rest-by long delimiter level body t given arg rest ih Cut d e = cc
rest-by long delimiter level body t given arg rest ih DoesNot d e = rest-taken long delimiter level body t given arg rest d ih (stands long t) e

delimited-rest : (long : Bool) (delimiter : List Tok) (level : ℕ) (body : List Tok) (given : List Given) (arg : List Tok) (rest : List Given)
    → delimited long delimiter level body given ≡ Ended arg rest → Rest long delimiter level body given arg rest
delimited-rest long delimiter level body [] arg rest e = cc
delimited-rest long delimiter level body (AToken t ∷ given) arg rest e =
    rest-by long delimiter level body t given arg rest (λ l b. delimited-rest long delimiter l b given arg rest) (at_base level (begins delimiter (AToken t ∷ given))) refl e
delimited-rest long delimiter level body (AQuantity q ∷ given) arg rest e = cc
delimited-rest long delimiter level body (End ∷ given) arg rest e = cc

pub delimited-read : (long : Bool) (delimiter arg : List Tok) (given rest : List Given) → delimited long delimiter 0 [] given ≡ Ended arg rest
    → (body : List Tok) × (arg ≡ without_braces body) × IsDelimited long delimiter given body rest
delimited-read long delimiter arg given rest e =
    let r : Rest long delimiter 0 [] given arg rest = delimited-rest long delimiter 0 [] given arg rest e in
    (r.toks, r.same, record { parts = r.parts; balanced = r.balanced; fits = r.fits; shortest = r.shortest })

-- ---- Where none is

abbrev None_from : Bool → Tok → List Tok → ℕ → List Tok → List Given → Kind → Type 0
None_from long d delimiter level body given kind =
    (other : List Tok) (more behind : List Given) → levels (Some level) other ≡ Some 0 → Fits long other
    → given ++ more ≡ before other (AToken d ∷ before delimiter behind) → (kind ≡ DepthLimit) × (1000000 < length body + length other)

-- the token does not begin the delimiter, and it is taken, or one token too many
none-then : (long : Bool) (d : Tok) (delimiter : List Tok) (level next : ℕ) (body : List Tok) (t : Tok) (given : List Given) (kind : Kind)
    → level_then t level ≡ Some next → at_base level (begins (d ∷ delimiter) (AToken t ∷ given)) ≡ DoesNot
    → ((kind ≡ DepthLimit) × (1000000 ≤ length body)) ⊎ None_from long d delimiter next (body ++ t ∷ []) given kind
    → None_from long d delimiter level body (AToken t ∷ given) kind
none-then long d delimiter level next body t given kind e n r [] more behind l f q = absurd (not-here level n l) where
  not-here : (level : ℕ) → at_base level (begins (d ∷ delimiter) (AToken t ∷ given)) ≡ DoesNot → Some level ≡ Some 0 → ⊥
  not-here zero n l = begins-not (d ∷ delimiter) (AToken t ∷ given) more behind n q
  not-here (suc k) n l = cc
none-then long d delimiter level next body t given kind e n (inl m) (s ∷ other) more behind l f q = (m.0, omega (arith, m.1))
none-then long d delimiter level next body t given kind e n (inr ih) (s ∷ other) more behind l (token h f) q =
    let head : t ≡ s = cc in
    let tail : given ++ more ≡ before other (AToken d ∷ before delimiter behind) = cc in
    let b : levels (Some next) other ≡ Some 0 = ap (λ (o : Option ℕ). levels o other) (sym e ∙ ap (λ k. level_then k level) head) ∙ l in
    let m = ih other more behind b f tail in
    let s : length (body ++ t ∷ []) ≡ length body + 1 = length-append body (t ∷ []) in
    (m.0, omega (arith, m.1, s))

none-taken : (long : Bool) (d : Tok) (delimiter : List Tok) (level : ℕ) (body : List Tok) (t : Tok) (given : List Given) (kind : Kind)
    → at_base level (begins (d ∷ delimiter) (AToken t ∷ given)) ≡ DoesNot
    → ((l : ℕ) (b : List Tok) → delimited long (d ∷ delimiter) l b given ≡ Wrong kind → None_from long d delimiter l b given kind)
    → Stands long t → delimited_as (brace_of long t) level body t (λ l b. delimited long (d ∷ delimiter) l b given) ≡ Wrong kind
    → None_from long d delimiter level body (AToken t ∷ given) kind
none-taken long d delimiter level body t given kind n ih (opening k o l f) e =
    none-then long d delimiter level (suc level) body t given kind (l level) n
    (either (longer-wrong body t (λ b. delimited long (d ∷ delimiter) (suc level) b given) kind
    (sym (ap (λ (x : Brace). delimited_as x level body t (λ l b. delimited long (d ∷ delimiter) l b given)) k) ∙ e)))
  where
    either : ((kind ≡ DepthLimit) × (1000000 ≤ length body)) ⊎ (delimited long (d ∷ delimiter) (suc level) (body ++ t ∷ []) given ≡ Wrong kind)
        → ((kind ≡ DepthLimit) × (1000000 ≤ length body)) ⊎ None_from long d delimiter (suc level) (body ++ t ∷ []) given kind
    either (inl m) = inl m
    either (inr q) = inr (ih (suc level) (body ++ t ∷ []) q)
none-taken long d delimiter zero body t given kind n ih (closing k o l f) e = at where
  at : None_from long d delimiter 0 body (AToken t ∷ given) kind
  at [] more behind b g q = absurd (begins-not (d ∷ delimiter) (AToken t ∷ given) more behind n q)
  at (s ∷ other) more behind b g q =
      let head : t ≡ s = cc in
      absurd (none-left other (ap (λ (o : Option ℕ). levels o other) (sym (l 0) ∙ ap (λ k. level_then k 0) head) ∙ b)) where
        none-left : (other : List Tok) → levels None other ≡ Some 0 → ⊥
        none-left [] b = cc
        none-left (x ∷ other) b = cc
none-taken long d delimiter (suc level) body t given kind n ih (closing k o l f) e =
    none-then long d delimiter (suc level) level body t given kind (l (suc level)) n
    (either (longer-wrong body t (λ b. delimited long (d ∷ delimiter) level b given) kind
    (sym (ap (λ (x : Brace). delimited_as x (suc level) body t (λ l b. delimited long (d ∷ delimiter) l b given)) k) ∙ e)))
  where
    either : ((kind ≡ DepthLimit) × (1000000 ≤ length body)) ⊎ (delimited long (d ∷ delimiter) level (body ++ t ∷ []) given ≡ Wrong kind)
        → ((kind ≡ DepthLimit) × (1000000 ≤ length body)) ⊎ None_from long d delimiter level (body ++ t ∷ []) given kind
    either (inl m) = inl m
    either (inr q) = inr (ih level (body ++ t ∷ []) q)
none-taken long d delimiter level body t given kind n ih (paragraph k f) e = at where
  not-here : (level : ℕ) (more behind : List Given) → at_base level (begins (d ∷ delimiter) (AToken t ∷ given)) ≡ DoesNot → Some level ≡ Some 0
      → AToken t ∷ given ++ more ≡ AToken d ∷ before delimiter behind → ⊥
  not-here zero more behind n l q = begins-not (d ∷ delimiter) (AToken t ∷ given) more behind n q
  not-here (suc k) more behind n l q = cc

  at : None_from long d delimiter level body (AToken t ∷ given) kind
  at [] more behind b g q = absurd (not-here level more behind n b q)
  at (s ∷ other) more behind b (token h g) q =
      let head : t ≡ s = cc in
      let r : is_barred long s ≡ true = sym (ap (is_barred long) head) ∙ f in
      cc
none-taken long d delimiter level body t given kind n ih (plain k o c l f) e =
    none-then long d delimiter level level body t given kind (l level) n
    (either (longer-wrong body t (λ b. delimited long (d ∷ delimiter) level b given) kind
    (sym (ap (λ (x : Brace). delimited_as x level body t (λ l b. delimited long (d ∷ delimiter) l b given)) k) ∙ e)))
  where
    either : ((kind ≡ DepthLimit) × (1000000 ≤ length body)) ⊎ (delimited long (d ∷ delimiter) level (body ++ t ∷ []) given ≡ Wrong kind)
        → ((kind ≡ DepthLimit) × (1000000 ≤ length body)) ⊎ None_from long d delimiter level (body ++ t ∷ []) given kind
    either (inl m) = inl m
    either (inr q) = inr (ih level (body ++ t ∷ []) q)

pub cut-at-base : (level : ℕ) (begun : Begun) → at_base level begun ≡ Cut → begun ≡ Cut
cut-at-base zero begun e = e
cut-at-base (suc level) begun e = cc

none-by : (long : Bool) (d : Tok) (delimiter : List Tok) (level : ℕ) (body : List Tok) (t : Tok) (given : List Given) (kind : Kind)
    → ((l : ℕ) (b : List Tok) → delimited long (d ∷ delimiter) l b given ≡ Wrong kind → None_from long d delimiter l b given kind)
    → (begun : Begun) → at_base level (begins (d ∷ delimiter) (AToken t ∷ given)) ≡ begun
    → delimited_by begun body (delimited_as (brace_of long t) level body t (λ l b. delimited long (d ∷ delimiter) l b given)) ≡ Wrong kind
    → None_from long d delimiter level body (AToken t ∷ given) kind
none-by long d delimiter level body t given kind ih (Does r) n e = cc
none-by long d delimiter level body t given kind ih May n e = cc
none-by long d delimiter level body t given kind ih Cut n e = λ other more behind l f q.
    let c : Cuts (length (d ∷ delimiter)) (AToken t ∷ given) = begins-cut (d ∷ delimiter) (AToken t ∷ given) (cut-at-base level (begins (d ∷ delimiter) (AToken t ∷ given)) n) in
    let a : length (other ++ d ∷ delimiter) ≡ length other + length (d ∷ delimiter) = length-append other (d ∷ delimiter) in
    absurd (cut-short (length (d ∷ delimiter)) (AToken t ∷ given) more behind (other ++ d ∷ delimiter) c (omega (arith, a)) (q ∙ before-before other (d ∷ delimiter) behind))
none-by long d delimiter level body t given kind ih DoesNot n e = none-taken long d delimiter level body t given kind n ih (stands long t) e

no-token : (g : Given) → ((t : Tok) → g ≡ AToken t → ⊥) → (given more behind : List Given) (other : List Tok) (d : Tok)
    → g ∷ given ++ more ≡ before other (AToken d ∷ behind) → ⊥
no-token g n given more behind [] d q = let h : g ≡ AToken d = cc in n d h
no-token g n given more behind (s ∷ other) d q = let h : g ≡ AToken s = cc in n s h

delimited-none : (long : Bool) (d : Tok) (delimiter : List Tok) (level : ℕ) (body : List Tok) (given : List Given) (kind : Kind)
    → delimited long (d ∷ delimiter) level body given ≡ Wrong kind → None_from long d delimiter level body given kind
delimited-none long d delimiter level body [] kind e = cc
delimited-none long d delimiter level body (AToken t ∷ given) kind e =
    none-by long d delimiter level body t given kind (λ l b. delimited-none long d delimiter l b given kind) (at_base level (begins (d ∷ delimiter) (AToken t ∷ given))) refl e
delimited-none long d delimiter level body (AQuantity x ∷ given) kind e =
    λ other more behind l f q. absurd (no-token (AQuantity x) (λ t h. cc) given more (before delimiter behind) other d q)
delimited-none long d delimiter level body (End ∷ given) kind e =
    λ other more behind l f q. absurd (no-token End (λ t h. cc) given more (before delimiter behind) other d q)

pub none-delimited : (long : Bool) (d : Tok) (delimiter : List Tok) (given : List Given) (kind : Kind)
    → delimited long (d ∷ delimiter) 0 [] given ≡ Wrong kind
    → (kind ≡ DepthLimit → ⊥) → NoneDelimited long (d ∷ delimiter) given
none-delimited long d delimiter given kind e n body more behind b f q = n (delimited-none long d delimiter 0 [] given kind e body more behind b f q).0

pub only-longer : (long : Bool) (d : Tok) (delimiter : List Tok) (given : List Given) → delimited long (d ∷ delimiter) 0 [] given ≡ Wrong DepthLimit
    → OnlyLonger long (d ∷ delimiter) given 1000000
only-longer long d delimiter given e body more behind b f q =
    let m = (delimited-none long d delimiter 0 [] given DepthLimit e body more behind b f q).1 in omega (arith, m)
