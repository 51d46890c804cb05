-- Readings by a grammar, one token at a time.
use Rattle.std.proofs.Common.{append-nil, ◌≡◌, ◌∙◌, ◌++◌, ◌≤◌, List, [], ◌∷◌, length, refl, ap, sym, subst, arith}
use Rattle.lb_model_grammar.specs.declared.given.Given.{Given}
use Rattle.lb_model_grammar.specs.Scans.{Meant}
use Rattle.lb_model_grammar.specs.Scans.Meant.{Open, Ended, Wrong}
use Rattle.lb_model_grammar.specs.Written.{IsRead, NoneBegins, Reads, ReadsOr, Worth, outcome}
use Rattle.lb_model_grammar.specs.Written.ReadsOr.{none, reads}
use Rattle.lb_model_grammar.specs.Written.Worth.{TooLarge, Value}

-- behind this the one grammar goes on as the other
pub record Step {X : Type 0} (G H : List Given → Worth X → Type 0) (g : Given) : Type 0 where
  pub into : (all : List Given) (w : Worth X) → H all w → G (g ∷ all) w
  pub onto : (all : List Given) (w : Worth X) → G (g ∷ all) w → H all w

no-longer : {X : Type 0} {G H : List Given → Worth X → Type 0} {g : Given} (s : Step G H g) (given read : List Given)
    → ((more all behind : List Given) (w : Worth X) → given ++ more ≡ all ++ behind → H all w → length all ≤ length read)
    → (more all behind : List Given) (w : Worth X) → g ∷ given ++ more ≡ all ++ behind → G all w → length all ≤ length (g ∷ read)
no-longer s given read longest more [] behind w e is = omega arith
no-longer {X} {G} {H} {g} s given read longest more (h ∷ all) behind w e is =
    let head : h ≡ g = cc in
    let tail : given ++ more ≡ all ++ behind = cc in
    let less = longest more all behind w tail (s.onto all w (subst (λ (k : Given). G (k ∷ all) w) head is)) in
    omega (arith, less)

pub read-behind : {X : Type 0} {G H : List Given → Worth X → Type 0} {g : Given} → Step G H g → (given : List Given) (w : Worth X) (rest : List Given)
    → IsRead H given w rest → IsRead G (g ∷ given) w rest
read-behind {g = g} s given w rest r =
    record { read = g ∷ r.read; parts = ap (λ l. g ∷ l) r.parts; is = s.into r.read w r.is; longest = no-longer s given r.read r.longest }

pub reads-behind : {X : Type 0} {G H : List Given → Worth X → Type 0} {g : Given} → Step G H g → (given : List Given) (m : Meant X)
    → Reads H given m → Reads G (g ∷ given) m
reads-behind s given (Open want) r =
    record { next = r.next; answers = r.answers; more = r.more; worth = r.worth; is = s.into (given ++ r.next ∷ r.more) r.worth r.is }
reads-behind s given (Ended x rest) r = read-behind s given (Value x) rest r
reads-behind s given (Wrong kind) r = record { rest = r.rest; is = read-behind s given (TooLarge kind) r.rest r.is }

pub none-behind : {X : Type 0} {G H : List Given → Worth X → Type 0} {g : Given} → Step G H g → ((w : Worth X) → G [] w → ⊥) → (given : List Given)
    → NoneBegins H given → NoneBegins G (g ∷ given)
none-behind s empty given n more [] behind w e is = empty w is
none-behind {G = G} {g = g} s empty given n more (h ∷ all) behind w e is =
    let head : h ≡ g = cc in
    let tail : given ++ more ≡ all ++ behind = cc in
    n more all behind w tail (s.onto all w (subst (λ (k : Given). G (k ∷ all) w) head is))

pub reads-or-behind : {X : Type 0} {F : Meant X → Type 0} {G H : List Given → Worth X → Type 0} {g : Given} → Step G H g
    → ((w : Worth X) → G [] w → ⊥) → (given : List Given) (m : Meant X) → ReadsOr F H given m → ReadsOr F G (g ∷ given) m
reads-or-behind s empty given m (reads r) = reads (reads-behind s given m r)
reads-or-behind s empty given m (none f n) = none f (none-behind s empty given n)

-- ---- Ends

of-outcome : {X : Type 0} {G : List Given → Worth X → Type 0} (given rest : List Given) (w : Worth X) → IsRead G given w rest
    → Reads G given (outcome w rest)
of-outcome given rest (Value x) r = r
of-outcome given rest (TooLarge kind) r = record { rest = rest; is = r }

-- the grammar has nothing more behind this
pub ends-with : {X : Type 0} (G : List Given → Worth X → Type 0) (g : Given) (given : List Given) (w : Worth X) → G (g ∷ []) w
    → ((all : List Given) (v : Worth X) → G (g ∷ all) v → all ≡ []) → Reads G (g ∷ given) (outcome w given)
ends-with {X} G g given w is only = of-outcome (g ∷ given) given w (record { read = g ∷ []; parts = refl; is = is; longest = longest }) where
  longest : (more all behind : List Given) (v : Worth X) → g ∷ given ++ more ≡ all ++ behind → G all v → length all ≤ 1
  longest more [] behind v e i = omega arith
  longest more (h ∷ all) behind v e i =
      let head : h ≡ g = cc in
      let n : all ≡ [] = only all v (subst (λ (k : Given). G (k ∷ all) v) head i) in
      let l : length all ≡ 0 = ap length n in
      omega (arith, l)

-- the grammar has nothing that begins with this, and ends before it
pub ends-before : {X : Type 0} (G : List Given → Worth X → Type 0) (g : Given) (given : List Given) (w : Worth X) → G [] w
    → ((all : List Given) (v : Worth X) → G (g ∷ all) v → ⊥) → Reads G (g ∷ given) (outcome w (g ∷ given))
ends-before {X} G g given w is not_this = of-outcome (g ∷ given) (g ∷ given) w (record { read = []; parts = refl; is = is; longest = longest }) where
  longest : (more all behind : List Given) (v : Worth X) → g ∷ given ++ more ≡ all ++ behind → G all v → length all ≤ 0
  longest more [] behind v e i = omega arith
  longest more (h ∷ all) behind v e i =
      let head : h ≡ g = cc in
      absurd (not_this all v (subst (λ (k : Given). G (k ∷ all) v) head i))

-- the grammar has nothing that begins with this
pub nothing-begins : {X : Type 0} (G : List Given → Worth X → Type 0) (g : Given) (given : List Given) → ((w : Worth X) → G [] w → ⊥)
    → ((all : List Given) (v : Worth X) → G (g ∷ all) v → ⊥) → NoneBegins G (g ∷ given)
nothing-begins G g given empty not_this more [] behind w e is = empty w is
nothing-begins G g given empty not_this more (h ∷ all) behind w e is =
    let head : h ≡ g = cc in
    not_this all w (subst (λ (k : Given). G (k ∷ all) w) head is)

-- ---- One grammar for another, of lists that begin with this

-- what the one has the other has too, and of those that begin with this it has no more
pub record Same {X : Type 0} (G H : List Given → Worth X → Type 0) (g : Given) : Type 0 where
  pub empty : (w : Worth X) → H [] w → G [] w
  pub into : (all : List Given) (w : Worth X) → H (g ∷ all) w → G (g ∷ all) w
  pub onto : (all : List Given) (w : Worth X) → G (g ∷ all) w → H (g ∷ all) w

same-read : {X : Type 0} {G H : List Given → Worth X → Type 0} {g : Given} → Same G H g → (given read rest : List Given) (w : Worth X)
    → g ∷ given ≡ read ++ rest → H read w → G read w
same-read s given [] rest w e is = s.empty w is
same-read {G = G} {H = H} {g = g} s given (h ∷ read) rest w e is =
    let head : h ≡ g = cc in
    subst (λ (k : Given). G (k ∷ read) w) (sym head) (s.into read w (subst (λ (k : Given). H (k ∷ read) w) head is))

as-read : {X : Type 0} {G H : List Given → Worth X → Type 0} {g : Given} → Same G H g → (given : List Given) (w : Worth X) (rest : List Given)
    → IsRead H (g ∷ given) w rest → IsRead G (g ∷ given) w rest
as-read {X} {G} {H} {g} s given w rest r =
    record { read = r.read; parts = r.parts; is = same-read s given r.read rest w r.parts r.is; longest = longest }
  where
    longest : (more all behind : List Given) (v : Worth X) → g ∷ given ++ more ≡ all ++ behind → G all v → length all ≤ length r.read
    longest more [] behind v e i = omega arith
    longest more (h ∷ all) behind v e i =
        let head : h ≡ g = cc in
        let is : H (h ∷ all) v =
        subst (λ (k : Given). H (k ∷ all) v) (sym head) (s.onto all v (subst (λ (k : Given). G (k ∷ all) v) head i)) in
        r.longest more (h ∷ all) behind v e is

pub reads-as : {X : Type 0} {G H : List Given → Worth X → Type 0} {g : Given} → Same G H g → (given : List Given) (m : Meant X)
    → Reads H (g ∷ given) m → Reads G (g ∷ given) m
reads-as s given (Open want) r =
    record { next = r.next; answers = r.answers; more = r.more; worth = r.worth; is = s.into (given ++ r.next ∷ r.more) r.worth r.is }
reads-as s given (Ended x rest) r = as-read s given (Value x) rest r
reads-as s given (Wrong kind) r = record { rest = r.rest; is = as-read s given (TooLarge kind) r.rest r.is }

none-as : {X : Type 0} {G H : List Given → Worth X → Type 0} {g : Given} → Same G H g → ((w : Worth X) → G [] w → ⊥) → (given : List Given)
    → NoneBegins H (g ∷ given) → NoneBegins G (g ∷ given)
none-as s empty given n more [] behind w e i = empty w i
none-as {G = G} {H = H} {g = g} s empty given n more (h ∷ all) behind w e i =
    let head : h ≡ g = cc in
    n more (h ∷ all) behind w e (subst (λ (k : Given). H (k ∷ all) w) (sym head) (s.onto all w (subst (λ (k : Given). G (k ∷ all) w) head i)))

pub reads-or-as : {X : Type 0} {F : Meant X → Type 0} {G H : List Given → Worth X → Type 0} {g : Given} → Same G H g
    → ((w : Worth X) → G [] w → ⊥) → (given : List Given) (m : Meant X) → ReadsOr F H (g ∷ given) m → ReadsOr F G (g ∷ given) m
reads-or-as s empty given m (reads r) = reads (reads-as s given m r)
reads-or-as s empty given m (none f n) = none f (none-as s empty given n)

-- ---- One grammar for another

pub record Equal {X : Type 0} (G H : List Given → Worth X → Type 0) : Type 0 where
  pub into : (all : List Given) (w : Worth X) → H all w → G all w
  pub onto : (all : List Given) (w : Worth X) → G all w → H all w

equal-read : {X : Type 0} {G H : List Given → Worth X → Type 0} → Equal G H → (given : List Given) (w : Worth X) (rest : List Given)
    → IsRead H given w rest → IsRead G given w rest
equal-read s given w rest r =
    record { read = r.read; parts = r.parts; is = s.into r.read w r.is; longest = λ more all behind v e i. r.longest more all behind v e (s.onto all v i) }

pub reads-equal : {X : Type 0} {G H : List Given → Worth X → Type 0} → Equal G H → (given : List Given) (m : Meant X) → Reads H given m
    → Reads G given m
reads-equal s given (Open want) r =
    record { next = r.next; answers = r.answers; more = r.more; worth = r.worth; is = s.into (given ++ r.next ∷ r.more) r.worth r.is }
reads-equal s given (Ended x rest) r = equal-read s given (Value x) rest r
reads-equal s given (Wrong kind) r = record { rest = r.rest; is = equal-read s given (TooLarge kind) r.rest r.is }

pub reads-or-equal : {X : Type 0} {F : Meant X → Type 0} {G H : List Given → Worth X → Type 0} → Equal G H → (given : List Given) (m : Meant X)
    → ReadsOr F H given m → ReadsOr F G given m
reads-or-equal s given m (reads r) = reads (reads-equal s given m r)
reads-or-equal s given m (none f n) = none f (λ more all behind w e i. n more all behind w e (s.onto all w i))

-- ---- One grammar for another, of lists that what was given begins, or that begin it

pub record Among {X : Type 0} (G H : List Given → Worth X → Type 0) (given : List Given) : Type 0 where
  pub into : (more all behind : List Given) (w : Worth X) → given ++ more ≡ all ++ behind → H all w → G all w
  pub onto : (more all behind : List Given) (w : Worth X) → given ++ more ≡ all ++ behind → G all w → H all w

among-read : {X : Type 0} {G H : List Given → Worth X → Type 0} {given : List Given} → Among G H given → (w : Worth X) (rest : List Given)
    → IsRead H given w rest → IsRead G given w rest
among-read {given = given} s w rest r = record {
  read = r.read;
  parts = r.parts;
  is = s.into [] r.read rest w (append-nil given ∙ r.parts) r.is;
  longest = λ more all behind v e i. r.longest more all behind v e (s.onto more all behind v e i);
}

pub reads-among : {X : Type 0} {G H : List Given → Worth X → Type 0} {given : List Given} → Among G H given → (m : Meant X) → Reads H given m
    → Reads G given m
reads-among {given = given} s (Open want) r =
    record { next = r.next; answers = r.answers; more = r.more; worth = r.worth; is = s.into (r.next ∷ r.more) (given ++ r.next ∷ r.more) [] r.worth (sym (append-nil (given ++ r.next ∷ r.more))) r.is }
reads-among s (Ended x rest) r = among-read s (Value x) rest r
reads-among s (Wrong kind) r = record { rest = r.rest; is = among-read s (TooLarge kind) r.rest r.is }

pub reads-or-among : {X : Type 0} {F : Meant X → Type 0} {G H : List Given → Worth X → Type 0} {given : List Given} → Among G H given → (m : Meant X)
    → ReadsOr F H given m → ReadsOr F G given m
reads-or-among s m (reads r) = reads (reads-among s m r)
reads-or-among s m (none f n) = none f (λ more all behind w e i. n more all behind w e (s.onto more all behind w e i))

-- where the grammar has the empty list, something begins there all the same
pub reads-or-behind-full : {X : Type 0} {F : Meant X → Type 0} {G H : List Given → Worth X → Type 0} {g : Given} → Step G H g → (given : List Given)
    → ((w : Worth X) → G [] w → NoneBegins H given → ⊥) → (m : Meant X) → ReadsOr F H given m → ReadsOr F G (g ∷ given) m
reads-or-behind-full s given empty m (reads r) = reads (reads-behind s given m r)
reads-or-behind-full s given empty m (none f n) = none f (none-behind s (λ w i. empty w i n) given n)

pub among-same : {X : Type 0} {G H : List Given → Worth X → Type 0} {g : Given} → Same G H g → ((w : Worth X) → G [] w → H [] w)
    → (given : List Given)
    → Among G H (g ∷ given)
among-same {X} {G} {H} {g} s back given = record { into = into; onto = onto } where
  into : (more all behind : List Given) (w : Worth X) → g ∷ given ++ more ≡ all ++ behind → H all w → G all w
  into more [] behind w e i = s.empty w i
  into more (h ∷ all) behind w e i =
      let head : h ≡ g = cc in
      subst (λ (k : Given). G (k ∷ all) w) (sym head) (s.into all w (subst (λ (k : Given). H (k ∷ all) w) head i))

  onto : (more all behind : List Given) (w : Worth X) → g ∷ given ++ more ≡ all ++ behind → G all w → H all w
  onto more [] behind w e i = back w i
  onto more (h ∷ all) behind w e i =
      let head : h ≡ g = cc in
      subst (λ (k : Given). H (k ∷ all) w) (sym head) (s.onto all w (subst (λ (k : Given). G (k ∷ all) w) head i))

-- the grammar has a list
pub record Has {X : Type 0} (G : List Given → Worth X → Type 0) : Type 0 where
  pub some : List Given
  pub worth : Worth X
  pub is : G some worth
