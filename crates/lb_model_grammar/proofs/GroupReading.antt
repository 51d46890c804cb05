-- What groups and undelimited arguments are, and why there is no argument.
use Rattle.std.proofs.Common.{◌≡◌, ◌∙◌, ◌++◌, ◌≤◌, Bool, true, false, ℕ, zero, suc, List, [], ◌∷◌, length, Some, None, refl, ap, sym, subst, inl, inr, append_assoc, append-nil}
use Rattle.std.specs.Prelude.{◌⊎◌, ◌&&◌, Option, if◌then◌else◌}
use Rattle.lb_base.specs.declared.fault.Kind.TheVariants.{DepthLimit, Runaway, UseMismatch}
use Rattle.lb_base.specs.declared.token.Category.TheVariants as category
use Rattle.lb_base.specs.declared.token.Tok.{Tok}
use Rattle.lb_base.specs.declared.token.Tok.TheVariants.{Char, Word, Active, Param}
use Rattle.lb_model_grammar.specs.declared.class.Brace.{Brace}
use Rattle.lb_model_grammar.specs.declared.given.Given.{Given}
use Rattle.lb_model_grammar.specs.declared.given.Given.TheVariants.{Tok as AToken, Quantity as AQuantity, End}
use Rattle.lb_model_grammar.specs.ArgumentGrammar.{ClosesAtBase, ClosesFirst, Fits, IsGroup, IsUndelimited, Stops, before, is_barred, levels}
use Rattle.lb_model_grammar.specs.ArgumentGrammar.Fits.{nothing, token}
use Rattle.lb_model_grammar.specs.ArgumentGrammar.IsUndelimited.{blank, group as a_group, token as a_token}
use Rattle.lb_model_grammar.specs.ArgumentGrammar.ClosesFirst.{blank as first_blank, closing as first_closing}
use Rattle.lb_model_grammar.specs.ArgumentGrammar.Stops.{end as stop_end, later as stop_later, paragraph as stop_paragraph, quantity as stop_quantity}
use Rattle.lb_model_grammar.specs.Arguments.{Begun, at_base, begins, brace_of, but_last, closes, closes_at_end, delimited, delimited_as, delimited_by, group, group_as, is_par, level_then, longer, one_less, opens, undelimited, undelimited_as, without_braces}
use Rattle.lb_model_grammar.specs.Arguments.Begun.{Cut, Does, DoesNot, May}
use Rattle.lb_model_grammar.specs.Scans.{Meant, is_space}
use Rattle.lb_model_grammar.specs.Scans.Meant.{Ended, Wrong}
use Rattle.lb_model_grammar.proofs.ArgumentReading.{Stands, cut-at-base, begins-cut, longer-ended, longer-wrong, stands, Cuts}
use Rattle.lb_model_grammar.proofs.ArgumentReading.Stands.{closing, opening, paragraph, plain}
use Rattle.lb_model_grammar.proofs.ArgumentReading.Cuts.{end as cut_end, later as cut_later, quantity as cut_quantity}

-- ---- Braces of a whole group

last-off : (toks : List Tok) (c : Tok) → but_last (toks ++ c ∷ []) ≡ toks
last-off [] c = refl
last-off (t ∷ []) c = refl
last-off (t ∷ s ∷ toks) c = ap (λ l. t ∷ l) (last-off (s ∷ toks) c)

none-levels : (toks : List Tok) → levels None toks ≡ None
none-levels [] = refl
none-levels (t ∷ toks) = refl

both : (a b : Bool) → (a && b) ≡ true → (a ≡ true) × (b ≡ true)
both true true e = (e, e)
both true false e = cc
both false b e = cc

-- a long macro takes all tokens
barred-short : (t : Tok) → is_barred true t ≡ true → ⊥
barred-short t q = let b : false ≡ true = (both (is_par t) false q).1 in cc

opens-not : (t : Tok) → opens t ≡ true → closes t ≡ false
opens-not (Char category.BeginGroup c) e = refl
opens-not (Char cat c) e = cc
opens-not (Word name) e = cc
opens-not (Active c) e = cc
opens-not (Param k) e = cc

-- a token that closes and does not open
closed-level : (t : Tok) (level : ℕ) → closes t ≡ true → level_then t level ≡ one_less level
closed-level t level e = by (stands true t) where
  by : Stands true t → level_then t level ≡ one_less level
  by (closing k c l f) = l level
  by (opening k o l f) = let x = opens-not t o in cc
  by (paragraph k f) = absurd (barred-short t f)
  by (plain k o c l f) = cc

closes-at : (level : ℕ) (inner : List Tok) (c : Tok) → closes c ≡ true → levels (Some level) inner ≡ Some 0
    → closes_at_end (Some level) (inner ++ c ∷ []) ≡ true
closes-at level [] c e l = at level l where
  at : (level : ℕ) → Some level ≡ Some 0 → closes_at_end (level_then c level) [] ≡ true
  at zero l = ap (λ (o : Option ℕ). closes_at_end o []) (closed-level c 0 e)
  at (suc k) l = cc
closes-at level (t ∷ inner) c e l = by (level_then t level) l (λ k q. closes-at k inner c e q) where
  by : (o : Option ℕ) → levels o inner ≡ Some 0 → ((k : ℕ) → levels (Some k) inner ≡ Some 0 → closes_at_end (Some k) (inner ++ c ∷ []) ≡ true)
      → closes_at_end o (inner ++ c ∷ []) ≡ true
  by (Some k) q ih = ih k q
  by None q ih = let n : levels None inner ≡ None = none-levels inner in cc

pub braces-go : (toks inner : List Tok) → IsGroup toks inner → without_braces toks ≡ inner
braces-go toks inner g =
    let test : (opens g.opening && closes_at_end (Some 0) (inner ++ g.closing ∷ [])) ≡ true =
    (λ i. g.opened i && closes-at 0 inner g.closing g.closed g.balanced i) in
    ap without_braces g.parts
    ∙ ap (λ (b : Bool). if b then but_last (inner ++ g.closing ∷ []) else g.opening ∷ inner ++ g.closing ∷ []) test
    ∙ last-off inner g.closing

record Closed (level : ℕ) (toks : List Tok) : Type 0 where
  inner : List Tok
  last : Tok
  closed : closes last ≡ true
  balanced : levels (Some level) inner ≡ Some 0
  parts : toks ≡ inner ++ last ∷ []

closed-none : (t : Tok) (level : ℕ) → level_then t level ≡ None → (closes t ≡ true) × (Some level ≡ Some 0)
closed-none t level e = by (stands true t) where
  by : Stands true t → (closes t ≡ true) × (Some level ≡ Some 0)
  by (closing k c l f) = (c, at level (sym (l level) ∙ e)) where
    at : (level : ℕ) → one_less level ≡ None → Some level ≡ Some 0
    at zero q = refl
    at (suc n) q = cc
  by (opening k o l f) = let q : Some (suc level) ≡ None = sym (l level) ∙ e in cc
  by (paragraph k f) = absurd (barred-short t f)
  by (plain k o c l f) = let q : Some level ≡ None = sym (l level) ∙ e in cc

closed-of : (level : ℕ) (toks : List Tok) → closes_at_end (Some level) toks ≡ true → Closed level toks
closed-of level [] e = cc
closed-of level (t ∷ toks) e = by (level_then t level) refl toks e (λ k q. closed-of k toks q) where
  by : (o : Option ℕ) → level_then t level ≡ o → (toks : List Tok) → closes_at_end o toks ≡ true
      → ((k : ℕ) → closes_at_end (Some k) toks ≡ true → Closed k toks) → Closed level (t ∷ toks)
  by None l [] q ih =
      let c = closed-none t level l in
      record { inner = []; last = t; closed = c.0; balanced = c.1; parts = refl }
  by None l (s ∷ toks) q ih = cc
  by (Some k) l toks q ih =
      let c : Closed k toks = ih k q in
      record { inner = t ∷ c.inner; last = c.last; closed = c.closed; balanced = ap (λ (o : Option ℕ). levels o c.inner) l ∙ c.balanced; parts = ap (λ x. t ∷ x) c.parts }

pub braces-stay : (toks : List Tok) → ((inner : List Tok) → IsGroup toks inner → ⊥) → without_braces toks ≡ toks
braces-stay [] n = refl
braces-stay (t ∷ toks) n = by (opens t) (closes_at_end (Some 0) toks) refl refl where
  by : (a b : Bool) → opens t ≡ a → closes_at_end (Some 0) toks ≡ b → (if a && b then but_last toks else t ∷ toks) ≡ t ∷ toks
  by false b o c = refl
  by true false o c = refl
  by true true o c =
      let g : Closed 0 toks = closed-of 0 toks c in
      absurd (n g.inner (record { opening = t; closing = g.last; opened = o; closed = g.closed; balanced = g.balanced; parts = ap (λ x. t ∷ x) g.parts }))

-- ---- Groups

record Rest (long : Bool) (level : ℕ) (body : List Tok) (given : List Given) (arg : List Tok) (rest : List Given) : Type 0 where
  toks : List Tok
  last : Tok
  closed : closes last ≡ true
  parts : given ≡ before toks (AToken last ∷ rest)
  same : arg ≡ body ++ toks
  balanced : levels (Some level) toks ≡ Some 0
  fits : Fits long toks

rest-then : (long : Bool) (level next : ℕ) (body : List Tok) (t : Tok) (given : List Given) (arg : List Tok) (rest : List Given)
    → is_barred long t ≡ false → level_then t level ≡ Some next → Rest long next (body ++ t ∷ []) given arg rest
    → Rest long level body (AToken t ∷ given) arg rest
rest-then long level next body t given arg rest f e r = record {
  toks = t ∷ r.toks;
  last = r.last;
  closed = r.closed;
  parts = ap (λ l. AToken t ∷ l) r.parts;
  same = r.same ∙ append_assoc body (t ∷ []) r.toks;
  balanced = ap (λ (o : Option ℕ). levels o r.toks) e ∙ r.balanced;
  fits = token f r.fits;
}

group-taken : (long : Bool) (level : ℕ) (body : List Tok) (t : Tok) (given : List Given) (arg : List Tok) (rest : List Given)
    → ((l : ℕ) (b : List Tok) → group long l b given ≡ Ended arg rest → Rest long l b given arg rest)
    → Stands long t → group_as (brace_of long t) level body t (λ l b. group long l b given) given ≡ Ended arg rest
    → Rest long level body (AToken t ∷ given) arg rest
group-taken long level body t given arg rest ih (opening k o l f) e =
    let q : longer body t (λ b. group long (suc level) b given) ≡ Ended arg rest =
    sym (ap (λ (x : Brace). group_as x level body t (λ l b. group long l b given) given) k) ∙ e in
    rest-then long level (suc level) body t given arg rest f (l level) (ih (suc level) (body ++ t ∷ []) (longer-ended body t (λ b. group long (suc level) b given) arg rest q))
group-taken long zero body t given arg rest ih (closing k c l f) e =
    let q : Ended body given ≡ Ended arg rest = sym (ap (λ (x : Brace). group_as x 0 body t (λ l b. group long l b given) given) k) ∙ e in
    let a : body ≡ arg = cc in
    let r : given ≡ rest = cc in
    record { toks = []; last = t; closed = c; parts = ap (λ x. AToken t ∷ x) r; same = sym a ∙ sym (append-nil body); balanced = refl; fits = nothing }
group-taken long (suc level) body t given arg rest ih (closing k c l f) e =
    let q : longer body t (λ b. group long level b given) ≡ Ended arg rest =
    sym (ap (λ (x : Brace). group_as x (suc level) body t (λ l b. group long l b given) given) k) ∙ e in
    rest-then long (suc level) level body t given arg rest f (l (suc level)) (ih level (body ++ t ∷ []) (longer-ended body t (λ b. group long level b given) arg rest q))
group-taken long level body t given arg rest ih (paragraph k f) e =
    let q : Wrong Runaway ≡ Ended arg rest = sym (ap (λ (x : Brace). group_as x level body t (λ l b. group long l b given) given) k) ∙ e in cc
group-taken long level body t given arg rest ih (plain k o c l f) e =
    let q : longer body t (λ b. group long level b given) ≡ Ended arg rest =
    sym (ap (λ (x : Brace). group_as x level body t (λ l b. group long l b given) given) k) ∙ e in
    rest-then long level level body t given arg rest f (l level) (ih level (body ++ t ∷ []) (longer-ended body t (λ b. group long level b given) arg rest q))

group-rest : (long : Bool) (level : ℕ) (body : List Tok) (given : List Given) (arg : List Tok) (rest : List Given)
    → group long level body given ≡ Ended arg rest
    → Rest long level body given arg rest
group-rest long level body [] arg rest e = cc
group-rest long level body (AToken t ∷ given) arg rest e =
    group-taken long level body t given arg rest (λ l b. group-rest long l b given arg rest) (stands long t) e
group-rest long level body (AQuantity q ∷ given) arg rest e = cc
group-rest long level body (End ∷ given) arg rest e = cc

-- ---- Undelimited arguments

undelimited-taken : (long : Bool) (t : Tok) (given : List Given) (arg : List Tok) (rest : List Given)
    → (undelimited long given ≡ Ended arg rest → IsUndelimited long given arg rest) → Stands long t
    → undelimited_as (brace_of long t) long t (undelimited long given) given ≡ Ended arg rest → IsUndelimited long (AToken t ∷ given) arg rest
undelimited-taken long t given arg rest ih (opening k o l f) e =
    let q : group long 0 [] given ≡ Ended arg rest = sym (ap (λ (x : Brace). undelimited_as x long t (undelimited long given) given) k) ∙ e in
    let r : Rest long 0 [] given arg rest = group-rest long 0 [] given arg rest q in
    a_group r.last o r.closed (ap (levels (Some 0)) r.same ∙ r.balanced) (subst (λ (x : List Tok). Fits long x) (sym r.same) r.fits) (r.parts ∙ ap (λ x. before x (AToken r.last ∷ rest)) (sym r.same))
undelimited-taken long t given arg rest ih (closing k c l f) e =
    let q : Wrong UseMismatch ≡ Ended arg rest = sym (ap (λ (x : Brace). undelimited_as x long t (undelimited long given) given) k) ∙ e in cc
undelimited-taken long t given arg rest ih (paragraph k f) e =
    let q : Wrong Runaway ≡ Ended arg rest = sym (ap (λ (x : Brace). undelimited_as x long t (undelimited long given) given) k) ∙ e in cc
undelimited-taken long t given arg rest ih (plain k o c l f) e =
    by (is_space t) refl (sym (ap (λ (x : Brace). undelimited_as x long t (undelimited long given) given) k) ∙ e) where
      by : (b : Bool) → is_space t ≡ b → (if b then undelimited long given else Ended (t ∷ []) given) ≡ Ended arg rest
          → IsUndelimited long (AToken t ∷ given) arg rest
      by true s q = blank s (ih q)
      by false s q =
          let a : t ∷ [] ≡ arg = cc in
          let r : given ≡ rest = cc in
          subst (λ (x : List Given). IsUndelimited long (AToken t ∷ given) arg x) r (subst (λ (x : List Tok). IsUndelimited long (AToken t ∷ given) x given) a (a_token s o c f))

pub undelimited-read : (long : Bool) (given rest : List Given) (arg : List Tok) → undelimited long given ≡ Ended arg rest
    → IsUndelimited long given arg rest
undelimited-read long [] rest arg e = cc
undelimited-read long (AToken t ∷ given) rest arg e =
    undelimited-taken long t given arg rest (λ q. undelimited-read long given rest arg q) (stands long t) e
undelimited-read long (AQuantity q ∷ given) rest arg e = cc
undelimited-read long (End ∷ given) rest arg e = cc

-- ---- A closing brace too many

record Closes (level : ℕ) (given : List Given) : Type 0 where
  toks : List Tok
  last : Tok
  behind : List Given
  closed : closes last ≡ true
  balanced : levels (Some level) toks ≡ Some 0
  parts : given ≡ before toks (AToken last ∷ behind)

closes-then : (level next : ℕ) (t : Tok) (given : List Given) → level_then t level ≡ Some next → Closes next given → Closes level (AToken t ∷ given)
closes-then level next t given e r = record {
  toks = t ∷ r.toks;
  last = r.last;
  behind = r.behind;
  closed = r.closed;
  balanced = ap (λ (o : Option ℕ). levels o r.toks) e ∙ r.balanced;
  parts = ap (λ l. AToken t ∷ l) r.parts;
}

went-on : {X : Type 0} (body : List Tok) (t : Tok) (more : List Tok → Meant X) → longer body t more ≡ Wrong UseMismatch
    → more (body ++ t ∷ []) ≡ Wrong UseMismatch
went-on {X} body t more e = by (longer-wrong body t more UseMismatch e) where
  by : ((UseMismatch ≡ DepthLimit) × (1000000 ≤ length body)) ⊎ (more (body ++ t ∷ []) ≡ Wrong UseMismatch)
      → more (body ++ t ∷ []) ≡ Wrong UseMismatch
  by (inl m) = let q : UseMismatch ≡ DepthLimit = m.0 in cc
  by (inr q) = q

closes-taken : (long : Bool) (delimiter : List Tok) (level : ℕ) (body : List Tok) (t : Tok) (given : List Given)
    → ((l : ℕ) (b : List Tok) → delimited long delimiter l b given ≡ Wrong UseMismatch → Closes l given)
    → Stands long t → delimited_as (brace_of long t) level body t (λ l b. delimited long delimiter l b given) ≡ Wrong UseMismatch
    → Closes level (AToken t ∷ given)
closes-taken long delimiter level body t given ih (opening k o l f) e =
    closes-then level (suc level) t given (l level) (ih (suc level) (body ++ t ∷ []) (went-on body t (λ b. delimited long delimiter (suc level) b given)
    (sym (ap (λ (x : Brace). delimited_as x level body t (λ l b. delimited long delimiter l b given)) k) ∙ e)))
closes-taken long delimiter zero body t given ih (closing k c l f) e =
    record { toks = []; last = t; behind = given; closed = c; balanced = refl; parts = refl }
closes-taken long delimiter (suc level) body t given ih (closing k c l f) e =
    closes-then (suc level) level t given (l (suc level)) (ih level (body ++ t ∷ []) (went-on body t (λ b. delimited long delimiter level b given)
    (sym (ap (λ (x : Brace). delimited_as x (suc level) body t (λ l b. delimited long delimiter l b given)) k) ∙ e)))
closes-taken long delimiter level body t given ih (paragraph k f) e =
    let q : Wrong Runaway ≡ Wrong UseMismatch = sym (ap (λ (x : Brace). delimited_as x level body t (λ l b. delimited long delimiter l b given)) k) ∙ e in cc
closes-taken long delimiter level body t given ih (plain k o c l f) e =
    closes-then level level t given (l level) (ih level (body ++ t ∷ []) (went-on body t (λ b. delimited long delimiter level b given)
    (sym (ap (λ (x : Brace). delimited_as x level body t (λ l b. delimited long delimiter l b given)) k) ∙ e)))

closes-by : (long : Bool) (delimiter : List Tok) (level : ℕ) (body : List Tok) (t : Tok) (given : List Given)
    → ((l : ℕ) (b : List Tok) → delimited long delimiter l b given ≡ Wrong UseMismatch → Closes l given) → (begun : Begun)
    → delimited_by begun body (delimited_as (brace_of long t) level body t (λ l b. delimited long delimiter l b given)) ≡ Wrong UseMismatch
    → Closes level (AToken t ∷ given)
closes-by long delimiter level body t given ih (Does r) e = cc
closes-by long delimiter level body t given ih May e = cc
closes-by long delimiter level body t given ih Cut e = cc
closes-by long delimiter level body t given ih DoesNot e = closes-taken long delimiter level body t given ih (stands long t) e

closes-from : (long : Bool) (delimiter : List Tok) (level : ℕ) (body : List Tok) (given : List Given)
    → delimited long delimiter level body given ≡ Wrong UseMismatch → Closes level given
closes-from long delimiter level body [] e = cc
closes-from long delimiter level body (AToken t ∷ given) e =
    closes-by long delimiter level body t given (λ l b. closes-from long delimiter l b given) (at_base level (begins delimiter (AToken t ∷ given))) e
closes-from long delimiter level body (AQuantity q ∷ given) e = cc
closes-from long delimiter level body (End ∷ given) e = cc

pub mismatched : (long : Bool) (delimiter : List Tok) (given : List Given) → delimited long delimiter 0 [] given ≡ Wrong UseMismatch
    → ClosesAtBase given
mismatched long delimiter given e =
    let r : Closes 0 given = closes-from long delimiter 0 [] given e in
    record { body = r.toks; closing = r.last; behind = r.behind; closed = r.closed; balanced = r.balanced; parts = r.parts }

-- ---- An end in an argument

cut-stops : (long : Bool) (n : ℕ) (given : List Given) → Cuts n given → Stops long given
cut-stops long _ _ cut_quantity = stop_quantity
cut-stops long _ _ cut_end = stop_end
cut-stops long _ _ (cut_later {n = n} {t = t} {given = given} c) = stop_later (cut-stops long n given c)

ran-on : {X : Type 0} (body : List Tok) (t : Tok) (more : List Tok → Meant X) → longer body t more ≡ Wrong Runaway
    → more (body ++ t ∷ []) ≡ Wrong Runaway
ran-on {X} body t more e = by (longer-wrong body t more Runaway e) where
  by : ((Runaway ≡ DepthLimit) × (1000000 ≤ length body)) ⊎ (more (body ++ t ∷ []) ≡ Wrong Runaway) → more (body ++ t ∷ []) ≡ Wrong Runaway
  by (inl m) = let q : Runaway ≡ DepthLimit = m.0 in cc
  by (inr q) = q

stops-taken : (long : Bool) (delimiter : List Tok) (level : ℕ) (body : List Tok) (t : Tok) (given : List Given)
    → ((l : ℕ) (b : List Tok) → delimited long delimiter l b given ≡ Wrong Runaway → Stops long given)
    → Stands long t → delimited_as (brace_of long t) level body t (λ l b. delimited long delimiter l b given) ≡ Wrong Runaway
    → Stops long (AToken t ∷ given)
stops-taken long delimiter level body t given ih (opening k o l f) e =
    stop_later (ih (suc level) (body ++ t ∷ []) (ran-on body t (λ b. delimited long delimiter (suc level) b given)
    (sym (ap (λ (x : Brace). delimited_as x level body t (λ l b. delimited long delimiter l b given)) k) ∙ e)))
stops-taken long delimiter zero body t given ih (closing k c l f) e =
    let q : Wrong UseMismatch ≡ Wrong Runaway = sym (ap (λ (x : Brace). delimited_as x 0 body t (λ l b. delimited long delimiter l b given)) k) ∙ e in cc
stops-taken long delimiter (suc level) body t given ih (closing k c l f) e =
    stop_later (ih level (body ++ t ∷ []) (ran-on body t (λ b. delimited long delimiter level b given)
    (sym (ap (λ (x : Brace). delimited_as x (suc level) body t (λ l b. delimited long delimiter l b given)) k) ∙ e)))
stops-taken long delimiter level body t given ih (paragraph k f) e = stop_paragraph f
stops-taken long delimiter level body t given ih (plain k o c l f) e =
    stop_later (ih level (body ++ t ∷ []) (ran-on body t (λ b. delimited long delimiter level b given)
    (sym (ap (λ (x : Brace). delimited_as x level body t (λ l b. delimited long delimiter l b given)) k) ∙ e)))

stops-by : (long : Bool) (delimiter : List Tok) (level : ℕ) (body : List Tok) (t : Tok) (given : List Given)
    → ((l : ℕ) (b : List Tok) → delimited long delimiter l b given ≡ Wrong Runaway → Stops long given) → (begun : Begun)
    → at_base level (begins delimiter (AToken t ∷ given)) ≡ begun
    → delimited_by begun body (delimited_as (brace_of long t) level body t (λ l b. delimited long delimiter l b given)) ≡ Wrong Runaway
    → Stops long (AToken t ∷ given)
stops-by long delimiter level body t given ih (Does r) n e = cc
stops-by long delimiter level body t given ih May n e = cc
stops-by long delimiter level body t given ih Cut n e =
    cut-stops long (length delimiter) (AToken t ∷ given) (begins-cut delimiter (AToken t ∷ given) (cut-at-base level (begins delimiter (AToken t ∷ given)) n))
stops-by long delimiter level body t given ih DoesNot n e = stops-taken long delimiter level body t given ih (stands long t) e

stops-from : (long : Bool) (delimiter : List Tok) (level : ℕ) (body : List Tok) (given : List Given)
    → delimited long delimiter level body given ≡ Wrong Runaway → Stops long given
stops-from long delimiter level body [] e = cc
stops-from long delimiter level body (AToken t ∷ given) e =
    stops-by long delimiter level body t given (λ l b. stops-from long delimiter l b given) (at_base level (begins delimiter (AToken t ∷ given))) refl e
stops-from long delimiter level body (AQuantity q ∷ given) e = stop_quantity
stops-from long delimiter level body (End ∷ given) e = stop_end

pub runs-away : (long : Bool) (delimiter : List Tok) (given : List Given) → delimited long delimiter 0 [] given ≡ Wrong Runaway → Stops long given
runs-away long delimiter given e = stops-from long delimiter 0 [] given e

-- ---- Where no undelimited argument is

stop-then : (long : Bool) (body : List Tok) (t : Tok) (given : List Given) (more : List Tok → Meant (List Tok)) → longer body t more ≡ Wrong Runaway
    → (more (body ++ t ∷ []) ≡ Wrong Runaway → Stops long given) → Stops long (AToken t ∷ given)
stop-then long body t given more e ih = stop_later (ih (ran-on body t more e))

group-stops-at : (long : Bool) (level : ℕ) (body : List Tok) (t : Tok) (given : List Given)
    → ((l : ℕ) (b : List Tok) → group long l b given ≡ Wrong Runaway → Stops long given)
    → Stands long t → group_as (brace_of long t) level body t (λ l b. group long l b given) given ≡ Wrong Runaway → Stops long (AToken t ∷ given)
group-stops-at long level body t given ih (opening k o l f) e =
    stop-then long body t given (λ b. group long (suc level) b given) (sym (ap (λ (x : Brace). group_as x level body t (λ l b. group long l b given) given) k) ∙ e)
    (ih (suc level) (body ++ t ∷ []))
group-stops-at long zero body t given ih (closing k c l f) e =
    let q : Ended body given ≡ Wrong Runaway = sym (ap (λ (x : Brace). group_as x 0 body t (λ l b. group long l b given) given) k) ∙ e in cc
group-stops-at long (suc level) body t given ih (closing k c l f) e =
    stop-then long body t given (λ b. group long level b given) (sym (ap (λ (x : Brace). group_as x (suc level) body t (λ l b. group long l b given) given) k) ∙ e)
    (ih level (body ++ t ∷ []))
group-stops-at long level body t given ih (paragraph k f) e = stop_paragraph f
group-stops-at long level body t given ih (plain k o c l f) e =
    stop-then long body t given (λ b. group long level b given) (sym (ap (λ (x : Brace). group_as x level body t (λ l b. group long l b given) given) k) ∙ e)
    (ih level (body ++ t ∷ []))

group-stops : (long : Bool) (level : ℕ) (body : List Tok) (given : List Given) → group long level body given ≡ Wrong Runaway → Stops long given
group-stops long level body [] e = cc
group-stops long level body (AToken t ∷ given) e = group-stops-at long level body t given (λ l b. group-stops long l b given) (stands long t) e
group-stops long level body (AQuantity q ∷ given) e = stop_quantity
group-stops long level body (End ∷ given) e = stop_end

undelimited-stops-at : (long : Bool) (t : Tok) (given : List Given) → (undelimited long given ≡ Wrong Runaway → Stops long given) → Stands long t
    → undelimited_as (brace_of long t) long t (undelimited long given) given ≡ Wrong Runaway → Stops long (AToken t ∷ given)
undelimited-stops-at long t given ih (opening k o l f) e =
    stop_later (group-stops long 0 [] given (sym (ap (λ (x : Brace). undelimited_as x long t (undelimited long given) given) k) ∙ e))
undelimited-stops-at long t given ih (closing k c l f) e =
    let q : Wrong UseMismatch ≡ Wrong Runaway = sym (ap (λ (x : Brace). undelimited_as x long t (undelimited long given) given) k) ∙ e in cc
undelimited-stops-at long t given ih (paragraph k f) e = stop_paragraph f
undelimited-stops-at long t given ih (plain k o c l f) e =
    by (is_space t) (sym (ap (λ (x : Brace). undelimited_as x long t (undelimited long given) given) k) ∙ e) where
      by : (b : Bool) → (if b then undelimited long given else Ended (t ∷ []) given) ≡ Wrong Runaway → Stops long (AToken t ∷ given)
      by true q = stop_later (ih q)
      by false q = cc

pub undelimited-stops : (long : Bool) (given : List Given) → undelimited long given ≡ Wrong Runaway → Stops long given
undelimited-stops long [] e = cc
undelimited-stops long (AToken t ∷ given) e = undelimited-stops-at long t given (undelimited-stops long given) (stands long t) e
undelimited-stops long (AQuantity q ∷ given) e = stop_quantity
undelimited-stops long (End ∷ given) e = stop_end

group-fits-at : (long : Bool) (level : ℕ) (body : List Tok) (t : Tok) (given : List Given)
    → ((l : ℕ) (b : List Tok) → group long l b given ≡ Wrong UseMismatch → ⊥)
    → Stands long t → group_as (brace_of long t) level body t (λ l b. group long l b given) given ≡ Wrong UseMismatch → ⊥
group-fits-at long level body t given ih (opening k o l f) e =
    ih (suc level) (body ++ t ∷ []) (went-on body t (λ b. group long (suc level) b given) (sym (ap (λ (x : Brace). group_as x level body t (λ l b. group long l b given) given) k) ∙ e))
group-fits-at long zero body t given ih (closing k c l f) e =
    let q : Ended body given ≡ Wrong UseMismatch = sym (ap (λ (x : Brace). group_as x 0 body t (λ l b. group long l b given) given) k) ∙ e in cc
group-fits-at long (suc level) body t given ih (closing k c l f) e =
    ih level (body ++ t ∷ []) (went-on body t (λ b. group long level b given) (sym (ap (λ (x : Brace). group_as x (suc level) body t (λ l b. group long l b given) given) k) ∙ e))
group-fits-at long level body t given ih (paragraph k f) e =
    let q : Wrong Runaway ≡ Wrong UseMismatch = sym (ap (λ (x : Brace). group_as x level body t (λ l b. group long l b given) given) k) ∙ e in cc
group-fits-at long level body t given ih (plain k o c l f) e =
    ih level (body ++ t ∷ []) (went-on body t (λ b. group long level b given) (sym (ap (λ (x : Brace). group_as x level body t (λ l b. group long l b given) given) k) ∙ e))

group-fits : (long : Bool) (level : ℕ) (body : List Tok) (given : List Given) → group long level body given ≡ Wrong UseMismatch → ⊥
group-fits long level body [] e = cc
group-fits long level body (AToken t ∷ given) e = group-fits-at long level body t given (λ l b. group-fits long l b given) (stands long t) e
group-fits long level body (AQuantity q ∷ given) e = cc
group-fits long level body (End ∷ given) e = cc

closes-first-at : (long : Bool) (t : Tok) (given : List Given) → (undelimited long given ≡ Wrong UseMismatch → ClosesFirst given) → Stands long t
    → undelimited_as (brace_of long t) long t (undelimited long given) given ≡ Wrong UseMismatch → ClosesFirst (AToken t ∷ given)
closes-first-at long t given ih (opening k o l f) e =
    absurd (group-fits long 0 [] given (sym (ap (λ (x : Brace). undelimited_as x long t (undelimited long given) given) k) ∙ e))
closes-first-at long t given ih (closing k c l f) e = first_closing c
closes-first-at long t given ih (paragraph k f) e =
    let q : Wrong Runaway ≡ Wrong UseMismatch = sym (ap (λ (x : Brace). undelimited_as x long t (undelimited long given) given) k) ∙ e in cc
closes-first-at long t given ih (plain k o c l f) e =
    by (is_space t) refl (sym (ap (λ (x : Brace). undelimited_as x long t (undelimited long given) given) k) ∙ e) where
      by : (b : Bool) → is_space t ≡ b → (if b then undelimited long given else Ended (t ∷ []) given) ≡ Wrong UseMismatch → ClosesFirst (AToken t ∷ given)
      by true s q = first_blank s (ih q)
      by false s q = cc

pub closes-first : (long : Bool) (given : List Given) → undelimited long given ≡ Wrong UseMismatch → ClosesFirst given
closes-first long [] e = cc
closes-first long (AToken t ∷ given) e = closes-first-at long t given (closes-first long given) (stands long t) e
closes-first long (AQuantity q ∷ given) e = cc
closes-first long (End ∷ given) e = cc
