-- A reading over a feed: what is owed at its start is what is owed of it now, and how it ends.
use Rattle.std.proofs.Common.{◌≡◌, ◌∙◌, ◌++◌, ◌+◌, ◌<◌, ◌≤◌, Bool, false, suc, List, [], ◌∷◌, refl, ap, sym, arith, Ok, Err}
use Rattle.std.specs.Prelude.{Option, Some, None, if◌then◌else◌, Result}
use Rattle.std.specs.Option.{option_map}
use Rattle.std.proofs.lemmas.Bool.{le-ltb, lt-ltb}
use Rattle.lb_base.specs.declared.fault.Kind.{Kind}
use Rattle.lb_base.specs.declared.fault.Kind.TheVariants.{DepthLimit}
use Rattle.lb_base.specs.declared.fault.Stop.{Stop}
use Rattle.lb_base.specs.declared.fault.Stop.TheVariants.{Memory, Fault, At}
use Rattle.lb_base.specs.declared.token.Tok.{Tok}
use Rattle.lb_values.specs.declared.cell.Cell.{Cell}
use Rattle.lb_model_grammar.specs.declared.given.Given.{Given}
use Rattle.lb_model_grammar.specs.declared.given.Given.TheVariants.{Tok as AToken, End as AnEnd}
use Rattle.lb_model_grammar.specs.declared.given.Want.TheVariants.{Plain}
use Rattle.lb_model_grammar.specs.Scans.{Meant, tokens_in}
use Rattle.lb_model_grammar.specs.Scans.Meant.{Open, Ended, Wrong}
use Rattle.lb_model.specs.declared.feed.Feed.{Ghosts}
use Rattle.lb_model.specs.declared.place.Got.TheVariants.{End as GotEnd, Fault as GotFault}
use Rattle.lb_model.specs.Configs.{Config, Taking, asked, in_file, looks_in_file, put_back, taken_by}
use Rattle.lb_model.specs.Fed.{Reads}
use Rattle.lb_model.specs.Readings.{Took, behind_got, failed, looks_taken, looks_then, looks_within, noting, returned, taken, taken_within, taken_as, looks_as, then_taken, unless_fault, whole, looks_behind}
use Rattle.lb_model.specs.Settings.{Notes, Setting, noted_all}
use Rattle.lb_model.specs.Sources.{pending}
use Rattle.lb_model.specs.Stops.{MayStopAt}
use Rattle.lb_model.proofs.FedLemmas.{fault-read}
use Rattle.lb_model.proofs.TakenLemmas.{noted-append, noted-none, reading, reading-done, reading-end, reading-token, reading-wrong}

-- what is owed of a call now comes to what was owed at its start
pub record Owed {S X : Type 0} (F : Ghosts S) (took : Config → Took X) (looks : Config → List Cell) (start : Config → Took X) (start_looks : Config → List Cell) (now old : S) : Type 0 where
  pub narrows : (p : Setting) → F.agrees now p → F.agrees old p
  pub rest : (p : Setting) → F.agrees now p → noting start start_looks (F.configuration old p) (F.notes old) ≡ noting took looks (F.configuration now p) (F.notes now)
  pub stands : (p : Setting) → F.agrees now p → F.stands old p → F.stands now p
  pub origin : F.origin now ≡ F.origin old

-- the same of a reading of this text
abbrev pub OwedOf : {S X : Type 0} → Ghosts S → (List Given → Meant X) → (Config → Took X) → (Config → List Cell) → S → S → Type 0
OwedOf F m start start_looks now old = Owed F (taken in_file m) (looks_taken in_file looks_in_file m) start start_looks now old

pub owed-start : {S X : Type 0} (F : Ghosts S) (start : Config → Took X) (start_looks : Config → List Cell) (s : S) → Owed F start start_looks start start_looks s s
owed-start F start start_looks s = record { narrows = λ p h. h; rest = λ p h. refl; stands = λ p h before. before; origin = refl }

-- ---- A token is taken

-- what one call of the feed for a token of this text tells
pub record Fed {S : Type 0} (F : Ghosts S) (got : Option Tok) (new old : S) : Type 0 where
  pub narrows : (p : Setting) → F.agrees new p → F.agrees old p
  pub ok : (p : Setting) → F.agrees new p → in_file (F.configuration old p) ≡ record { got = asked got; next = F.configuration new p }
  pub notes : (p : Setting) → F.agrees new p → F.notes new ≡ option_map (noted_all (looks_in_file (F.configuration old p))) (F.notes old)
  pub stands : (p : Setting) → F.agrees new p → F.stands old p → F.stands new p
  pub origin : F.origin new ≡ F.origin old

-- an answer that is this one
pub fed : {S : Type 0} (F : Ghosts S) (got is : Option Tok) (new old : S) → got ≡ is
    → ((p : Setting) → F.agrees new p → F.agrees old p)
    → ((p : Setting) → F.agrees new p → in_file (F.configuration old p) ≡ record { got = asked got; next = F.configuration new p })
    → ((p : Setting) → F.agrees new p → F.notes new ≡ option_map (noted_all (looks_in_file (F.configuration old p))) (F.notes old))
    → ((p : Setting) → F.agrees new p → F.stands old p → F.stands new p) → F.origin new ≡ F.origin old
    → Fed F is new old
fed F got is new old e narrows ok notes stands origin =
    record {
      narrows = narrows;
      ok = λ p h. ok p h ∙ ap (λ o. record { got = asked o; next = F.configuration new p }) e;
      notes = notes;
      stands = stands;
      origin = origin;
    }

-- a token turns a reading into another
pub owed-token : {S X : Type 0} (F : Ghosts S) (m r : List Given → Meant X) {start : Config → Took X} {start_looks : Config → List Cell} (tok : Tok) (new mid old : S)
    → OwedOf F m start start_looks mid old → m [] ≡ Open Plain → Fed F (Some tok) new mid → ((given : List Given) → m (AToken tok ∷ given) ≡ r given) → OwedOf F r start start_looks new old
owed-token F m r tok new mid old o e f same =
    record {
      narrows = λ p h. o.narrows p (f.narrows p h);
      rest =
          λ p h.
          o.rest p (f.narrows p h)
          ∙ reading-token false looks_in_file m r Plain (F.configuration mid p) (F.configuration new p) tok (F.notes mid) (F.notes new) e (f.ok p h) (f.notes p h) same;
      stands = λ p h before. f.stands p h (o.stands p (f.narrows p h) before);
      origin = f.origin ∙ o.origin;
    }

-- the end of the text or the piece is a fault
pub reads-end : {S X : Type 0} (F : Ghosts S) (m : List Given → Meant X) {start : Config → Took X} {start_looks : Config → List Cell} (k : Kind) (new mid old : S)
    → OwedOf F m start start_looks mid old → m [] ≡ Open Plain → Fed F None new mid → m (AnEnd ∷ []) ≡ Wrong k → Reads F start start_looks (Err (Fault k)) new old
reads-end F m k new mid old o e f wrong =
    record {
      narrows = λ p h. o.narrows p (f.narrows p h);
      ok = tt;
      fault =
          λ p h.
          o.rest p (f.narrows p h)
          ∙ reading-end false looks_in_file m Plain (F.configuration mid p) (F.configuration new p) k (F.notes mid) (F.notes new) e (f.ok p h) wrong (f.notes p h);
      stands = λ p h before. f.stands p h (o.stands p (f.narrows p h) before);
      origin = f.origin ∙ o.origin;
    }

-- a fault in the place of a token
pub reads-fault : {S X : Type 0} (F : Ghosts S) (m : List Given → Meant X) (start : Config → Took X) (start_looks : Config → List Cell) (e : Stop) (new mid old : S)
    → OwedOf F m start start_looks mid old → m [] ≡ Open Plain
    → ((p : Setting) → F.agrees new p → F.agrees mid p)
    → MayStopAt e (λ k. (p : Setting) → F.agrees new p → in_file (F.configuration mid p) ≡ record { got = GotFault k; next = F.configuration new p })
    → MayStopAt e (λ k. (p : Setting) → F.agrees new p → F.notes new ≡ option_map (noted_all (looks_in_file (F.configuration mid p))) (F.notes mid))
    → ((p : Setting) → F.agrees new p → F.stands mid p → F.stands new p) → F.origin new ≡ F.origin mid
    → Reads F start start_looks (Err e) new old
reads-fault F m start start_looks e new mid old o opened narrows taking notes stands origin =
    record {
      narrows = λ p h. o.narrows p (narrows p h);
      ok = tt;
      fault =
          fault-read F false looks_in_file (λ p. m) Plain (λ p. noting start start_looks (F.configuration old p) (F.notes old)) e new mid
          (λ p h. o.rest p (narrows p h)) (λ p. opened) taking notes;
      stands = λ p h before. stands p h (o.stands p (narrows p h) before);
      origin = origin ∙ o.origin;
    }

-- a reading that is another one
pub owed-is : {S X : Type 0} (F : Ghosts S) (m r : List Given → Meant X) {start : Config → Took X} {start_looks : Config → List Cell} (now old : S)
    → m ≡ r → OwedOf F m start start_looks now old → OwedOf F r start start_looks now old
owed-is F m r now old e o =
    record {
      narrows = o.narrows;
      rest = λ p h. o.rest p h ∙ ap (λ m. reading false looks_in_file m (F.configuration now p) (F.notes now)) e;
      stands = o.stands;
      origin = o.origin;
    }

-- ---- The reading ends

pub reads-done : {S X : Type 0} (F : Ghosts S) (m : List Given → Meant X) {start : Config → Took X} {start_looks : Config → List Cell} (x : X) (new old : S)
    → OwedOf F m start start_looks new old → m [] ≡ Ended x [] → Reads F start start_looks (Ok x) new old
reads-done F m x new old o e =
    record {
      narrows = o.narrows;
      ok = λ p h. o.rest p h ∙ reading-done false looks_in_file m x (F.configuration new p) (F.notes new) e;
      fault = tt;
      stands = o.stands;
      origin = o.origin;
    }

pub reads-wrong : {S X : Type 0} (F : Ghosts S) (m : List Given → Meant X) {start : Config → Took X} {start_looks : Config → List Cell} (k : Kind) (new old : S)
    → OwedOf F m start start_looks new old → m [] ≡ Wrong k → Reads F start start_looks (Err (Fault k)) new old
reads-wrong F m k new old o e =
    record {
      narrows = o.narrows;
      ok = tt;
      fault = λ p h. o.rest p h ∙ reading-wrong false looks_in_file m k (F.configuration new p) (F.notes new) e;
      stands = o.stands;
      origin = o.origin;
    }

-- ---- Another call reads on

pub reads-on : {S X : Type 0} (F : Ghosts S) {took start : Config → Took X} {looks start_looks : Config → List Cell} (result : Result X Stop) (new mid old : S)
    → Owed F took looks start start_looks mid old → Reads F took looks result new mid → Reads F start start_looks result new old
reads-on F (Ok x) new mid old o r =
    record {
      narrows = λ p h. o.narrows p (r.narrows p h);
      ok = λ p h. o.rest p (r.narrows p h) ∙ r.ok p h;
      fault = tt;
      stands = λ p h before. r.stands p h (o.stands p (r.narrows p h) before);
      origin = r.origin ∙ o.origin;
    }
reads-on F (Err Memory) new mid old o r =
    record { narrows = λ p h. o.narrows p (r.narrows p h); ok = tt; fault = tt; stands = λ p h before. r.stands p h (o.stands p (r.narrows p h) before); origin = r.origin ∙ o.origin }
reads-on F (Err (Fault k)) new mid old o r =
    record {
      narrows = λ p h. o.narrows p (r.narrows p h);
      ok = tt;
      fault = λ p h. o.rest p (r.narrows p h) ∙ r.fault p h;
      stands = λ p h before. r.stands p h (o.stands p (r.narrows p h) before);
      origin = r.origin ∙ o.origin;
    }
reads-on F (Err (At fault)) new mid old o r = record { narrows = λ p h. o.narrows p (r.narrows p h); ok = tt; fault = r.fault; stands = λ p h before. r.stands p h (o.stands p (r.narrows p h) before); origin = r.origin ∙ o.origin }

-- ---- A reading ends with a token that is not of it, or with the end

ended-took : {X : Type 0} (take : Config → Taking) (m : List Given → Meant X) (x : X) (rest : List Given) (c : Config) → m [] ≡ Ended x rest → taken take m c ≡ returned x (tokens_in rest) c
unfolding taken
ended-took take m x rest c e i = taken_as (e i) c (unless_fault (take c).got (take c).next (taken_within take (suc c.left) (behind_got (take c).got m) (take c).next))

ended-looks : {X : Type 0} (take : Config → Taking) (looks : Config → List Cell) (m : List Given → Meant X) (x : X) (rest : List Given) (c : Config) → m [] ≡ Ended x rest → looks_taken take looks m c ≡ []
unfolding looks_taken
ended-looks take looks m x rest c e i =
    looks_as (e i) (looks c ++ looks_behind (take c).got (looks_within take looks (suc c.left) (behind_got (take c).got m) (take c).next))

reading-ended : {X : Type 0} (passes : Bool) (looks : Config → List Cell) (m : List Given → Meant X) (x : X) (rest : List Given) (c : Config) (n : Option Notes) → m [] ≡ Ended x rest
    → reading passes looks m c n ≡ record { took = returned x (tokens_in rest) c; notes = n }
reading-ended passes looks m x rest c n e =
    (λ i. record { took = ended-took (taken_by passes) m x rest c e i; notes = option_map (noted_all (ended-looks (taken_by passes) looks m x rest c e i)) n })
    ∙ ap (λ o. record { took = returned x (tokens_in rest) c; notes = o }) (noted-none n)

-- the token is put back
pub reads-back : {S X : Type 0} (F : Ghosts S) (m : List Given → Meant X) {start : Config → Took X} {start_looks : Config → List Cell} (x : X) (tok : Tok) (new mid old : S)
    → OwedOf F m start start_looks mid old → m [] ≡ Ended x (AToken tok ∷ [])
    → ((p : Setting) → F.agrees new p → F.agrees mid p)
    → ((p : Setting) → F.agrees new p → (pending (F.configuration mid p).source < 1000000) × (F.configuration new p ≡ put_back tok (F.configuration mid p)))
    → F.notes new ≡ F.notes mid → ((p : Setting) → F.agrees new p → F.stands mid p → F.stands new p) → F.origin new ≡ F.origin mid
    → Reads F start start_looks (Ok x) new old
reads-back F m x tok new mid old o e narrows back notes stands origin =
    record {
      narrows = λ p h. o.narrows p (narrows p h);
      ok =
          λ p h.
          let c = F.configuration mid p in
          let room = (back p h).0 in
          let fits : 1 + pending c.source ≤ 1000000 = omega (arith, room) in
          o.rest p (narrows p h)
          ∙ reading-ended false looks_in_file m x (AToken tok ∷ []) c (F.notes mid) e
          ∙ ap (λ b. record { took = if b then failed DepthLimit c else whole x (put_back tok c); notes = F.notes mid }) (le-ltb 1000000 (1 + pending c.source) fits)
          ∙ (λ i. record { took = whole x (sym (back p h).1 i); notes = sym notes i });
      fault = tt;
      stands = λ p h before. stands p h (o.stands p (narrows p h) before);
      origin = origin ∙ o.origin;
    }

pub reads-full : {S X : Type 0} (F : Ghosts S) (m : List Given → Meant X) {start : Config → Took X} {start_looks : Config → List Cell} (x : X) (tok : Tok) (e : Stop) (new mid old : S)
    → OwedOf F m start start_looks mid old → m [] ≡ Ended x (AToken tok ∷ [])
    → ((p : Setting) → F.agrees new p → F.agrees mid p)
    → MayStopAt e (λ k. (k ≡ DepthLimit) × ((p : Setting) → F.agrees new p → (1000000 ≤ pending (F.configuration mid p).source) × (F.configuration new p ≡ F.configuration mid p)))
    → F.notes new ≡ F.notes mid → ((p : Setting) → F.agrees new p → F.stands mid p → F.stands new p) → F.origin new ≡ F.origin mid
    → Reads F start start_looks (Err e) new old
reads-full F m x tok Memory new mid old o e narrows full notes stands origin =
    record { narrows = λ p h. o.narrows p (narrows p h); ok = tt; fault = tt; stands = λ p h before. stands p h (o.stands p (narrows p h) before); origin = origin ∙ o.origin }
reads-full F m x tok (Fault k) new mid old o e narrows full notes stands origin =
    record {
      narrows = λ p h. o.narrows p (narrows p h);
      ok = tt;
      fault =
          λ p h.
          let c = F.configuration mid p in
          let room = (full.1 p h).0 in
          let over : 1000000 < 1 + pending c.source = omega (arith, room) in
          o.rest p (narrows p h)
          ∙ reading-ended false looks_in_file m x (AToken tok ∷ []) c (F.notes mid) e
          ∙ ap (λ b. record { took = if b then failed DepthLimit c else whole x (put_back tok c); notes = F.notes mid }) (lt-ltb 1000000 (1 + pending c.source) over)
          ∙ (λ i. record { took = failed (sym full.0 i) (sym (full.1 p h).1 i); notes = sym notes i });
      stands = λ p h before. stands p h (o.stands p (narrows p h) before);
      origin = origin ∙ o.origin;
    }
reads-full F m x tok (At fault) new mid old o e narrows full notes stands origin =
    record { narrows = λ p h. o.narrows p (narrows p h); ok = tt; fault = full; stands = λ p h before. stands p h (o.stands p (narrows p h) before); origin = origin ∙ o.origin }

-- at the end there is a reading
end-took : {X : Type 0} (take : Config → Taking) (m : List Given → Meant X) (x : X) (c d : Config) → m [] ≡ Open Plain → take c ≡ record { got = GotEnd; next = d } → m (AnEnd ∷ []) ≡ Ended x (AnEnd ∷ [])
    → taken take m c ≡ whole x d
unfolding taken
end-took take m x c d e f g =
    (λ i. taken_as (e i) c (unless_fault (take c).got (take c).next (taken_within take (suc c.left) (behind_got (take c).got m) (take c).next)))
    ∙ ap (λ (t : Taking). unless_fault t.got t.next (taken_within take (suc c.left) (behind_got t.got m) t.next)) f
    ∙ (λ i. taken_as (g i) d (unless_fault (take d).got (take d).next (taken_within take c.left (behind_got (take d).got (λ given. m (AnEnd ∷ given))) (take d).next)))

end-looks : {X : Type 0} (take : Config → Taking) (looks : Config → List Cell) (m : List Given → Meant X) (x : X) (c d : Config) → m [] ≡ Open Plain → take c ≡ record { got = GotEnd; next = d }
    → m (AnEnd ∷ []) ≡ Ended x (AnEnd ∷ []) → looks_taken take looks m c ≡ looks c ++ []
unfolding looks_taken
end-looks take looks m x c d e f g =
    (λ i. looks_as (e i) (looks c ++ looks_behind (take c).got (looks_within take looks (suc c.left) (behind_got (take c).got m) (take c).next)))
    ∙ ap (λ (t : Taking). looks c ++ looks_behind t.got (looks_within take looks (suc c.left) (behind_got t.got m) t.next)) f
    ∙ (λ i. looks c ++ looks_as (g i) (looks d ++ looks_behind (take d).got (looks_within take looks c.left (behind_got (take d).got (λ given. m (AnEnd ∷ given))) (take d).next)))

pub reads-whole-end : {S X : Type 0} (F : Ghosts S) (m : List Given → Meant X) {start : Config → Took X} {start_looks : Config → List Cell} (x : X) (new mid old : S)
    → OwedOf F m start start_looks mid old → m [] ≡ Open Plain → Fed F None new mid → m (AnEnd ∷ []) ≡ Ended x (AnEnd ∷ []) → Reads F start start_looks (Ok x) new old
reads-whole-end F m x new mid old o e f whole_end =
    record {
      narrows = λ p h. o.narrows p (f.narrows p h);
      ok =
          λ p h.
          let c = F.configuration mid p in
          let d = F.configuration new p in
          o.rest p (f.narrows p h)
          ∙ (λ i. record {
            took = end-took in_file m x c d e (f.ok p h) whole_end i;
            notes = option_map (noted_all (end-looks in_file looks_in_file m x c d e (f.ok p h) whole_end i)) (F.notes mid);
          })
          ∙ ap (λ o. record { took = whole x d; notes = o }) (noted-append (looks_in_file c) [] (F.notes mid) ∙ noted-none (option_map (noted_all (looks_in_file c)) (F.notes mid)) ∙ sym (f.notes p h));
      fault = tt;
      stands = λ p h before. f.stands p h (o.stands p (f.narrows p h) before);
      origin = f.origin ∙ o.origin;
    }

-- ---- One reading, and another behind it

-- the cells that are looked at for one, and for another behind it
abbrev pub looks_both : {X : Type 0} → (Config → Took X) → (Config → List Cell) → (X → Config → List Cell) → Config → List Cell
looks_both took looks next_looks c = looks c ++ looks_then (took c).outcome (took c).next next_looks

abbrev pub took_both : {X Y : Type 0} → (Config → Took X) → (X → Config → Took Y) → Config → Took Y
took_both took next c = then_taken (took c) next

pub owed-then : {S X Y : Type 0} (F : Ghosts S) (took : Config → Took X) (looks : Config → List Cell) (next : X → Config → Took Y) (next_looks : X → Config → List Cell) {start : Config → Took Y}
    {start_looks : Config → List Cell} (x : X) (new mid old : S)
    → Owed F (took_both took next) (looks_both took looks next_looks) start start_looks mid old → Reads F took looks (Ok x) new mid → Owed F (next x) (next_looks x) start start_looks new old
owed-then F took looks next next_looks x new mid old o r =
    record {
      narrows = λ p h. o.narrows p (r.narrows p h);
      rest =
          λ p h.
          let c = F.configuration mid p in
          let d = F.configuration new p in
          let n = F.notes mid in
          let e = r.ok p h in
          o.rest p (r.narrows p h)
          ∙ (λ i. record { took = then_taken (e i).took next; notes = option_map (noted_all (looks c ++ looks_then (e i).took.outcome (e i).took.next next_looks)) n })
          ∙ ap (λ o. record { took = next x d; notes = o }) (noted-append (looks c) (next_looks x d) n ∙ (λ i. option_map (noted_all (next_looks x d)) (e i).notes));
      stands = λ p h before. r.stands p h (o.stands p (r.narrows p h) before);
      origin = r.origin ∙ o.origin;
    }

pub reads-then-err : {S X Y : Type 0} (F : Ghosts S) (took : Config → Took X) (looks : Config → List Cell) (next : X → Config → Took Y) (next_looks : X → Config → List Cell) {start : Config → Took Y}
    {start_looks : Config → List Cell} (e : Stop) (new mid old : S)
    → Owed F (took_both took next) (looks_both took looks next_looks) start start_looks mid old → Reads F took looks (Err e) new mid → Reads F start start_looks (Err e) new old
reads-then-err F took looks next next_looks Memory new mid old o r =
    record { narrows = λ p h. o.narrows p (r.narrows p h); ok = tt; fault = tt; stands = λ p h before. r.stands p h (o.stands p (r.narrows p h) before); origin = r.origin ∙ o.origin }
reads-then-err F took looks next next_looks (Fault k) new mid old o r =
    record {
      narrows = λ p h. o.narrows p (r.narrows p h);
      ok = tt;
      fault =
          λ p h.
          let c = F.configuration mid p in
          let d = F.configuration new p in
          let n = F.notes mid in
          let e = r.fault p h in
          o.rest p (r.narrows p h)
          ∙ (λ i. record { took = then_taken (e i).took next; notes = option_map (noted_all (looks c ++ looks_then (e i).took.outcome (e i).took.next next_looks)) n })
          ∙ ap (λ o. record { took = failed k d; notes = o }) (noted-append (looks c) [] n ∙ noted-none (option_map (noted_all (looks c)) n) ∙ (λ i. (e i).notes));
      stands = λ p h before. r.stands p h (o.stands p (r.narrows p h) before);
      origin = r.origin ∙ o.origin;
    }
reads-then-err F took looks next next_looks (At fault) new mid old o r =
    record { narrows = λ p h. o.narrows p (r.narrows p h); ok = tt; fault = r.fault; stands = λ p h before. r.stands p h (o.stands p (r.narrows p h) before); origin = r.origin ∙ o.origin }

-- what is owed is said otherwise
pub owed-as : {S X : Type 0} (F : Ghosts S) (took other : Config → Took X) (looks : Config → List Cell) {start : Config → Took X} {start_looks : Config → List Cell} (now old : S)
    → ((c : Config) → took c ≡ other c) → Owed F took looks start start_looks now old → Owed F other looks start start_looks now old
owed-as F took other looks now old same o =
    record {
      narrows = o.narrows;
      rest = λ p h. o.rest p h ∙ ap (λ t. record { took = t; notes = option_map (noted_all (looks (F.configuration now p))) (F.notes now) }) (same (F.configuration now p));
      stands = o.stands;
      origin = o.origin;
    }
