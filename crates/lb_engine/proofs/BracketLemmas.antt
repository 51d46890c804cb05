-- Readings of texts that may be there.
use Rattle.std.proofs.Common.{◌≡◌, ◌∙◌, ◌++◌, ◌+◌, ℕ, zero, suc, Bool, true, false, List, [], ◌∷◌, Some, refl, ap, Ok, Err}
use Rattle.std.specs.Prelude.{Option, None, if◌then◌else◌, length, nat_lt}
use Rattle.std.specs.Option.{option_map}
use Rattle.lb_base.specs.declared.fault.Kind.TheVariants.{DepthLimit, StepLimit}
use Rattle.lb_base.specs.declared.fault.Stop.{Stop}
use Rattle.lb_base.specs.declared.fault.Stop.TheVariants.{Memory, Fault, At}
use Rattle.lb_base.specs.declared.token.Tok.{Tok}
use Rattle.lb_values.specs.declared.cell.Cell.{Cell}
use Rattle.lb_model_grammar.specs.declared.given.Given.{Given}
use Rattle.lb_model_grammar.specs.declared.given.Given.TheVariants.{Tok as AToken}
use Rattle.lb_model_grammar.specs.Scans.{Meant, is_other, is_space, tokens_in}
use Rattle.lb_model_grammar.specs.Scans.Meant.{Open, Ended, Wrong}
use Rattle.lb_model.specs.declared.feed.Feed.{Ghosts}
use Rattle.lb_model.specs.declared.place.Got.{Got}
use Rattle.lb_model.specs.declared.place.Got.TheVariants.{Tok as GotTok, End as GotEnd, Fault as GotFault}
use Rattle.lb_model.specs.Configs.{Config, Taking, in_file, looks_in_file}
use Rattle.lb_model.specs.Fed.{Reads}
use Rattle.lb_model.specs.Readings.{Noted, Outcome, Took, behind_got, failed, looks_as, looks_behind, looks_taken, looks_within, returned, taken, taken_as, taken_within, unless_fault, whole}
use Rattle.lb_model.specs.Readings.Outcome.{Failed, Whole as AWhole}
use Rattle.lb_model.specs.Settings.{noted_all}
use Rattle.lb_model.specs.Sources.{pending}
use Rattle.lb_model_engine.specs.Reads.{bracket, some_meant}
use Rattle.lb_engine.specs.Brackets.{bracket_rest, some_of}

-- ---- What is read is there

abbrev some_outcome : {X : Type 0} → Outcome X → Outcome (Option X)
some_outcome (AWhole x) = AWhole (Some x)
some_outcome (Failed kind) = Failed kind

abbrev some_took : {X : Type 0} → Took X → Took (Option X)
some_took t = record { outcome = some_outcome t.outcome; next = t.next }

room-some : {X : Type 0} (b : Bool) (x : X) (c d : Config) → (if b then failed DepthLimit c else whole (Some x) d) ≡ some_took (if b then failed DepthLimit c else whole x d)
room-some true x c d = refl
room-some false x c d = refl

returned-some : {X : Type 0} (x : X) (toks : List Tok) (c : Config) → returned (Some x) toks c ≡ some_took (returned x toks c)
returned-some x [] c = refl
returned-some x (t ∷ toks) c = room-some (nat_lt 1000000 (length (t ∷ toks) + pending c.source)) x c _

taken_as-some : {X : Type 0} (m : Meant X) (c : Config) (more : Took X) → taken_as (some_meant m) c (some_took more) ≡ some_took (taken_as m c more)
taken_as-some (Open want) c more = refl
taken_as-some (Ended x rest) c more = returned-some x (tokens_in rest) c
taken_as-some (Wrong kind) c more = refl

behind-some : {X : Type 0} (got : Got) (m : List Given → Meant X) → behind_got got (some_of m) ≡ some_of (behind_got got m)
behind-some (GotTok tok) m = refl
behind-some GotEnd m = refl
behind-some (GotFault kind) m = refl

unless-some : {X : Type 0} (got : Got) (c : Config) (more : Took X) → unless_fault got c (some_took more) ≡ some_took (unless_fault got c more)
unless-some (GotTok tok) c more = refl
unless-some GotEnd c more = refl
unless-some (GotFault kind) c more = refl

within-some : {X : Type 0} (take : Config → Taking) (n : ℕ) (m : List Given → Meant X) (c : Config) → taken_within take n (some_of m) c ≡ some_took (taken_within take n m c)
within-some take zero m c = taken_as-some (m []) c (failed StepLimit c)
within-some take (suc n) m c =
    let t = take c in
    ap (λ r. taken_as (some_meant (m [])) c (unless_fault t.got t.next (taken_within take n r t.next))) (behind-some t.got m)
    ∙ ap (λ r. taken_as (some_meant (m [])) c (unless_fault t.got t.next r)) (within-some take n (behind_got t.got m) t.next)
    ∙ ap (λ r. taken_as (some_meant (m [])) c r) (unless-some t.got t.next (taken_within take n (behind_got t.got m) t.next))
    ∙ taken_as-some (m []) c (unless_fault t.got t.next (taken_within take n (behind_got t.got m) t.next))

looks_as-some : {X : Type 0} (m : Meant X) (more : List Cell) → looks_as (some_meant m) more ≡ looks_as m more
looks_as-some (Open want) more = refl
looks_as-some (Ended x rest) more = refl
looks_as-some (Wrong kind) more = refl

looks_within-some : {X : Type 0} (take : Config → Taking) (looks : Config → List Cell) (n : ℕ) (m : List Given → Meant X) (c : Config) → looks_within take looks n (some_of m) c ≡ looks_within take looks n m c
looks_within-some take looks zero m c = refl
looks_within-some take looks (suc n) m c =
    let t = take c in
    looks_as-some (m []) (looks c ++ looks_behind t.got (looks_within take looks n (behind_got t.got (some_of m)) t.next))
    ∙ ap (λ r. looks_as (m []) (looks c ++ looks_behind t.got (looks_within take looks n r t.next))) (behind-some t.got m)
    ∙ ap (λ r. looks_as (m []) (looks c ++ looks_behind t.got r)) (looks_within-some take looks n (behind_got t.got m) t.next)

pub reads-some : {S X : Type 0} (F : Ghosts S) (m : List Given → Meant X) (x : X) (new old : S)
    → Reads F (taken in_file m) (looks_taken in_file looks_in_file m) (Ok x) new old
    → Reads F (taken in_file (some_of m)) (looks_taken in_file looks_in_file (some_of m)) (Ok (Some x)) new old
unfolding taken looks_taken
reads-some F m x new old r =
    record {
      narrows = r.narrows;
      ok =
          λ p h.
          let c = F.configuration old p in
          (λ i. record {
            took = within-some in_file (suc (suc c.left)) m c i;
            notes = option_map (noted_all (looks_within-some in_file looks_in_file (suc (suc c.left)) m c i)) (F.notes old);
          })
          ∙ ap (λ (n : Noted _). record { took = some_took n.took; notes = n.notes }) (r.ok p h);
      fault = tt;
      stands = r.stands;
      origin = r.origin;
    }

pub reads-some-fails : {S X : Type 0} (F : Ghosts S) (m : List Given → Meant X) (e : Stop) (new old : S)
    → Reads F (taken in_file m) (looks_taken in_file looks_in_file m) (Err e) new old
    → Reads F (taken in_file (some_of m)) (looks_taken in_file looks_in_file (some_of m)) (Err e) new old
unfolding taken looks_taken
reads-some-fails F m Memory new old r = record { narrows = r.narrows; ok = tt; fault = tt; stands = r.stands; origin = r.origin }
reads-some-fails F m (Fault k) new old r =
    record {
      narrows = r.narrows;
      ok = tt;
      fault =
          λ p h.
          let c = F.configuration old p in
          (λ i. record {
            took = within-some in_file (suc (suc c.left)) m c i;
            notes = option_map (noted_all (looks_within-some in_file looks_in_file (suc (suc c.left)) m c i)) (F.notes old);
          })
          ∙ ap (λ (n : Noted _). record { took = some_took n.took; notes = n.notes }) (r.fault p h);
      stands = r.stands;
      origin = r.origin;
    }
reads-some-fails F m (At fault) new old r = record { narrows = r.narrows; ok = tt; fault = r.fault; stands = r.stands; origin = r.origin }

-- ---- What a token makes of it

pub bracket-space : (t : Tok) (given : List Given) → is_space t ≡ true → bracket (AToken t ∷ given) ≡ bracket given
bracket-space t given e = ap (λ b. if b then bracket given else (if is_other 91 t then some_meant (bracket_rest given) else Ended None (AToken t ∷ given))) e

pub bracket-opens : (t : Tok) (given : List Given) → is_space t ≡ false → is_other 91 t ≡ true → bracket (AToken t ∷ given) ≡ some_of bracket_rest given
bracket-opens t given e f =
    ap (λ b. if b then bracket given else (if is_other 91 t then some_meant (bracket_rest given) else Ended None (AToken t ∷ given))) e
    ∙ ap (λ b. if b then some_meant (bracket_rest given) else Ended None (AToken t ∷ given)) f

pub bracket-other : (t : Tok) (given : List Given) → is_space t ≡ false → is_other 91 t ≡ false → bracket (AToken t ∷ given) ≡ Ended None (AToken t ∷ given)
bracket-other t given e f =
    ap (λ b. if b then bracket given else (if is_other 91 t then some_meant (bracket_rest given) else Ended None (AToken t ∷ given))) e
    ∙ ap (λ b. if b then some_meant (bracket_rest given) else Ended None (AToken t ∷ given)) f
