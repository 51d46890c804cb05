-- Tokens that are taken one after another, until they mean a reading, and what is noted on the way.
use Rattle.std.proofs.Common.{◌≡◌, ◌∙◌, ◌++◌, ℕ, zero, suc, Bool, true, List, [], ◌∷◌, Some, None, refl, ap, sym, Ok, Err}
use Rattle.std.specs.Prelude.{Option, Result, IfErr, IfOk}
use Rattle.std.specs.Option.{option_map}
use Rattle.lb_base.specs.declared.fault.Kind.{Kind}
use Rattle.lb_base.specs.declared.fault.Stop.{Stop}
use Rattle.lb_base.specs.declared.fault.Stop.TheVariants.{Memory, Fault, At}
use Rattle.lb_base.specs.declared.token.Tok.{Tok}
use Rattle.lb_values.specs.declared.cell.Cell.{Cell}
use Rattle.lb_model_grammar.specs.declared.given.Given.{Given}
use Rattle.lb_model_grammar.specs.declared.given.Given.TheVariants.{Tok as AToken, End as AnEnd}
use Rattle.lb_model_grammar.specs.declared.given.Want.{Want}
use Rattle.lb_model_grammar.specs.Scans.{Meant}
use Rattle.lb_model_grammar.specs.Scans.Meant.{Open, Ended, Wrong}
use Rattle.lb_model.specs.declared.place.Got.{Got}
use Rattle.lb_model.specs.declared.place.Got.TheVariants.{Tok as GotTok, End as GotEnd, Fault as GotFault}
use Rattle.lb_model.specs.Configs.{Config, Taking, looks_of_meaning, looks_of_plain, taken_by}
use Rattle.lb_model.specs.Meanings.{category_in}
use Rattle.lb_model.specs.Readings.{Noted, behind_got, failed, looks_as, looks_behind, looks_of_got, looks_taken, looks_with_meaning, looks_within, noting, taken, taken_as, taken_within, unless_fault, whole}
use Rattle.lb_model.specs.Settings.{Notes, noted, noted_all}
use Rattle.lb_model.specs.Sources.{source_token, stepped}
use Rattle.lb_model.specs.Stops.{MayStopAt}

-- ---- Notes

all-append : (a b : List Cell) (n : Notes) → noted_all (a ++ b) n ≡ noted_all b (noted_all a n)
all-append [] b n = refl
all-append (c ∷ a) b n = all-append a b (noted c n)

-- the notes of looks and further looks
pub noted-append : (a b : List Cell) (o : Option Notes) → option_map (noted_all (a ++ b)) o ≡ option_map (noted_all b) (option_map (noted_all a) o)
noted-append a b None = refl
noted-append a b (Some n) = ap Some (all-append a b n)

pub noted-none : (o : Option Notes) → option_map (noted_all []) o ≡ o
noted-none None = refl
noted-none (Some n) = refl

-- ---- Readings

-- what means a reading takes nothing more
taken-done : {X : Type 0} (take : Config → Taking) (m : List Given → Meant X) (x : X) (c : Config) → m [] ≡ Ended x [] → taken take m c ≡ whole x c
unfolding taken
taken-done take m x c e i = taken_as (e i) c (unless_fault (take c).got (take c).next (taken_within take (suc c.left) (behind_got (take c).got m) (take c).next))

looks-done : {X : Type 0} (take : Config → Taking) (looks : Config → List Cell) (m : List Given → Meant X) (x : X) (c : Config) → m [] ≡ Ended x [] → looks_taken take looks m c ≡ []
unfolding looks_taken
looks-done take looks m x c e i =
    looks_as (e i) (looks c ++ looks_behind (take c).got (looks_within take looks (suc c.left) (behind_got (take c).got m) (take c).next))

taken-wrong : {X : Type 0} (take : Config → Taking) (m : List Given → Meant X) (k : Kind) (c : Config) → m [] ≡ Wrong k → taken take m c ≡ failed k c
unfolding taken
taken-wrong take m k c e i = taken_as (e i) c (unless_fault (take c).got (take c).next (taken_within take (suc c.left) (behind_got (take c).got m) (take c).next))

looks-wrong : {X : Type 0} (take : Config → Taking) (looks : Config → List Cell) (m : List Given → Meant X) (k : Kind) (c : Config) → m [] ≡ Wrong k → looks_taken take looks m c ≡ []
unfolding looks_taken
looks-wrong take looks m k c e i =
    looks_as (e i) (looks c ++ looks_behind (take c).got (looks_within take looks (suc c.left) (behind_got (take c).got m) (take c).next))

-- what does not takes one more
more : {X : Type 0} (take : Config → Taking) (m : List Given → Meant X) (want : Want) (c : Config) (t : Taking) → m [] ≡ Open want → take c ≡ t
    → taken take m c ≡ unless_fault t.got t.next (taken_within take (suc c.left) (behind_got t.got m) t.next)
unfolding taken
more take m want c t e f =
    (λ i. taken_as (e i) c (unless_fault (take c).got (take c).next (taken_within take (suc c.left) (behind_got (take c).got m) (take c).next)))
    ∙ ap (λ t. unless_fault t.got t.next (taken_within take (suc c.left) (behind_got t.got m) t.next)) f

more_looks : {X : Type 0} (take : Config → Taking) (looks : Config → List Cell) (m : List Given → Meant X) (want : Want) (c : Config) (t : Taking) → m [] ≡ Open want → take c ≡ t
    → looks_taken take looks m c ≡ looks c ++ looks_behind t.got (looks_within take looks (suc c.left) (behind_got t.got m) t.next)
unfolding looks_taken
more_looks take looks m want c t e f =
    (λ i. looks_as (e i) (looks c ++ looks_behind (take c).got (looks_within take looks (suc c.left) (behind_got (take c).got m) (take c).next)))
    ∙ ap (λ t. looks c ++ looks_behind t.got (looks_within take looks (suc c.left) (behind_got t.got m) t.next)) f

-- a token takes a step
left-of : (got : Got) (left : ℕ) (tok : Tok) → (stepped got left).0 ≡ GotTok tok → left ≡ suc (stepped got left).1
left-of (GotTok t) (suc left) tok e = refl
left-of (GotTok t) zero tok e = cc
left-of GotEnd left tok e = cc
left-of (GotFault k) (suc left) tok e = cc
left-of (GotFault k) zero tok e = cc

pub falls : (passes : Bool) (c d : Config) (tok : Tok) → taken_by passes c ≡ record { got = GotTok tok; next = d } → c.left ≡ suc d.left
falls passes c d tok e =
    left-of (source_token passes (category_in c.world c.cells.now) c.place c.source).got c.left tok (ap (λ t. t.got) e) ∙ ap (λ t. suc t.next.left) e

taken-token : {X : Type 0} (passes : Bool) (m : List Given → Meant X) (want : Want) (c d : Config) (tok : Tok) → m [] ≡ Open want
    → taken_by passes c ≡ record { got = GotTok tok; next = d } → taken (taken_by passes) m c ≡ taken (taken_by passes) (λ given. m (AToken tok ∷ given)) d
unfolding taken
taken-token passes m want c d tok e f =
    more (taken_by passes) m want c (record { got = GotTok tok; next = d }) e f
    ∙ ap (λ n. taken_within (taken_by passes) (suc n) (λ given. m (AToken tok ∷ given)) d) (falls passes c d tok f)

looks-token : {X : Type 0} (passes : Bool) (looks : Config → List Cell) (m : List Given → Meant X) (want : Want) (c d : Config) (tok : Tok) → m [] ≡ Open want
    → taken_by passes c ≡ record { got = GotTok tok; next = d }
    → looks_taken (taken_by passes) looks m c ≡ looks c ++ looks_taken (taken_by passes) looks (λ given. m (AToken tok ∷ given)) d
unfolding looks_taken
looks-token passes looks m want c d tok e f =
    more_looks (taken_by passes) looks m want c (record { got = GotTok tok; next = d }) e f
    ∙ ap (λ n. looks c ++ looks_within (taken_by passes) looks (suc n) (λ given. m (AToken tok ∷ given)) d) (falls passes c d tok f)

-- ---- Readings and notes together: a reading that is done, one that is wrong, a fault, the end, and a token

-- what is noted on the way to a meaning
abbrev pub reading : {X : Type 0} → Bool → (Config → List Cell) → (List Given → Meant X) → Config → Option Notes → Noted X
reading passes looks m = noting (taken (taken_by passes) m) (looks_taken (taken_by passes) looks m)

pub reading-done : {X : Type 0} (passes : Bool) (looks : Config → List Cell) (m : List Given → Meant X) (x : X) (c : Config) (n : Option Notes) → m [] ≡ Ended x []
    → reading passes looks m c n ≡ record { took = whole x c; notes = n }
reading-done passes looks m x c n e =
    (λ i. record { took = taken-done (taken_by passes) m x c e i; notes = option_map (noted_all (looks-done (taken_by passes) looks m x c e i)) n })
    ∙ ap (λ o. record { took = whole x c; notes = o }) (noted-none n)

pub reading-wrong : {X : Type 0} (passes : Bool) (looks : Config → List Cell) (m : List Given → Meant X) (k : Kind) (c : Config) (n : Option Notes) → m [] ≡ Wrong k
    → reading passes looks m c n ≡ record { took = failed k c; notes = n }
reading-wrong passes looks m k c n e =
    (λ i. record { took = taken-wrong (taken_by passes) m k c e i; notes = option_map (noted_all (looks-wrong (taken_by passes) looks m k c e i)) n })
    ∙ ap (λ o. record { took = failed k c; notes = o }) (noted-none n)

pub reading-fault : {X : Type 0} (passes : Bool) (looks : Config → List Cell) (m : List Given → Meant X) (want : Want) (c d : Config) (k : Kind) (n u : Option Notes) → m [] ≡ Open want
    → taken_by passes c ≡ record { got = GotFault k; next = d } → u ≡ option_map (noted_all (looks c)) n
    → reading passes looks m c n ≡ record { took = failed k d; notes = u }
unfolding taken looks_taken
reading-fault passes looks m want c d k n u e f h =
    let t : Taking = record { got = GotFault k; next = d } in
    (λ i. record { took = more (taken_by passes) m want c t e f i; notes = option_map (noted_all (more_looks (taken_by passes) looks m want c t e f i)) n })
    ∙ ap (λ o. record { took = failed k d; notes = o }) (noted-append (looks c) [] n ∙ noted-none (option_map (noted_all (looks c)) n) ∙ sym h)

pub reading-end : {X : Type 0} (passes : Bool) (looks : Config → List Cell) (m : List Given → Meant X) (want : Want) (c d : Config) (k : Kind) (n u : Option Notes) → m [] ≡ Open want
    → taken_by passes c ≡ record { got = GotEnd; next = d } → m (AnEnd ∷ []) ≡ Wrong k → u ≡ option_map (noted_all (looks c)) n
    → reading passes looks m c n ≡ record { took = failed k d; notes = u }
unfolding taken looks_taken
reading-end passes looks m want c d k n u e f g h =
    let take = taken_by passes in
    let t : Taking = record { got = GotEnd; next = d } in
    (λ i. record { took = more take m want c t e f i; notes = option_map (noted_all (more_looks take looks m want c t e f i)) n })
    ∙ (
    λ i. record {
      took = taken_as (g i) d (unless_fault (take d).got (take d).next (taken_within take c.left (behind_got (take d).got (λ given. m (AnEnd ∷ given))) (take d).next));
      notes =
          option_map (noted_all (looks c ++ looks_as (g i) (looks d ++ looks_behind (take d).got (looks_within take looks c.left (behind_got (take d).got (λ given. m (AnEnd ∷ given))) (take d).next)))) n;
    }
    )
    ∙ ap (λ o. record { took = failed k d; notes = o }) (noted-append (looks c) [] n ∙ noted-none (option_map (noted_all (looks c)) n) ∙ sym h)

pub reading-token : {X : Type 0} (passes : Bool) (looks : Config → List Cell) (m r : List Given → Meant X) (want : Want) (c d : Config) (tok : Tok) (n u : Option Notes) → m [] ≡ Open want
    → taken_by passes c ≡ record { got = GotTok tok; next = d } → u ≡ option_map (noted_all (looks c)) n → ((given : List Given) → m (AToken tok ∷ given) ≡ r given)
    → reading passes looks m c n ≡ reading passes looks r d u
reading-token passes looks m r want c d tok n u e f h same =
    let take = taken_by passes in
    (λ i. record { took = taken-token passes m want c d tok e f i; notes = option_map (noted_all (looks-token passes looks m want c d tok e f i)) n })
    ∙ (λ i. record {
      took = taken take (λ given. same given i) d;
      notes = noted-append (looks c) (looks_taken take looks (λ given. same given i) d) n i;
    })
    ∙ ap (λ o. record { took = taken take r d; notes = option_map (noted_all (looks_taken take looks r d)) o }) (sym h)

-- ---- The meaning of each token is looked at as well

pub meaning-token : (c d : Config) (tok : Tok) (n u v : Option Notes) → taken_by true c ≡ record { got = GotTok tok; next = d }
    → u ≡ option_map (noted_all (looks_of_plain c)) n → v ≡ option_map (noted_all (looks_of_meaning tok)) u → v ≡ option_map (noted_all (looks_with_meaning c)) n
meaning-token c d tok n u v e h g =
    g ∙ ap (option_map (noted_all (looks_of_meaning tok))) h ∙ sym (noted-append (looks_of_plain c) (looks_of_meaning tok) n)
    ∙ ap (λ (t : Taking). option_map (noted_all (looks_of_plain c ++ looks_of_got t.got)) n) (sym e)

pub meaning-none : (c : Config) (t : Taking) (n u : Option Notes) → taken_by true c ≡ t → looks_of_got t.got ≡ [] → u ≡ option_map (noted_all (looks_of_plain c)) n
    → u ≡ option_map (noted_all (looks_with_meaning c)) n
meaning-none c t n u e f h =
    h ∙ sym (noted-none (option_map (noted_all (looks_of_plain c)) n)) ∙ sym (noted-append (looks_of_plain c) [] n)
    ∙ ap (λ l. option_map (noted_all (looks_of_plain c ++ l)) n) (sym f) ∙ ap (λ (s : Taking). option_map (noted_all (looks_of_plain c ++ looks_of_got s.got)) n) (sym e)

-- ---- Answers

-- what follows of an error follows of the answer that has it, and what follows of a fault of the stop that is one
pub if-err : {X E : Type 0} (P Q : E → Type 0) (r : Result X E) → ((e : E) → P e → Q e) → IfErr r P → IfErr r Q
if-err P Q (Ok x) f h = h
if-err P Q (Err e) f h = f e h

pub if-ok : {X E : Type 0} (P Q : X → Type 0) (r : Result X E) → ((x : X) → P x → Q x) → IfOk r P → IfOk r Q
if-ok P Q (Ok x) f h = f x h
if-ok P Q (Err e) f h = h

pub may-stop : (P Q : Kind → Type 0) (e : Stop) → ((k : Kind) → P k → Q k) → MayStopAt e P → MayStopAt e Q
may-stop P Q Memory f h = h
may-stop P Q (Fault k) f h = f k h
may-stop P Q (At fault) f h = h

-- two things that hold of a fault
pub may-stop-both : (P Q R : Kind → Type 0) (e : Stop) → ((k : Kind) → P k → Q k → R k) → MayStopAt e P → MayStopAt e Q → MayStopAt e R
may-stop-both P Q R Memory f h g = h
may-stop-both P Q R (Fault k) f h g = f k h g
may-stop-both P Q R (At fault) f h g = h
