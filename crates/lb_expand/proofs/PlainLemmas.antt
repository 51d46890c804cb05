-- A reading over a feed whose tokens may be of any text: what is owed at its start is what is owed of it now, and how it ends.
use Rattle.std.proofs.Common.{◌≡◌, ◌∙◌, [], ◌∷◌, List, ap, Ok, Err}
use Rattle.std.specs.Prelude.{Bool, Option, Some, None}
use Rattle.std.specs.Option.{option_map}
use Rattle.lb_base.specs.declared.fault.Kind.{Kind}
use Rattle.lb_base.specs.declared.fault.Stop.{Stop}
use Rattle.lb_base.specs.declared.fault.Stop.TheVariants.{Fault}
use Rattle.lb_base.specs.declared.token.Tok.{Tok}
use Rattle.lb_values.specs.declared.cell.Cell.{Cell}
use Rattle.lb_model_grammar.specs.declared.given.Given.{Given}
use Rattle.lb_model_grammar.specs.declared.given.Given.TheVariants.{Tok as AToken, End as AnEnd}
use Rattle.lb_model_grammar.specs.declared.given.Want.TheVariants.{Plain}
use Rattle.lb_model_grammar.specs.Scans.{Meant}
use Rattle.lb_model_grammar.specs.Scans.Meant.{Open, Ended, Wrong}
use Rattle.lb_model.specs.declared.feed.Feed.{Ghosts}
use Rattle.lb_model.specs.declared.place.Got.TheVariants.{Fault as GotFault}
use Rattle.lb_model.specs.Configs.{Config, asked, looks_by, taken_by}
use Rattle.lb_model.specs.Fed.{Reads}
use Rattle.lb_model.specs.Readings.{Took, looks_taken, noting, taken}
use Rattle.lb_model.specs.Settings.{Setting, noted_all}
use Rattle.lb_model.specs.Stops.{MayStopAt}
use Rattle.lb_model.proofs.FedLemmas.{fault-read}
use Rattle.lb_model.proofs.TakenLemmas.{reading-done, reading-end, reading-token}
use Rattle.lb_args.proofs.ReadingLemmas.{Owed}

-- what is owed of a reading of tokens of any text
abbrev pub OwedOf : {S X : Type 0} → Ghosts S → Bool → (List Given → Meant X) → (Config → Took X) → (Config → List Cell) → S → S → Type 0
OwedOf F passes m start start_looks now old = Owed F (taken (taken_by passes) m) (looks_taken (taken_by passes) (looks_by passes) m) start start_looks now old

-- what one call of the feed for a token tells
pub record Fed {S : Type 0} (F : Ghosts S) (passes : Bool) (got : Option Tok) (new old : S) : Type 0 where
  pub narrows : (p : Setting) → F.agrees new p → F.agrees old p
  pub ok : (p : Setting) → F.agrees new p → taken_by passes (F.configuration old p) ≡ record { got = asked got; next = F.configuration new p }
  pub notes : (p : Setting) → F.agrees new p → F.notes new ≡ option_map (noted_all (looks_by passes (F.configuration old p))) (F.notes old)
  pub stands : (p : Setting) → F.agrees new p → F.stands old p → F.stands new p
  pub origin : F.origin new ≡ F.origin old

-- an answer that is this one
pub fed : {S : Type 0} (F : Ghosts S) (passes : Bool) (got is : Option Tok) (new old : S) → got ≡ is
    → ((p : Setting) → F.agrees new p → F.agrees old p)
    → ((p : Setting) → F.agrees new p → taken_by passes (F.configuration old p) ≡ record { got = asked got; next = F.configuration new p })
    → ((p : Setting) → F.agrees new p → F.notes new ≡ option_map (noted_all (looks_by passes (F.configuration old p))) (F.notes old))
    → ((p : Setting) → F.agrees new p → F.stands old p → F.stands new p) → F.origin new ≡ F.origin old
    → Fed F passes is new old
fed F passes got is new old e narrows ok notes stands origin =
    record {
      narrows = narrows;
      ok = λ p h. ok p h ∙ ap (λ o. record { got = asked o; next = F.configuration new p }) e;
      notes = notes;
      stands = stands;
      origin = origin;
    }

-- a token turns a reading into another
pub owed-token : {S X : Type 0} (F : Ghosts S) (passes : Bool) (m r : List Given → Meant X) {start : Config → Took X} {start_looks : Config → List Cell} (tok : Tok) (new mid old : S)
    → OwedOf F passes m start start_looks mid old → m [] ≡ Open Plain → Fed F passes (Some tok) new mid → ((given : List Given) → m (AToken tok ∷ given) ≡ r given) → OwedOf F passes r start start_looks new old
owed-token F passes m r tok new mid old o e f same =
    record {
      narrows = λ p h. o.narrows p (f.narrows p h);
      rest =
          λ p h.
          o.rest p (f.narrows p h)
          ∙ reading-token passes (looks_by passes) m r Plain (F.configuration mid p) (F.configuration new p) tok (F.notes mid) (F.notes new) e (f.ok p h) (f.notes p h) same;
      stands = λ p h before. f.stands p h (o.stands p (f.narrows p h) before);
      origin = f.origin ∙ o.origin;
    }

-- the end of the piece is a fault
pub reads-end : {S X : Type 0} (F : Ghosts S) (passes : Bool) (m : List Given → Meant X) {start : Config → Took X} {start_looks : Config → List Cell} (k : Kind) (new mid old : S)
    → OwedOf F passes m start start_looks mid old → m [] ≡ Open Plain → Fed F passes None new mid → m (AnEnd ∷ []) ≡ Wrong k → Reads F start start_looks (Err (Fault k)) new old
reads-end F passes m k new mid old o e f wrong =
    record {
      narrows = λ p h. o.narrows p (f.narrows p h);
      ok = tt;
      fault =
          λ p h.
          o.rest p (f.narrows p h)
          ∙ reading-end passes (looks_by passes) m Plain (F.configuration mid p) (F.configuration new p) k (F.notes mid) (F.notes new) e (f.ok p h) wrong (f.notes p h);
      stands = λ p h before. f.stands p h (o.stands p (f.narrows p h) before);
      origin = f.origin ∙ o.origin;
    }

-- a fault in the place of a token
pub reads-fault : {S X : Type 0} (F : Ghosts S) (passes : Bool) (m : List Given → Meant X) (start : Config → Took X) (start_looks : Config → List Cell) (e : Stop) (new mid old : S)
    → OwedOf F passes m start start_looks mid old → m [] ≡ Open Plain
    → ((p : Setting) → F.agrees new p → F.agrees mid p)
    → MayStopAt e (λ k. (p : Setting) → F.agrees new p → taken_by passes (F.configuration mid p) ≡ record { got = GotFault k; next = F.configuration new p })
    → MayStopAt e (λ k. (p : Setting) → F.agrees new p → F.notes new ≡ option_map (noted_all (looks_by passes (F.configuration mid p))) (F.notes mid))
    → ((p : Setting) → F.agrees new p → F.stands mid p → F.stands new p) → F.origin new ≡ F.origin mid
    → Reads F start start_looks (Err e) new old
reads-fault F passes m start start_looks e new mid old o opened narrows taking notes stands origin =
    record {
      narrows = λ p h. o.narrows p (narrows p h);
      ok = tt;
      fault =
          fault-read F passes (looks_by passes) (λ p. m) Plain (λ p. noting start start_looks (F.configuration old p) (F.notes old)) e new mid
          (λ p h. o.rest p (narrows p h)) (λ p. opened) taking notes;
      stands = λ p h before. stands p h (o.stands p (narrows p h) before);
      origin = origin ∙ o.origin;
    }

-- the reading ends
pub reads-done : {S X : Type 0} (F : Ghosts S) (passes : Bool) (m : List Given → Meant X) {start : Config → Took X} {start_looks : Config → List Cell} (x : X) (new old : S)
    → OwedOf F passes m start start_looks new old → m [] ≡ Ended x [] → Reads F start start_looks (Ok x) new old
reads-done F passes m x new old o e =
    record {
      narrows = o.narrows;
      ok = λ p h. o.rest p h ∙ reading-done passes (looks_by passes) m x (F.configuration new p) (F.notes new) e;
      fault = tt;
      stands = o.stands;
      origin = o.origin;
    }
