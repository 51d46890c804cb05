-- What a loop over a feed comes to where a token is a fault.
use Rattle.std.proofs.Common.{◌≡◌, ◌∙◌, Bool, true, List, [], refl}
use Rattle.std.specs.Option.{option_map}
use Rattle.lb_base.specs.declared.fault.Stop.{Stop}
use Rattle.lb_base.specs.declared.fault.Stop.TheVariants.{Memory, Fault, At}
use Rattle.lb_values.specs.declared.cell.Cell.{Cell}
use Rattle.lb_model_grammar.specs.declared.given.Given.{Given}
use Rattle.lb_model_grammar.specs.declared.given.Want.{Want}
use Rattle.lb_model_grammar.specs.Scans.{Meant}
use Rattle.lb_model_grammar.specs.Scans.Meant.{Open}
use Rattle.lb_model.specs.declared.feed.Feed.{Ghosts}
use Rattle.lb_model.specs.declared.place.Got.TheVariants.{Fault as GotFault}
use Rattle.lb_model.specs.Configs.{Config, looks_of_plain, taken_by}
use Rattle.lb_model.specs.Readings.{Noted, failed, looks_with_meaning}
use Rattle.lb_model.specs.Settings.{Setting, noted_all}
use Rattle.lb_model.specs.Stops.{MayStopAt}
use Rattle.lb_model.proofs.TakenLemmas.{meaning-none, reading, reading-fault}

-- the reading m is still open, as its start comes to it, where the next token is a fault
pub fault-read : {S X : Type 0} (F : Ghosts S) (passes : Bool) (looks : Config → List Cell) (m : Setting → List Given → Meant X) (want : Want) (start : Setting → Noted X) (e : Stop) (new old : S)
    → ((p : Setting) → F.agrees new p → start p ≡ reading passes looks (m p) (F.configuration old p) (F.notes old))
    → ((p : Setting) → m p [] ≡ Open want)
    → MayStopAt e (λ k. (p : Setting) → F.agrees new p → taken_by passes (F.configuration old p) ≡ record { got = GotFault k; next = F.configuration new p })
    → MayStopAt e (λ k. (p : Setting) → F.agrees new p → F.notes new ≡ option_map (noted_all (looks (F.configuration old p))) (F.notes old))
    → MayStopAt e (λ k. (p : Setting) → F.agrees new p → start p ≡ record { took = failed k (F.configuration new p); notes = F.notes new })
fault-read F passes looks m want start Memory new old s o t n = tt
fault-read F passes looks m want start (Fault k) new old s o t n =
    λ p h. s p h ∙ reading-fault passes looks (m p) want (F.configuration old p) (F.configuration new p) k (F.notes old) (F.notes new) (o p) (t p h) (n p h)
fault-read F passes looks m want start (At fault) new old s o t n = t

-- the same, where the meaning of each token is looked at
pub fault-marked : {S X : Type 0} (F : Ghosts S) (m : Setting → List Given → Meant X) (want : Want) (start : Setting → Noted X) (e : Stop) (new old : S)
    → ((p : Setting) → F.agrees new p → start p ≡ reading true looks_with_meaning (m p) (F.configuration old p) (F.notes old))
    → ((p : Setting) → m p [] ≡ Open want)
    → MayStopAt e (λ k. (p : Setting) → F.agrees new p → taken_by true (F.configuration old p) ≡ record { got = GotFault k; next = F.configuration new p })
    → MayStopAt e (λ k. (p : Setting) → F.agrees new p → F.notes new ≡ option_map (noted_all (looks_of_plain (F.configuration old p))) (F.notes old))
    → MayStopAt e (λ k. (p : Setting) → F.agrees new p → start p ≡ record { took = failed k (F.configuration new p); notes = F.notes new })
fault-marked F m want start Memory new old s o t n = tt
fault-marked F m want start (Fault k) new old s o t n =
    λ p h.
    s p h
    ∙ reading-fault true looks_with_meaning (m p) want (F.configuration old p) (F.configuration new p) k (F.notes old) (F.notes new) (o p) (t p h)
    (meaning-none (F.configuration old p) (record { got = GotFault k; next = F.configuration new p }) (F.notes old) (F.notes new) (t p h) refl (n p h))
fault-marked F m want start (At fault) new old s o t n = t
