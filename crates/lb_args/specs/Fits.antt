-- How the tokens that are not decided yet stand to the delimiter, and what they come to.
use Rattle.std.specs.Prelude.{◌≡◌, ◌++◌, ◌&&◌, ◌<◌, ◌≤◌, ◌+◌, Bool, false, ℕ, List, [], ◌∷◌, length, map, take, drop, Some}
use Rattle.lb_base.specs.declared.fault.Kind.TheVariants.{Runaway}
use Rattle.lb_base.specs.declared.token.Tok.{Tok}
use Rattle.lb_model_grammar.specs.declared.given.Given.{Given}
use Rattle.lb_model_grammar.specs.declared.given.Given.TheVariants.{Tok as AToken, End as AnEnd}
use Rattle.lb_model_grammar.specs.declared.given.Want.TheVariants.{Plain}
use Rattle.lb_model_grammar.specs.Arguments.{Begun, closes_at_end, delimited, opens, without_braces}
use Rattle.lb_model_grammar.specs.Arguments.Begun.{Does, May, Cut, DoesNot}
use Rattle.lb_model_grammar.specs.Scans.{Meant}
use Rattle.lb_model_grammar.specs.Scans.Meant.{Open, Ended, Wrong}
use Rattle.lb_args.specs.declared.fitting.Fit.{Fit}
use Rattle.lb_args.specs.declared.fitting.Fit.TheVariants as fit
use Rattle.lb_args.specs.declared.settling.Settled.{Settled}
use Rattle.lb_args.specs.declared.settling.Settled.TheVariants as settled

-- tokens that are given, and things behind them
abbrev pub given_before : List Tok → List Given → List Given
given_before toks given = map AToken toks ++ given

-- tokens of the window are the delimiter, a part of it, or not so, whatever comes behind
abbrev pub Fits : Fit → (List Given → Begun) → Type 0
Fits fit.Whole begun = (given : List Given) → begun given ≡ Does given
Fits fit.Part begun = (begun [] ≡ May) × (begun (AnEnd ∷ []) ≡ Cut)
Fits fit.Not begun = (given : List Given) → begun given ≡ DoesNot

-- an argument of whose tokens so many are decided, with what is given behind them
abbrev pub decided : Bool → List Tok → List Tok → ℕ → ℕ → List Given → Meant (List Tok)
decided long delimiter toks level count given = delimited long delimiter level (take count toks) (given_before (drop count toks) given)

-- what such an argument comes to
abbrev pub settles : Settled → Bool → List Tok → List Tok → List Given → Meant (List Tok)
settles (settled.Whole count) long delimiter toks given = Ended (without_braces (take count toks)) given
settles (settled.Open count level) long delimiter toks given = decided long delimiter toks level count given
settles (settled.Fails kind) long delimiter toks given = Wrong kind

-- it is open, and its end is runaway
pub record Opens (meant : List Given → Meant (List Tok)) : Type 0 where
  pub more : meant [] ≡ Open Plain
  pub cut : meant (AnEnd ∷ []) ≡ Wrong Runaway

-- where it goes on it is open, and less than the delimiter is undecided
pub record GoesOn (long : Bool) (delimiter toks : List Tok) (count level : ℕ) : Type 0 where
  pub window : Opens (decided long delimiter toks level count)
  pub within : count ≤ length toks
  pub short : length toks < count + length delimiter
  pub small : level ≤ count

-- what is told beside what it comes to
abbrev pub Goes : Settled → Bool → List Tok → List Tok → Type 0
Goes (settled.Open count level) long delimiter toks = GoesOn long delimiter toks count level
Goes (settled.Whole count) long delimiter toks = count ≤ length toks
Goes (settled.Fails kind) long delimiter toks = Unit {0}

-- a list that is wholly one group
abbrev pub is_group : List Tok → Bool
is_group [] = false
is_group (t ∷ toks) = opens t && closes_at_end (Some 0) toks

-- a part is shorter than the delimiter
abbrev pub Shorter : Fit → List Tok → List Tok → Type 0
Shorter fit.Part window delimiter = length window < length delimiter
Shorter fit window delimiter = Unit {0}
