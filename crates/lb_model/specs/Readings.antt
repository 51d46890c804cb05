-- Tokens that are taken, without expansion, until they mean something: arguments, the rests of groups, text that is skipped.
use Rattle.std.specs.Prelude.{◌+◌, ◌++◌, ℕ, zero, suc, List, [], ◌∷◌, length, nat_lt, Option, if◌then◌else◌}
use Rattle.std.specs.Option.{option_map}
use Rattle.lb_base.specs.declared.fault.Kind.{Kind}
use Rattle.lb_base.specs.declared.fault.Kind.TheVariants.{DepthLimit, StepLimit}
use Rattle.lb_base.specs.declared.token.Tok.{Tok}
use Rattle.lb_values.specs.declared.cell.Cell.{Cell}
use Rattle.lb_model_grammar.specs.declared.given.Given.{Given}
use Rattle.lb_model_grammar.specs.declared.given.Given.TheVariants.{Tok as AToken, End as AnEnd}
use Rattle.lb_model_grammar.specs.Scans.{Meant, tokens_in}
use Rattle.lb_model_grammar.specs.Scans.Meant.{Open, Ended, Wrong}
use Rattle.lb_model.specs.declared.place.Got.{Got}
use Rattle.lb_model.specs.declared.place.Got.TheVariants.{Tok as GotTok, End as GotEnd, Fault as GotFault}
use Rattle.lb_model.specs.Configs.{Config, Taking, looks_of_meaning, looks_of_plain, plain, put_all}
use Rattle.lb_model.specs.Settings.{Notes, noted_all}
use Rattle.lb_model.specs.Sources.{pending}

-- what was read, or what was wrong
pub data Outcome (X : Type 0) : Type 0 where
  Whole : X → Outcome X
  Failed : Kind → Outcome X

pub record Took (X : Type 0) : Type 0 where
  pub outcome : Outcome X
  pub next : Config

abbrev pub whole : {X : Type 0} → X → Config → Took X
whole x c = record { outcome = Whole x; next = c }

abbrev pub failed : {X : Type 0} → Kind → Config → Took X
failed kind c = record { outcome = Failed kind; next = c }

-- the tokens that are not of the reading are put back, for which there has to be room
abbrev pub returned : {X : Type 0} → X → List Tok → Config → Took X
returned x [] c = whole x c
returned x toks c = if nat_lt 1000000 (length toks + pending c.source) then failed DepthLimit c else whole x (put_all toks c)

-- what means a reading is one, and what is wrong fails; else more is taken
abbrev pub taken_as : {X : Type 0} → Meant X → Config → Took X → Took X
taken_as (Open want) c more = more
taken_as (Ended x rest) c more = returned x (tokens_in rest) c
taken_as (Wrong kind) c more = failed kind c

-- what the things to come mean behind what was got
abbrev pub behind_got : {X : Type 0} → Got → (List Given → Meant X) → List Given → Meant X
behind_got (GotTok tok) meant given = meant (AToken tok ∷ given)
behind_got GotEnd meant given = meant (AnEnd ∷ given)
behind_got (GotFault kind) meant given = meant given

-- a fault in the place of a token ends the reading
abbrev pub unless_fault : {X : Type 0} → Got → Config → Took X → Took X
unless_fault (GotFault kind) c more = failed kind c
unless_fault got c more = more

-- tokens are taken, no more than this many, until they mean a reading
abbrev pub taken_within : {X : Type 0} → (Config → Taking) → ℕ → (List Given → Meant X) → Config → Took X
taken_within take zero meant c = taken_as (meant []) c (failed StepLimit c)
taken_within take (suc n) meant c =
    taken_as (meant []) c (let t = take c in unless_fault t.got t.next (taken_within take n (behind_got t.got meant) t.next))

-- as many as there are steps, and the end; each token takes a step, so this never ends a reading
unfoldable pub taken : {X : Type 0} → (Config → Taking) → (List Given → Meant X) → Config → Took X
taken take meant c = taken_within take (suc (suc c.left)) meant c

-- one reading, and another behind it
abbrev pub next_as : {X Y : Type 0} → Outcome X → Config → (X → Config → Took Y) → Took Y
next_as (Whole x) c next = next x c
next_as (Failed kind) c next = failed kind c

abbrev pub then_taken : {X Y : Type 0} → Took X → (X → Config → Took Y) → Took Y
then_taken t next = next_as t.outcome t.next next

-- ---- What is looked at on the way

-- nothing more, where a reading or a fault is there
abbrev pub looks_as : {X : Type 0} → Meant X → List Cell → List Cell
looks_as (Open want) more = more
looks_as meant more = []

abbrev pub looks_behind : Got → List Cell → List Cell
looks_behind (GotFault kind) more = []
looks_behind got more = more

abbrev pub looks_within : {X : Type 0} → (Config → Taking) → (Config → List Cell) → ℕ → (List Given → Meant X) → Config → List Cell
looks_within take looks zero meant c = []
looks_within take looks (suc n) meant c =
    looks_as (meant []) (let t = take c in looks c ++ looks_behind t.got (looks_within take looks n (behind_got t.got meant) t.next))

-- the cells that are looked at, in order, where `looks` are those of one token
unfoldable pub looks_taken : {X : Type 0} → (Config → Taking) → (Config → List Cell) → (List Given → Meant X) → Config → List Cell
looks_taken take looks meant c = looks_within take looks (suc (suc c.left)) meant c

-- one reading, and another behind it
abbrev pub looks_then : {X : Type 0} → Outcome X → Config → (X → Config → List Cell) → List Cell
looks_then (Whole x) c looks = looks x c
looks_then (Failed kind) c looks = []

-- a token, and what it means, where it is a control sequence or an active character
abbrev pub looks_of_got : Got → List Cell
looks_of_got (GotTok tok) = looks_of_meaning tok
looks_of_got got = []

abbrev pub looks_with_meaning : Config → List Cell
looks_with_meaning c = looks_of_plain c ++ looks_of_got (plain c).got

-- ---- What is read, and beside it the notes

pub record Noted (X : Type 0) : Type 0 where
  pub took : Took X
  pub notes : Option Notes

-- what is read, and the notes once the cells are told that are looked at for it
abbrev pub noting : {X : Type 0} → (Config → Took X) → (Config → List Cell) → Config → Option Notes → Noted X
noting took looks c notes = record { took = took c; notes = option_map (noted_all (looks c)) notes }
