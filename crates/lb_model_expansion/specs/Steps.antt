-- Steps: what is done in one, and beside it what is noted.
use Rattle.std.specs.Prelude.{◌+◌, Bool, true, false, ℕ, List, [], ◌∷◌, length, nat_lt, Option, if◌then◌else◌}
use Rattle.std.specs.Option.{option_map}
use Rattle.lb_base.specs.declared.fault.Kind.{Kind}
use Rattle.lb_base.specs.declared.fault.Kind.TheVariants.{BadTfm, DepthLimit, Runaway}
use Rattle.lb_base.specs.declared.token.Tok.{Tok}
use Rattle.lb_values.specs.declared.cell.Cell.{Cell}
use Rattle.lb_model.specs.declared.place.Got.{Got}
use Rattle.lb_model.specs.declared.place.Got.TheVariants.{Tok as GotTok, End as GotEnd, Fault as GotFault}
use Rattle.lb_model.specs.declared.open.ReadingKind.{ReadingKind}
use Rattle.lb_model.specs.declared.open.ReadingKind.TheVariants as reading
use Rattle.lb_model.specs.Configs.{Config, Reading, looks_by, put_all, taken_by}
use Rattle.lb_model.specs.Readings.{Outcome, Took}
use Rattle.lb_model.specs.Readings.Outcome.{Failed, Whole}
use Rattle.lb_model.specs.Sources.{pending}
use Rattle.lb_model.specs.Stacked.{StackedNotes, looked_all}
use Rattle.lb_model_expansion.specs.declared.expansion.Answer.{Answer}
use Rattle.lb_model_expansion.specs.declared.expansion.Went.{Went}
use Rattle.lb_model_expansion.specs.declared.expansion.Went.TheVariants.{On, Answered, Stopped, StoppedAt}

-- how a step went, and the configuration behind it
pub record Step : Type 0 where
  pub went : Went
  pub next : Config

-- what is done in a step, and what becomes of the notes
pub record Performed : Type 0 where
  pub done : Step
  pub noted : Option StackedNotes → Option StackedNotes

abbrev pub performed : Went → Config → Performed
performed went c = record { done = record { went = went; next = c }; noted = λ n. n }

abbrev pub on : Config → Performed
on c = performed On c

abbrev pub stopped : Kind → Config → Performed
stopped kind c = performed (Stopped kind) c

abbrev pub answered : Answer → Config → Performed
answered a c = performed (Answered a) c

-- a font's file breaks a rule of the format at this word
abbrev pub stopped_in : List ℕ → ℕ → Config → Performed
stopped_in file word c = performed (StoppedAt (record { kind = BadTfm; file = file; line = word })) c

-- cells are looked at before
abbrev pub looking : List Cell → Performed → Performed
looking cells p = record { done = p.done; noted = λ n. p.noted (option_map (looked_all cells) n) }

-- where a step went on, more is done
abbrev pub and_as : Went → Performed → Performed → Performed
and_as On p more = record { done = more.done; noted = λ n. more.noted (p.noted n) }
and_as went p more = p

abbrev pub and_then : Performed → (Config → Performed) → Performed
and_then p more = and_as p.done.went p (more p.done.next)

-- ---- Tokens before the rest

-- there is room for a million
abbrev pub put_then : List Tok → Went → Config → Performed
put_then toks went c = if nat_lt 1000000 (length toks + pending c.source) then stopped DepthLimit c else performed went (put_all toks c)

abbrev pub put : List Tok → Config → Performed
put toks c = put_then toks On c

-- ---- What a row takes

-- what comes of what was read unexpanded, or the fault
abbrev pub outcome_as : {X : Type 0} → Outcome X → Config → (X → Config → Performed) → Performed
outcome_as (Whole x) c next = next x c
outcome_as (Failed kind) c next = stopped kind c

abbrev pub with_outcome : {X : Type 0} → Took X → List Cell → (X → Config → Performed) → Performed
with_outcome t cells next = looking cells (outcome_as t.outcome t.next next)

-- no text may end in a body that is read
abbrev pub is_body : ReadingKind → Bool
is_body reading.Body = true
is_body r = false

abbrev pub ends_pass : List Reading → Bool
ends_pass [] = true
ends_pass (r ∷ readings) = if is_body r.kind then false else ends_pass readings

-- the next token, not expanded
abbrev pub token_as : Got → Config → (Tok → Config → Performed) → Performed
token_as (GotTok tok) c next = next tok c
token_as GotEnd c next = stopped Runaway c
token_as (GotFault kind) c next = stopped kind c

abbrev pub token_taken : Config → (Tok → Config → Performed) → Performed
token_taken c next =
    let passes = ends_pass c.readings in
    let t = taken_by passes c in
    looking (looks_by passes c) (token_as t.got t.next next)
