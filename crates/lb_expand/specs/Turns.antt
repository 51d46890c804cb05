-- Parts of a step, and how calls end.
use Rattle.std.specs.Prelude.{ℕ, Option, Some, None, Result, Ok, Err}
use Rattle.lb_base.specs.declared.fault.Stop.{Stop}
use Rattle.lb_base.specs.declared.fault.Stop.TheVariants.{Memory, Fault, At}
use Rattle.lb_base.specs.declared.token.Tok.{Tok}
use Rattle.lb_model.specs.Configs.{Config, looks_by, taken_by}
use Rattle.lb_model_expansion.specs.declared.expansion.Went.{Went}
use Rattle.lb_model_expansion.specs.declared.expansion.Went.TheVariants.{Answered, Gave, On, Over, Stopped, StoppedAt}
use Rattle.lb_model_expansion.specs.Expansion.{got_met, next_from, noted_from, resumed, token_met}
use Rattle.lb_model_expansion.specs.Steps.{Performed, and_then, ends_pass, looking}

-- the next token is met
abbrev pub met : Config → Performed
met c =
    let passes = ends_pass c.readings in
    let t = taken_by passes c in
    looking (looks_by passes c) (got_met t.got t.next)

-- so many turns
abbrev pub ran_from : ℕ → Config → Performed
ran_from turns c = record { done = next_from turns c; noted = noted_from turns c }

-- a token that was taken is met, and so many turns are done behind it
abbrev pub met_behind : Tok → ℕ → Config → Performed
met_behind tok turns c = and_then (resumed (token_met tok c)) (ran_from turns)

-- a token that is not expanded, or the end of the piece
abbrev pub token_came : Option Tok → Went
token_came (Some tok) = Gave tok
token_came None = Over

-- what a call answers, as how its turns ended
abbrev pub ended_with : {X : Type 0} → (X → Went) → Result X Stop → Result Went Stop
ended_with went (Ok x) = Ok (went x)
ended_with went (Err Memory) = Err Memory
ended_with went (Err (Fault kind)) = Ok (Stopped kind)
ended_with went (Err (At fault)) = Ok (StoppedAt fault)

-- the fault that turns ended at
abbrev pub stop_of : Went → Stop
stop_of (Stopped kind) = Fault kind
stop_of (StoppedAt fault) = At fault
stop_of went = Memory

-- the next token, where turns ended so
abbrev pub token_of : Went → Result (Option Tok) Stop
token_of (Gave tok) = Ok (Some tok)
token_of Over = Ok None
token_of (Stopped kind) = Err (Fault kind)
token_of (StoppedAt fault) = Err (At fault)
token_of On = Err Memory
token_of (Answered answer) = Err Memory
