-- Macros: their parameters, and their bodies as they are read.
use Rattle.std.specs.Prelude.{◌+◌, ◌++◌, ◌==◌, ◌&&◌, Bool, true, false, ℕ, suc, nat_lt, List, [], Option, Some, None, if◌then◌else◌}
use Rattle.lb_base.specs.declared.token.Tok.{Tok}
use Rattle.lb_base.specs.declared.token.Tok.TheVariants as token
use Rattle.lb_values.specs.declared.cell.Cell.{Cell}
use Rattle.lb_values.specs.declared.reach.Reach.{Reach}
use Rattle.lb_model.specs.Ranges.{in_order}
use Rattle.lb_model_engine.specs.Definitions.{body_by, is_parameter, macro_defined, macro_set, marked_token}
use Rattle.lb_model_nest.specs.Wholes.{Executed, Whole}
use Rattle.lb_engine.specs.Parameters.{listed}
use Rattle.lb_engine.specs.declared.bodies.Stage.{Stage}
use Rattle.lb_engine.specs.declared.bodies.Stage.TheVariants as stage

-- ---- Parameters

-- how many parameters a token is
abbrev pub parameters_in : Tok → ℕ
parameters_in (token.Param k) = 1
parameters_in tok = 0

-- the number of the last parameter behind a token, None where that is not the next one
abbrev pub order_behind : ℕ → Tok → Option ℕ
order_behind n (token.Param k) = if k == suc n then Some (suc n) else None
order_behind n tok = Some n

abbrev pub in_order_as : Option ℕ → List Tok → Bool
in_order_as None toks = false
in_order_as (Some n) toks = in_order n toks

-- whether a token is no parameter, or one of the first n
abbrev pub is_of : ℕ → Tok → Bool
is_of n (token.Param k) = nat_lt 0 k && nat_lt k (suc n)
is_of n tok = true

-- ---- Bodies

-- the stage behind a token, and the tokens that it adds
abbrev pub stage_as : Option Tok → Stage
stage_as (Some t) = stage.Plain
stage_as None = stage.Wrong

abbrev pub stage_behind : ℕ → Stage → Tok → Stage
stage_behind n stage.Plain t = if is_parameter t then stage.Marked else stage.Plain
stage_behind n stage.Marked t = stage_as (marked_token n t)
stage_behind n stage.Wrong t = stage.Wrong

abbrev pub added_by : ℕ → Stage → Tok → Option Tok
added_by n stage.Plain t = if is_parameter t then None else Some t
added_by n stage.Marked t = marked_token n t
added_by n stage.Wrong t = None

-- the body where these tokens come behind what there is of it
abbrev pub with_tokens : List Tok → Option (List Tok) → Option (List Tok)
with_tokens toks None = None
with_tokens toks (Some body) = Some (toks ++ body)

abbrev pub body_from : ℕ → Stage → List Tok → List Tok → Option (List Tok)
body_from n stage.Plain body toks = with_tokens body (body_by false n toks)
body_from n stage.Marked body toks = with_tokens body (body_by true n toks)
body_from n stage.Wrong body toks = None

-- the body behind all tokens
abbrev pub ended_as : Stage → List Tok → Option (List Tok)
ended_as stage.Plain body = Some body
ended_as stage.Marked body = None
ended_as stage.Wrong body = None

-- ---- Definitions

-- a macro is made of the parts of its parameter text, and of the tokens of its body; and of the body
abbrev pub defined_by : Bool → Reach → Cell → List Tok → Option Tok → List Tok → Whole → Executed
defined_by long reach name tokens brace toks w = macro_defined long reach name (record { tokens = tokens; brace = listed brace }) toks w

abbrev pub set_by : Bool → Reach → Cell → List Tok → Option Tok → List Tok → Whole → Executed
set_by long reach name tokens brace body w = macro_set long reach name (record { tokens = tokens; brace = listed brace }) (body ++ listed brace) w

abbrev pub set_with : Bool → Reach → Cell → List Tok → List Tok → Whole → Executed
set_with long reach name tokens body w = macro_set long reach name (record { tokens = tokens; brace = [] }) body w
