-- Names that may have a meaning, and what new macros are made of.
use Rattle.std.specs.Prelude.{Bool, is_some, true, ℕ, ℤ, List, Option}
use Rattle.lb_base.specs.declared.token.Tok.{Tok}
use Rattle.lb_values.specs.declared.cell.Cell.{Cell}
use Rattle.lb_values.specs.declared.value.Value.{Value}
use Rattle.lb_model.specs.Kinds.{meaning_of}
use Rattle.lb_model_engine.specs.declared.definition.NewKind.{NewKind}
use Rattle.lb_model_engine.specs.Definitions.{body_of, body_to}
use Rattle.lb_model_engine.specs.NewNames.{bodies_of, command_defined, command_macro, command_of, environment_defined, environment_of, parameters}
use Rattle.lb_model_engine.specs.Reads.{argument}
use Rattle.lb_model_nest.specs.Wholes.{Executed, Whole}

abbrev pub is_defined : Value → Bool
is_defined v = is_some (meaning_of v)

-- ---- Commands

-- a name means a macro whose body is made of these tokens
abbrev pub body_made : NewKind → Bool → Cell → ℕ → Option (List Tok) → List Tok → Whole → Executed
body_made kind long name n default toks w = body_to (body_of n toks) (λ body u. command_defined kind long name n default body u) w

-- the same where an argument has the body
abbrev pub body_argument : NewKind → Bool → Cell → ℤ → Option (List Tok) → Whole → Executed
body_argument kind long name count default w = argument (λ toks y. command_of kind long name count default toks y) w

-- the same where the parameters come before it
abbrev pub command_behind : NewKind → Bool → Cell → Whole → Executed
command_behind kind long name w = parameters (λ count default x. body_argument kind long name count default x) w

-- ---- Environments

-- an environment whose last body is made of these tokens
abbrev pub ends_made : NewKind → List ℕ → ℕ → Option (List Tok) → List Tok → List Tok → Whole → Executed
ends_made kind name n default first ends w =
    body_to (body_of 0 ends) (λ last u. environment_defined kind name (command_macro true default n first) last u) w

-- the same where an argument has the body of its end; where one has each of the bodies; and where the parameters come before them
abbrev pub ends_argument : NewKind → List ℕ → ℤ → Option (List Tok) → List Tok → Whole → Executed
ends_argument kind name count default begins w = argument (λ ends y. environment_of kind name count default begins ends y) w

abbrev pub begins_argument : NewKind → List ℕ → ℤ → Option (List Tok) → Whole → Executed
begins_argument kind name count default w = argument (λ begins x. ends_argument kind name count default begins x) w

abbrev pub environment_behind : NewKind → List ℕ → Whole → Executed
environment_behind kind name w = parameters (λ count default u. begins_argument kind name count default u) w
