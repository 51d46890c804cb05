-- The arguments of macros, taken from a configuration (TeXbook, chapter 20; tex.web, part 25).
use Rattle.std.specs.Prelude.{◌++◌, Bool, List, [], ◌∷◌, Option, Some, None}
use Rattle.lb_base.specs.declared.token.Tok.{Tok}
use Rattle.lb_values.specs.declared.cell.Cell.{Cell}
use Rattle.lb_values.specs.declared.meaning.Pattern.{Pattern}
use Rattle.lb_model_grammar.specs.Arguments.{argument, front, optional, parts_of}
use Rattle.lb_model.specs.Configs.{Config, in_file, looks_in_file}
use Rattle.lb_model.specs.Readings.{Took, looks_taken, looks_then, taken, then_taken, whole}

-- the arguments are taken one after another, each of them the shortest list of tokens that means it
abbrev pub each_argument : Bool → List (List Tok) → Config → Took (List (List Tok))
each_argument long [] c = whole [] c
each_argument long (delimiter ∷ delimiters) c =
    then_taken (taken in_file (argument long delimiter) c) (λ x d. then_taken (each_argument long delimiters d) (λ xs e. whole (x ∷ xs) e))

abbrev pub plain_arguments : Pattern → Config → Took (List (List Tok))
plain_arguments pattern c =
    let parts = parts_of pattern.tokens in
    then_taken (taken in_file (front parts.0) c) (λ _ d. each_argument pattern.long parts.1 d)

abbrev pub arguments_as : Option (List Tok) → Pattern → Config → Took (List (List Tok))
arguments_as None pattern c = plain_arguments pattern c
arguments_as (Some default) pattern c =
    then_taken (taken in_file (optional pattern.long default) c) (λ x d. then_taken (plain_arguments pattern d) (λ xs e. whole (x ∷ xs) e))

-- the arguments of a macro
abbrev pub arguments : Pattern → Config → Took (List (List Tok))
arguments pattern c = arguments_as pattern.first pattern c

-- ---- What is looked at for them

abbrev pub looks_each : Bool → List (List Tok) → Config → List Cell
looks_each long [] c = []
looks_each long (delimiter ∷ delimiters) c =
    let t = taken in_file (argument long delimiter) c in
    looks_taken in_file looks_in_file (argument long delimiter) c ++ looks_then t.outcome t.next (λ x d. looks_each long delimiters d)

abbrev pub looks_plain_arguments : Pattern → Config → List Cell
looks_plain_arguments pattern c =
    let parts = parts_of pattern.tokens in
    let t = taken in_file (front parts.0) c in
    looks_taken in_file looks_in_file (front parts.0) c ++ looks_then t.outcome t.next (λ _ d. looks_each pattern.long parts.1 d)

abbrev pub looks_arguments_as : Option (List Tok) → Pattern → Config → List Cell
looks_arguments_as None pattern c = looks_plain_arguments pattern c
looks_arguments_as (Some default) pattern c =
    let t = taken in_file (optional pattern.long default) c in
    looks_taken in_file looks_in_file (optional pattern.long default) c ++ looks_then t.outcome t.next (λ x d. looks_plain_arguments pattern d)

-- the cells that are looked at for the arguments of a macro
abbrev pub looks_arguments : Pattern → Config → List Cell
looks_arguments pattern c = looks_arguments_as pattern.first pattern c
