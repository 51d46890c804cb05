-- New names: registers, conditionals, commands and environments (source2e, files ltdefns and ltplain).
use Rattle.std.specs.Prelude.{◌-◌, ◌++◌, ◌&&◌, Bool, true, false, not, ℕ, zero, suc, ℤ, pos, negsuc, nat_lt, nat_eq, List, [], ◌∷◌, length, codes, take, drop, Option, Some, None, is_some, if◌then◌else◌}
use Rattle.std.specs.Cmp.Lexicographic.{pointwise}
use Rattle.lb_base.specs.declared.fault.Kind.TheVariants.{AlreadyDefined, BadCode, Overflow, TokenMisplaced, Undefined}
use Rattle.lb_base.specs.declared.token.Tok.{Tok}
use Rattle.lb_base.specs.declared.token.Tok.TheVariants as token
use Rattle.lb_rows.specs.declared.command.Command.TheVariants as command
use Rattle.lb_values.specs.declared.cell.Cell.{Cell}
use Rattle.lb_values.specs.declared.cell.Cell.TheVariants as cell
use Rattle.lb_values.specs.declared.cell.RegisterKind.{RegisterKind}
use Rattle.lb_values.specs.declared.meaning.MacroDef.{MacroDef}
use Rattle.lb_values.specs.declared.meaning.Meaning.TheVariants as meaning
use Rattle.lb_values.specs.declared.reach.Reach.TheVariants.{Local, Global}
use Rattle.lb_values.specs.declared.value.Value.{Value}
use Rattle.lb_values.specs.declared.value.Value.TheVariants as value
use Rattle.lb_model.specs.Kinds.{meaning_of, number_of}
use Rattle.lb_model_engine.specs.declared.definition.NewKind.{NewKind}
use Rattle.lb_model_engine.specs.declared.definition.NewKind.TheVariants.{New, Renew, Provide}
use Rattle.lb_model_engine.specs.Definitions.{body_of, body_to, macro_value, plain_macro, register_meaning}
use Rattle.lb_model_engine.specs.Reads.{argument, bracket, characters, control, control_to, number_in, reading, star}
use Rattle.lb_model_nest.specs.Wholes.{Executed, Whole, and_then, change, looking, on, stop, tells}

-- ---- `\newcount`, `\newdimen`, `\newskip`, `\newlength`, `\newtoks`, `\newsavebox`

abbrev pub register_named : RegisterKind → Cell → ℕ → Whole → Executed
register_named k name n w =
    if nat_lt n 256
    then and_then (change Global (cell.Fresh k) (value.Number (pos (suc n))) w) (change Local name (value.Meaning (register_meaning k n)))
    else stop Overflow w

abbrev pub fresh_named : RegisterKind → Cell → ℤ → Whole → Executed
fresh_named k name (pos n) w = register_named k name n w
fresh_named k name (negsuc n) w = stop Overflow w

unfoldable pub new_register : RegisterKind → Whole → Executed
new_register k w = control (λ name v. looking (cell.Fresh k ∷ []) (fresh_named k name (number_of (tells v (cell.Fresh k))) v)) w

-- ---- `\newif`

abbrev pub word_of : Cell → List ℕ
word_of (cell.Word name) = name
word_of c = []

-- the text behind `if` in a name, None where nothing is
abbrev pub behind_if : List ℕ → Option (List ℕ)
behind_if name = if pointwise nat_eq (take 2 name) (codes "if") && nat_lt 2 (length name) then Some (drop 2 name) else None

-- a macro that lets the conditional be another one
abbrev pub switch : List ℕ → List ℕ → Value
switch name row = plain_macro false [] (token.Word (codes "let") ∷ token.Word name ∷ token.Word row ∷ [])

abbrev pub conditional_named : List ℕ → List ℕ → Whole → Executed
conditional_named name switched w =
    and_then (change Local (cell.Word name) (value.Meaning (meaning.Row command.IfFalse)) w)
    (λ v. and_then (change Local (cell.Word (switched ++ codes "true")) (switch name (codes "iftrue")) v)
    (change Local (cell.Word (switched ++ codes "false")) (switch name (codes "iffalse"))))

abbrev pub new_conditional : List ℕ → Option (List ℕ) → Whole → Executed
new_conditional name None w = stop TokenMisplaced w
new_conditional name (Some switched) w = conditional_named name switched w

unfoldable pub newif : Whole → Executed
newif w = control (λ name v. new_conditional (word_of name) (behind_if (word_of name)) v) w

-- ---- `\newcommand`, `\renewcommand`, `\providecommand`

-- n parameters from one on
abbrev pub parameters_from : ℕ → ℕ → List Tok
parameters_from first zero = []
parameters_from first (suc n) = token.Param first ∷ parameters_from (suc first) n

-- n parameters, of which one with a default is the first
abbrev pub parameters_behind : Option (List Tok) → ℕ → List Tok
parameters_behind None n = parameters_from 1 n
parameters_behind (Some default) n = parameters_from 2 (n - 1)

abbrev pub command_macro : Bool → Option (List Tok) → ℕ → List Tok → MacroDef
command_macro long default n body = record { pattern = record { long = long; first = default; tokens = parameters_behind default n }; body = body }

-- a name in an argument
abbrev pub named_by : List Tok → (Cell → Whole → Executed) → Whole → Executed
named_by (tok ∷ []) row w = control_to tok row w
named_by toks row w = stop TokenMisplaced w

abbrev pub name_argument : (Cell → Whole → Executed) → Whole → Executed
name_argument row w = argument (λ toks v. named_by toks row v) w

-- the number of parameters, and the default of the first, where there is one
abbrev pub count_behind : Option (List Tok) → (ℤ → Option (List Tok) → Whole → Executed) → Whole → Executed
count_behind None row w = row (pos 0) None w
count_behind (Some toks) row w = number_in toks (λ n v. reading bracket (λ default u. row n default u) v) w

abbrev pub parameters : (ℤ → Option (List Tok) → Whole → Executed) → Whole → Executed
parameters row w = reading bracket (λ toks v. count_behind toks row v) w

-- from 0 to 9, and one at least where there is a default
abbrev pub count_of : ℤ → Option (List Tok) → Option ℕ
count_of (pos zero) (Some default) = None
count_of (pos n) default = if nat_lt n 10 then Some n else None
count_of (negsuc n) default = None

abbrev pub count_to : Option ℕ → (ℕ → Whole → Executed) → Whole → Executed
count_to (Some n) row w = row n w
count_to None row w = stop BadCode w

-- a name that has a meaning, or none, is defined, or is a fault, or stays
abbrev pub newly : NewKind → Bool → (Whole → Executed) → Whole → Executed
newly New true define w = stop AlreadyDefined w
newly New false define w = define w
newly Renew true define w = define w
newly Renew false define w = stop Undefined w
newly Provide true define w = on w
newly Provide false define w = define w

abbrev pub newly_named : NewKind → Cell → (Whole → Executed) → Whole → Executed
newly_named kind name define w = looking (name ∷ []) (newly kind (is_some (meaning_of (tells w name))) define w)

abbrev pub command_defined : NewKind → Bool → Cell → ℕ → Option (List Tok) → List Tok → Whole → Executed
command_defined kind long name n default body w = newly_named kind name (change Local name (macro_value (command_macro long default n body))) w

-- all is read before it is judged: the number of parameters, the body, the name
abbrev pub command_of : NewKind → Bool → Cell → ℤ → Option (List Tok) → List Tok → Whole → Executed
command_of kind long name count default toks w =
    count_to (count_of count default)
    (λ n v. body_to (body_of n toks) (λ body u. command_defined kind long name n default body u) v) w

-- with a star the macro is not a long one
unfoldable pub newcommand : NewKind → Whole → Executed
newcommand kind w =
    reading star
    (λ starred v. name_argument
    (λ name u. parameters (λ count default x. argument (λ toks y. command_of kind (not starred) name count default toks y) x) u) v) w

-- ---- `\newenvironment`, `\renewenvironment`

abbrev pub end_name : List ℕ → List ℕ
end_name name = codes "end" ++ name

-- the macro of its beginning, which takes the arguments, and the macro of its end
abbrev pub environment_set : List ℕ → MacroDef → List Tok → Whole → Executed
environment_set name begins ends w =
    and_then (change Local (cell.Word name) (macro_value begins) w) (change Local (cell.Word (end_name name)) (plain_macro true [] ends))

abbrev pub environment_defined : NewKind → List ℕ → MacroDef → List Tok → Whole → Executed
environment_defined kind name begins ends w = newly_named kind (cell.Word name) (environment_set name begins ends) w

abbrev pub bodies_of : NewKind → List ℕ → ℕ → Option (List Tok) → List Tok → List Tok → Whole → Executed
bodies_of kind name n default begins ends w =
    body_to (body_of n begins)
    (λ first v. body_to (body_of 0 ends) (λ last u. environment_defined kind name (command_macro true default n first) last u) v) w

abbrev pub environment_of : NewKind → List ℕ → ℤ → Option (List Tok) → List Tok → List Tok → Whole → Executed
environment_of kind name count default begins ends w =
    count_to (count_of count default) (λ n v. bodies_of kind name n default begins ends v) w

unfoldable pub newenvironment : NewKind → Whole → Executed
newenvironment kind w =
    characters
    (λ name v. parameters
    (λ count default u. argument (λ begins x. argument (λ ends y. environment_of kind name count default begins ends y) x) u) v) w
