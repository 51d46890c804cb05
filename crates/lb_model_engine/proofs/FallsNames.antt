-- No row of definitions, new names and registers leaves more steps than there were.
use Rattle.std.proofs.Common.{◌++◌, ℕ, Bool, true, false, List, ℤ, pos, arith}
use Rattle.std.specs.Prelude.{codes, not, Option, Some, None}
use Rattle.lb_base.specs.declared.token.Tok.{Tok}
use Rattle.lb_values.specs.declared.cell.Cell.{Cell}
use Rattle.lb_values.specs.declared.cell.RegisterKind.{RegisterKind}
use Rattle.lb_values.specs.declared.meaning.Meaning.{Meaning}
use Rattle.lb_values.specs.declared.reach.Reach.{Reach}
use Rattle.lb_values.specs.declared.reach.Reach.TheVariants.{Local}
use Rattle.lb_values.specs.declared.value.Value.{Value}
use Rattle.lb_rows.specs.declared.parameter.ParameterKind.{ParameterKind}
use Rattle.lb_model.specs.declared.arith.Arith.{Arith}
use Rattle.lb_model.specs.Assignments.{registered}
use Rattle.lb_model.specs.Ranges.{parameters_among}
use Rattle.lb_base.specs.declared.fault.Kind.TheVariants.{BadCode, Runaway}
use Rattle.lb_model_grammar.specs.declared.given.Quantity.{Quantity}
use Rattle.lb_model_grammar.specs.declared.given.ScanKind.TheVariants as scan_kind
use Rattle.lb_model_expansion.specs.Expansion.{number_found}
use Rattle.lb_model_engine.specs.declared.definition.NewKind.{NewKind}
use Rattle.lb_model_engine.specs.Definitions.{macro_value, ParameterText, body_of, body_read, macro_set, body_to, def_row, futurelet_row, let_row, macro_defined, shorthand_row}
use Rattle.lb_model_engine.specs.NewNames.{bodies_of, command_macro, command_of, count_behind, count_of, count_to, environment_of, environment_set, named_by, new_conditional, new_register, newcommand, newenvironment, newif, newly, parameters}
use Rattle.lb_model_engine.specs.Reads.{argument, bracket, keyword, reading}
use Rattle.lb_model_engine.specs.Registers.{arithmetic_row, by_value, operand_to, picked_row, tokens_to, value_of_kind, variable_row, worked_out}
use Rattle.lb_model_nest.specs.Wholes.{Executed, change, Whole, change_or, stop}
use Rattle.lb_model_engine.specs.StepsLeft.{NeverRise as Falls}
use Rattle.lb_model_engine.proofs.FallsReads.{characters-falls, code-falls, control-falls, equals-falls, expanded_rest-falls, next_or-falls, past_spaces_or-falls, reading-falls, reading_on-falls, scanning-falls, scanning_in-falls, taking-falls}

-- ---- Definitions

body_to-falls : (body : Option (List Tok)) (row : List Tok → Whole → Executed) → ((toks : List Tok) → Falls (row toks)) → Falls (body_to body row)
body_to-falls body row f w = grind (arith, f)

macro_defined-falls : (long : Bool) (reach : Reach) (name : Cell) (text : ParameterText) (toks : List Tok) → Falls (macro_defined long reach name text toks)
macro_defined-falls long reach name text toks =
    body_to-falls (body_of (parameters_among text.tokens) toks) (λ body. macro_set long reach name text (body ++ text.brace)) (λ body w. grind arith)

body_read-falls : (expands : Bool) (row : List Tok → Whole → Executed) → ((toks : List Tok) → Falls (row toks)) → Falls (body_read expands row)
body_read-falls false row f = reading-falls _ row f
body_read-falls true row f = expanded_rest-falls row f

pub def-falls : (expands long : Bool) (reach : Reach) → Falls (def_row expands long reach)
unfolding def_row
def-falls expands long reach =
    control-falls _ (λ name. reading-falls _ _ (λ text. body_read-falls expands _ (λ toks. macro_defined-falls long reach name text toks)))

pub let-falls : (reach : Reach) → Falls (let_row reach)
unfolding let_row
let-falls reach = control-falls _ (λ name. reading_on-falls _ _ (λ tok w. omega arith))

pub futurelet-falls : (reach : Reach) → Falls (futurelet_row reach)
unfolding futurelet_row
futurelet-falls reach = control-falls _ (λ name. taking-falls _ (λ first. taking-falls _ (λ second w. grind arith)))

pub shorthand-falls : (meant : ℕ → Meaning) (reach : Reach) → Falls (shorthand_row meant reach)
unfolding shorthand_row
shorthand-falls meant reach = control-falls _ (λ name. equals-falls _ (code-falls _ (λ n w. omega arith)))

-- ---- New names

pub new_register-falls : (k : RegisterKind) → Falls (new_register k)
unfolding new_register
new_register-falls k = control-falls _ (λ name w. grind arith)

new_conditional-falls : (name : List ℕ) (switched : Option (List ℕ)) → Falls (new_conditional name switched)
new_conditional-falls name switched w = grind arith

pub newif-falls : Falls newif
unfolding newif
newif-falls = control-falls _ (λ name. new_conditional-falls _ _)

named_by-falls : (toks : List Tok) (row : Cell → Whole → Executed) → ((name : Cell) → Falls (row name)) → Falls (named_by toks row)
named_by-falls toks row f w = grind (arith, f)

count_behind-falls : (toks : Option (List Tok)) (row : ℤ → Option (List Tok) → Whole → Executed)
    → ((n : ℤ) (default : Option (List Tok)) → Falls (row n default)) → Falls (count_behind toks row)
count_behind-falls None row f = f (pos 0) None
count_behind-falls (Some toks) row f =
    scanning_in-falls scan_kind.Number toks (λ found v. reading bracket (λ default u. row (number_found found) default u) v)
    (λ found. reading-falls bracket _ (λ default. f (number_found found) default))

parameters-falls : (row : ℤ → Option (List Tok) → Whole → Executed)
    → ((n : ℤ) (default : Option (List Tok)) → Falls (row n default)) → Falls (parameters row)
parameters-falls row f = reading-falls _ _ (λ toks. count_behind-falls toks row f)

count_to-falls : (n : Option ℕ) (row : ℕ → Whole → Executed) → ((n : ℕ) → Falls (row n)) → Falls (count_to n row)
count_to-falls None row f w = omega arith
count_to-falls (Some n) row f w = f n w

newly-falls : (kind : NewKind) (is : Bool) (define : Whole → Executed) → Falls define → Falls (newly kind is define)
newly-falls kind is define f w = grind (arith, f)

command_of-falls : (kind : NewKind) (long : Bool) (name : Cell) (count : ℤ) (default : Option (List Tok)) (toks : List Tok)
    → Falls (command_of kind long name count default toks)
command_of-falls kind long name count default toks =
    count_to-falls (count_of count default) _
    (λ n. body_to-falls (body_of n toks) _
    (λ body w. newly-falls kind _ (change Local name (macro_value (command_macro long default n body))) (λ v. omega arith) w))

pub newcommand-falls : (kind : NewKind) → Falls (newcommand kind)
unfolding newcommand
newcommand-falls kind =
    reading-falls _ _
    (λ starred. reading-falls _ _
    (λ toks. named_by-falls toks _
    (λ name. parameters-falls (λ count default x. argument (λ body y. command_of kind (not starred) name count default body y) x)
    (λ count default. reading-falls _ _ (λ body. command_of-falls kind (not starred) name count default body)))))

bodies_of-falls : (kind : NewKind) (name : List ℕ) (n : ℕ) (default : Option (List Tok)) (begins ends : List Tok)
    → Falls (bodies_of kind name n default begins ends)
bodies_of-falls kind name n default begins ends =
    body_to-falls (body_of n begins) _
    (λ first. body_to-falls (body_of 0 ends) _
    (λ last w. newly-falls kind _ (environment_set name (command_macro true default n first) last) (λ v. grind arith) w))

environment_of-falls : (kind : NewKind) (name : List ℕ) (count : ℤ) (default : Option (List Tok)) (begins ends : List Tok)
    → Falls (environment_of kind name count default begins ends)
environment_of-falls kind name count default begins ends =
    count_to-falls (count_of count default) _ (λ n. bodies_of-falls kind name n default begins ends)

pub newenvironment-falls : (kind : NewKind) → Falls (newenvironment kind)
unfolding newenvironment
newenvironment-falls kind =
    characters-falls _
    (λ name. parameters-falls (λ count default u. argument (λ begins x. argument (λ ends y. environment_of kind name count default begins ends y) x) u)
    (λ count default. reading-falls _ _ (λ begins. reading-falls _ _ (λ ends. environment_of-falls kind name count default begins ends))))

-- ---- Registers

tokens_to-falls : (m : Option Meaning) (row : List Tok → Whole → Executed) → ((toks : List Tok) → Falls (row toks)) → Falls (tokens_to m row)
tokens_to-falls m row f w = grind (arith, f, reading-falls, code-falls)

value_of_kind-falls : (c : Cell) (row : Value → Whole → Executed) → ((v : Value) → Falls (row v)) → Falls (value_of_kind c row)
value_of_kind-falls c row f w = grind (arith, f, scanning-falls, past_spaces_or-falls, tokens_to-falls)

pub variable-falls : (c : Cell) (reach : Reach) → Falls (variable_row c reach)
unfolding variable_row
variable-falls c reach = equals-falls _ (value_of_kind-falls c (λ x. change_or BadCode reach c (registered c x)) (λ x w. grind arith))

pub picked-falls : (c : ℕ → Cell) (reach : Reach) → Falls (picked_row c reach)
unfolding picked_row
picked-falls c reach = code-falls _ (λ n. variable-falls (c n) reach)

operand_to-falls : (m : Option Meaning) (row : ParameterKind → Cell → Whole → Executed) → ((kind : ParameterKind) (c : Cell) → Falls (row kind c))
    → Falls (operand_to m row)
operand_to-falls m row f w = grind (arith, f, code-falls)

by_value-falls : (op : Arith) (kind : ParameterKind) (row : Quantity → Whole → Executed) → ((q : Quantity) → Falls (row q)) → Falls (by_value op kind row)
by_value-falls op kind row f w = grind (arith, f, scanning-falls)

abbrev worked_behind : Arith → Reach → ParameterKind → Cell → Bool → Whole → Executed
worked_behind op reach kind c found w = by_value op kind (λ by v. worked_out op reach c by v) w

operand_worked-falls : (op : Arith) (reach : Reach) (kind : ParameterKind) (c : Cell) → Falls (λ w. keyword (codes "by") (worked_behind op reach kind c) w)
operand_worked-falls op reach kind c =
    scanning-falls (scan_kind.Keyword (codes "by")) _ (λ found. by_value-falls op kind (λ by. worked_out op reach c by) (λ by w. grind arith))

pub arithmetic-falls : (op : Arith) (reach : Reach) → Falls (arithmetic_row op reach)
unfolding arithmetic_row
arithmetic-falls op reach =
    let row = λ (kind : ParameterKind) (c : Cell) (w : Whole). keyword (codes "by") (worked_behind op reach kind c) w in
    next_or-falls (stop Runaway) (λ tok m w. operand_to m row w) (λ w. omega arith) (λ tok m. operand_to-falls m row (operand_worked-falls op reach))
