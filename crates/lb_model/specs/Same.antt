-- When two control sequences mean the same.
use Rattle.std.specs.Prelude.{◌&&◌, nat_eq, Bool, true, false, List, Option, Some, None}
use Rattle.std.specs.Cmp.Lexicographic.{pointwise}
use Rattle.lb_base.specs.declared.token.Tok.{Tok}
use Rattle.lb_model_grammar.specs.Same.{tok_eq}
use Rattle.lb_base.specs.declared.token.Category.{Category}
use Rattle.lb_base.specs.contracts.token.CategoryPartialEq.TheImpl as category_test
use Rattle.lb_rows.specs.declared.command.Command.{Command}
use Rattle.lb_rows.specs.Commands.{command_name}
use Rattle.lb_values.specs.declared.meaning.MacroDef.{MacroDef}
use Rattle.lb_values.specs.declared.meaning.Meaning.{Meaning}
use Rattle.lb_values.specs.declared.meaning.Meaning.TheVariants as meaning
use Rattle.lb_values.specs.declared.meaning.Register.{Register as Registers}
use Rattle.lb_values.specs.contracts.meaning.RegisterPartialEq.TheImpl as register_test

unfoldable pub category_eq : Category → Category → Bool
category_eq = (category_test.ghosts).eq

-- two commands are one where they have one name
unfoldable pub command_eq : Command → Command → Bool
command_eq a b = pointwise nat_eq (command_name a) (command_name b)

unfoldable pub register_eq : Registers → Registers → Bool
register_eq = (register_test.ghosts).eq

abbrev pub bool_eq : Bool → Bool → Bool
bool_eq true true = true
bool_eq false false = true
bool_eq a b = false

abbrev pub defaults_eq : Option (List Tok) → Option (List Tok) → Bool
defaults_eq (Some a) (Some b) = pointwise tok_eq a b
defaults_eq None None = true
defaults_eq a b = false

-- two macros have the same parameters and the same body
abbrev pub macro_eq : MacroDef → MacroDef → Bool
macro_eq a b =
    bool_eq a.pattern.long b.pattern.long
    && (defaults_eq a.pattern.first b.pattern.first && (pointwise tok_eq a.pattern.tokens b.pattern.tokens && pointwise tok_eq a.body b.body))

abbrev pub meaning_eq : Meaning → Meaning → Bool
meaning_eq (meaning.Row a) (meaning.Row b) = command_eq a b
meaning_eq (meaning.Macro a) (meaning.Macro b) = macro_eq a b
meaning_eq (meaning.Char c a) (meaning.Char d b) = category_eq c d && nat_eq a b
meaning_eq (meaning.Number a) (meaning.Number b) = nat_eq a b
meaning_eq (meaning.Register a) (meaning.Register b) = register_eq a b
meaning_eq _ _ = false

-- two meanings, or the want of both, are the same
abbrev pub same_meaning : Option Meaning → Option Meaning → Bool
same_meaning (Some a) (Some b) = meaning_eq a b
same_meaning None None = true
same_meaning a b = false
