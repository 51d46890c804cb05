-- Two meanings are the same exactly where they are equal.
use Rattle.std.proofs.Common.{rules, ◌≡◌, ◌↔◌, Bool, true, false, ℕ, List, [], ◌∷◌, Some, None, refl, ap, subst, sym}
use Rattle.std.specs.Prelude.{◌&&◌, Option, nat_eq}
use Rattle.std.specs.Bool.{IsTrue}
use Rattle.std.specs.Cmp.Lexicographic.{pointwise, same_text}
use Rattle.lb_base.specs.declared.token.Category.{Category}
use Rattle.lb_base.specs.declared.token.Tok.{Tok}
use Rattle.lb_rows.proofs.Places.{same}
use Rattle.lb_rows.specs.Commands.{command_name}
use Rattle.lb_rows.specs.declared.command.Command.{Command}
use Rattle.lb_values.specs.declared.meaning.MacroDef.{MacroDef}
use Rattle.lb_values.specs.declared.meaning.Meaning.{Meaning}
use Rattle.lb_values.specs.declared.meaning.Meaning.TheVariants as meaning
use Rattle.lb_values.specs.declared.meaning.Register.{Register}
use Rattle.lb_model_grammar.specs.Same.{tok_eq}
use Rattle.lb_model.specs.Same.{bool_eq, category_eq, command_eq, defaults_eq, macro_eq, meaning_eq, register_eq, same_meaning}

tok-same : (a b : Tok) → IsTrue (tok_eq a b) ↔ (a ≡ b)
unfolding tok_eq
tok-same a b = search rules

category-same : (a b : Category) → IsTrue (category_eq a b) ↔ (a ≡ b)
unfolding category_eq
category-same a b = search rules

abbrev Told : Type 0
Told = (one other : Command) → command_name one ≡ command_name other → one ≡ other

command-yes : Told → (a b : Command) → command_eq a b ≡ true → a ≡ b
unfolding command_eq
command-yes told a b h = told a b (same_text (command_name a) (command_name b) (sym h))

text-self : (xs : List ℕ) → pointwise nat_eq xs xs ≡ true
text-self xs = same xs xs refl

command-self : (a : Command) → command_eq a a ≡ true
unfolding command_eq
command-self a = text-self (command_name a)

register-same : (a b : Register) → IsTrue (register_eq a b) ↔ (a ≡ b)
unfolding register_eq
register-same a b = search rules

number-same : (a b : ℕ) → IsTrue (nat_eq a b) ↔ (a ≡ b)
number-same a b = search rules

both : (x y : Bool) → (x && y) ≡ true → (x ≡ true) × (y ≡ true)
both true y h = (refl, h)
both false y h = absurd (cc)

and : (x y : Bool) → x ≡ true → y ≡ true → (x && y) ≡ true
and true y h e = e
and false y h e = absurd (cc)

-- ---- Lists of tokens

lists-yes : (xs ys : List Tok) → pointwise tok_eq xs ys ≡ true → xs ≡ ys
lists-yes [] [] h = refl
lists-yes [] (y ∷ ys) h = absurd (cc)
lists-yes (x ∷ xs) [] h = absurd (cc)
lists-yes (x ∷ xs) (y ∷ ys) h =
    let parts = both (tok_eq x y) (pointwise tok_eq xs ys) h in λ i. (tok-same x y).0 parts.0 i ∷ lists-yes xs ys parts.1 i

lists-self : (xs : List Tok) → pointwise tok_eq xs xs ≡ true
lists-self [] = refl
lists-self (x ∷ xs) = and (tok_eq x x) (pointwise tok_eq xs xs) ((tok-same x x).1 refl) (lists-self xs)

bools-yes : (a b : Bool) → bool_eq a b ≡ true → a ≡ b
bools-yes true true h = refl
bools-yes true false h = absurd (cc)
bools-yes false true h = absurd (cc)
bools-yes false false h = refl

bools-self : (a : Bool) → bool_eq a a ≡ true
bools-self true = refl
bools-self false = refl

defaults-yes : (a b : Option (List Tok)) → defaults_eq a b ≡ true → a ≡ b
defaults-yes (Some a) (Some b) h = ap Some (lists-yes a b h)
defaults-yes (Some a) None h = absurd (cc)
defaults-yes None (Some b) h = absurd (cc)
defaults-yes None None h = refl

defaults-self : (a : Option (List Tok)) → defaults_eq a a ≡ true
defaults-self (Some a) = lists-self a
defaults-self None = refl

-- ---- Macros

macro-yes : (a b : MacroDef) → macro_eq a b ≡ true → a ≡ b
macro-yes a b h =
    let long = both (bool_eq a.pattern.long b.pattern.long) (defaults_eq a.pattern.first b.pattern.first && (pointwise tok_eq a.pattern.tokens b.pattern.tokens && pointwise tok_eq a.body b.body)) h in
    let first = both (defaults_eq a.pattern.first b.pattern.first) (pointwise tok_eq a.pattern.tokens b.pattern.tokens && pointwise tok_eq a.body b.body) long.1 in
    let rest = both (pointwise tok_eq a.pattern.tokens b.pattern.tokens) (pointwise tok_eq a.body b.body) first.1 in
    λ i. record {
      pattern = record {
        long = bools-yes a.pattern.long b.pattern.long long.0 i;
        first = defaults-yes a.pattern.first b.pattern.first first.0 i;
        tokens = lists-yes a.pattern.tokens b.pattern.tokens rest.0 i;
      };
      body = lists-yes a.body b.body rest.1 i;
    }

macro-self : (a : MacroDef) → macro_eq a a ≡ true
macro-self a =
    and (bool_eq a.pattern.long a.pattern.long) (defaults_eq a.pattern.first a.pattern.first && (pointwise tok_eq a.pattern.tokens a.pattern.tokens && pointwise tok_eq a.body a.body)) (bools-self a.pattern.long)
    (
    and (defaults_eq a.pattern.first a.pattern.first) (pointwise tok_eq a.pattern.tokens a.pattern.tokens && pointwise tok_eq a.body a.body) (defaults-self a.pattern.first)
    (and (pointwise tok_eq a.pattern.tokens a.pattern.tokens) (pointwise tok_eq a.body a.body) (lists-self a.pattern.tokens) (lists-self a.body))
    )

-- ---- Meanings

meanings-yes : Told → (a b : Meaning) → meaning_eq a b ≡ true → a ≡ b
meanings-yes told (meaning.Row a) (meaning.Row b) h = ap meaning.Row (command-yes told a b h)
meanings-yes told (meaning.Macro a) (meaning.Macro b) h = ap meaning.Macro (macro-yes a b h)
meanings-yes told (meaning.Char c a) (meaning.Char d b) h =
    let parts = both (category_eq c d) (nat_eq a b) h in λ i. meaning.Char ((category-same c d).0 parts.0 i) ((number-same a b).0 parts.1 i)
meanings-yes told (meaning.Number a) (meaning.Number b) h = ap meaning.Number ((number-same a b).0 h)
meanings-yes told (meaning.Register a) (meaning.Register b) h = ap meaning.Register ((register-same a b).0 h)
meanings-yes told (meaning.Row a) (meaning.Macro b) h = absurd (cc)
meanings-yes told (meaning.Row a) (meaning.Char d b) h = absurd (cc)
meanings-yes told (meaning.Row a) (meaning.Number b) h = absurd (cc)
meanings-yes told (meaning.Row a) (meaning.Register b) h = absurd (cc)
meanings-yes told (meaning.Macro a) (meaning.Row b) h = absurd (cc)
meanings-yes told (meaning.Macro a) (meaning.Char d b) h = absurd (cc)
meanings-yes told (meaning.Macro a) (meaning.Number b) h = absurd (cc)
meanings-yes told (meaning.Macro a) (meaning.Register b) h = absurd (cc)
meanings-yes told (meaning.Char c a) (meaning.Row b) h = absurd (cc)
meanings-yes told (meaning.Char c a) (meaning.Macro b) h = absurd (cc)
meanings-yes told (meaning.Char c a) (meaning.Number b) h = absurd (cc)
meanings-yes told (meaning.Char c a) (meaning.Register b) h = absurd (cc)
meanings-yes told (meaning.Number a) (meaning.Row b) h = absurd (cc)
meanings-yes told (meaning.Number a) (meaning.Macro b) h = absurd (cc)
meanings-yes told (meaning.Number a) (meaning.Char d b) h = absurd (cc)
meanings-yes told (meaning.Number a) (meaning.Register b) h = absurd (cc)
meanings-yes told (meaning.Register a) (meaning.Row b) h = absurd (cc)
meanings-yes told (meaning.Register a) (meaning.Macro b) h = absurd (cc)
meanings-yes told (meaning.Register a) (meaning.Char d b) h = absurd (cc)
meanings-yes told (meaning.Register a) (meaning.Number b) h = absurd (cc)

meanings-self : (a : Meaning) → meaning_eq a a ≡ true
meanings-self (meaning.Row a) = command-self a
meanings-self (meaning.Macro a) = macro-self a
meanings-self (meaning.Char c a) = and (category_eq c c) (nat_eq a a) ((category-same c c).1 refl) ((number-same a a).1 refl)
meanings-self (meaning.Number a) = (number-same a a).1 refl
meanings-self (meaning.Register a) = (register-same a a).1 refl

options-yes : Told → (a b : Option Meaning) → same_meaning a b ≡ true → a ≡ b
options-yes told (Some a) (Some b) h = ap Some (meanings-yes told a b h)
options-yes told (Some a) None h = absurd (cc)
options-yes told None (Some b) h = absurd (cc)
options-yes told None None h = refl

options-self : (a : Option Meaning) → same_meaning a a ≡ true
options-self (Some a) = meanings-self a
options-self None = refl

pub meanings_same : Told → (a b : Option Meaning) → IsTrue (same_meaning a b) ↔ (a ≡ b)
meanings_same told a b = (options-yes told a b, λ e. subst (λ c. same_meaning a c ≡ true) e (options-self a))
