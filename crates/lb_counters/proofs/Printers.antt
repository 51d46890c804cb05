-- The macro that prints a counter has no parameters.
use Rattle.std.proofs.Common.{◌≡◌, ◌==◌, ◌++◌, Bool, true, false, ℕ, List, [], ◌∷◌, refl}
use Rattle.std.specs.Prelude.{if◌then◌else◌}
use Rattle.lb_base.specs.declared.token.Category.TheVariants.{EndGroup, Other, Space}
use Rattle.lb_base.specs.declared.token.Tok.{Tok}
use Rattle.lb_base.specs.declared.token.Tok.TheVariants.{Char}
use Rattle.lb_model.specs.Ranges.{has_parameters, is_macro}
use Rattle.lb_model_grammar.specs.Printed.{printed}
use Rattle.lb_model_counters.specs.Counters.{printer}

one_more : (b : Bool) (c : ℕ) (toks : List Tok) → has_parameters 0 toks ≡ true → has_parameters 0 ((if b then Char Space 32 else Char Other c) ∷ toks) ≡ true
one_more true c toks h = h
one_more false c toks h = h

none_printed : (name : List ℕ) → has_parameters 0 (printed name ++ Char EndGroup 125 ∷ []) ≡ true
none_printed [] = refl
none_printed (c ∷ name) = one_more (c == 32) c (printed name ++ Char EndGroup 125 ∷ []) (none_printed name)

pub printer_is_macro : (name : List ℕ) → is_macro (printer name) ≡ true
unfolding printer
printer_is_macro name = none_printed name
