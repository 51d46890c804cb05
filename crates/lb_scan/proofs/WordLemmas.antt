-- What words make of what is no letter of theirs, and of spaces.
use Rattle.std.proofs.Common.{◌≡◌, ◌<◌, ◌-◌, true, ℕ, List, [], ◌∷◌, length, drop, refl, arith, length-drop}
use Rattle.lb_base.specs.declared.token.Tok.{Tok}
use Rattle.lb_model_grammar.specs.declared.given.Given.{Given}
use Rattle.lb_model_grammar.specs.declared.given.Given.TheVariants.{Tok as AToken, Quantity, End}
use Rattle.lb_model_grammar.specs.declared.given.Quantity.{Quantity as Quantities}
use Rattle.lb_model_grammar.specs.declared.given.Scanned.{Scanned}
use Rattle.lb_model_grammar.specs.declared.given.Want.TheVariants.{Expanded}
use Rattle.lb_model_grammar.specs.Scans.{Meant, is_space, keyword, letters}
use Rattle.lb_model_grammar.specs.Scans.Meant.{Open}

at_quantity : (l : List ℕ) (f : List Given → Meant Scanned) (m : Meant Scanned) (q : Quantities) (given : List Given) → 0 < length l → letters l f m (Quantity q ∷ given) ≡ m
at_quantity [] f m q given h = absurd (omega (arith, h))
at_quantity (c ∷ l) f m q given h = refl

at_end : (l : List ℕ) (f : List Given → Meant Scanned) (m : Meant Scanned) (given : List Given) → 0 < length l → letters l f m (End ∷ given) ≡ m
at_end [] f m given h = absurd (omega (arith, h))
at_end (c ∷ l) f m given h = refl

some_left : (word : List ℕ) (n : ℕ) → n < length word → 0 < length (drop n word)
some_left word n h = let l : length (drop n word) ≡ length word - n = length-drop n word in omega (arith, h, l)

pub no-letter_quantity : (word : List ℕ) (n : ℕ) (f : List Given → Meant Scanned) (m : Meant Scanned) (q : Quantities) (given : List Given) → n < length word → letters (drop n word) f m (Quantity q ∷ given) ≡ m
no-letter_quantity word n f m q given h = at_quantity (drop n word) f m q given (some_left word n h)

pub no-letter_end : (word : List ℕ) (n : ℕ) (f : List Given → Meant Scanned) (m : Meant Scanned) (given : List Given) → n < length word → letters (drop n word) f m (End ∷ given) ≡ m
no-letter_end word n f m given h = at_end (drop n word) f m given (some_left word n h)

pub keyword-space : (word : List ℕ) (f : List Given → Meant Scanned) (m : Meant Scanned) (t : Tok) (given : List Given) → is_space t ≡ true → keyword word f m (AToken t ∷ given) ≡ keyword word f m given
keyword-space word f m t given h = rw h refl

at_nothing : (l : List ℕ) (f : List Given → Meant Scanned) (m : Meant Scanned) → 0 < length l → letters l f m [] ≡ Open Expanded
at_nothing [] f m h = absurd (omega (arith, h))
at_nothing (c ∷ l) f m h = refl

pub letters-open : (word : List ℕ) (n : ℕ) (f : List Given → Meant Scanned) (m : Meant Scanned) → n < length word → letters (drop n word) f m [] ≡ Open Expanded
letters-open word n f m h = at_nothing (drop n word) f m (some_left word n h)
