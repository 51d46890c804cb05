-- The words that a run takes: `set` and the name of a main file, of 1 to 100 letters and digits.
use Rattle.std.specs.Prelude.{ℕ, Bool, ◌&&◌, not, nat_eq, nat_le, List, [], ◌∷◌, length, codes, if◌then◌else◌, Option, None, Some}
use Rattle.std.specs.List.{list_all}
use lib.Pointwise.{pointwise}
use Rattle.lb_model.specs.Lines.{is_empty}
use Rattle.lb_model_book.specs.PlainForm.{is_letter_or_digit}

abbrev pub is_main : List ℕ → Bool
is_main word = not (is_empty word) && (nat_le (length word) 100 && list_all is_letter_or_digit word)

-- the name of the main file, None where the words are not of this form
abbrev pub main_of : List (List ℕ) → Option (List ℕ)
main_of [] = None
main_of (command ∷ []) = None
main_of (command ∷ main ∷ []) = if pointwise nat_eq command (codes "set") && is_main main then Some main else None
main_of (command ∷ main ∷ more ∷ rest) = None
