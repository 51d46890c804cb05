-- Parts of the form of plain books, as the code takes them.
use Rattle.std.specs.Prelude.{ℕ, Bool, ◌&&◌, ◌||◌, not, nat_lt, nat_le, length, codes, ◌==◌, if◌then◌else◌, List}
use Rattle.lb_model.specs.Lines.{is_empty}
use Rattle.lb_model_book.specs.OwnLines.{is_own_line}
use Rattle.lb_model_book.specs.PlainForm.{is_plain_line, is_letter_or_digit, are_distinct, is_among}

-- whether a line may stand in a chapter, behind a line that has text or none, and so many of them in all
abbrev pub is_allowed : List ℕ → Bool → ℕ → Bool
is_allowed line behind_text count = is_plain_line line && (is_empty line || (not behind_text && nat_lt count 40))

-- whether a character may stand behind a space, or behind none
abbrev pub may_follow : ℕ → Bool → Bool
may_follow c behind_space = if c == 32 then not behind_space else is_letter_or_digit c

-- whether chapters are few enough, and named apart from each other and from the main file
abbrev pub are_good_names : List ℕ → List (List ℕ) → Bool
are_good_names main names = nat_le (length names) 1000 && (are_distinct names && not (is_among main names))

-- whether two lines are the class line and the begin line
abbrev pub is_opening : List ℕ → List ℕ → Bool
is_opening class_line begin_line = is_own_line (codes "\\documentclass{book}") class_line && is_own_line (codes "\\begin{document}") begin_line
