-- The form of the books that are built: include lines, and chapters of plain words.
use Rattle.std.specs.Prelude.{ℕ, Bool, true, false, ◌&&◌, ◌||◌, not, ◌==◌, nat_eq, nat_le, List, [], ◌∷◌, ◌++◌, length, filter, codes, if◌then◌else◌, Option, None, Some}
use Rattle.std.specs.List.{starts_with, ends_with, list_any, list_all}
use Rattle.std.specs.FinMap.{get, entries}
use lib.Pointwise.{pointwise}
use Rattle.lb_model.specs.declared.world.World.{World}
unfoldable pub use Rattle.lb_model_paper.specs.TestFont.{test_font}
use Rattle.lb_model.specs.Lines.{lines_of, is_empty}
use Rattle.lb_model_book.specs.OwnLines.{is_own_line, included_name}

-- file names
abbrev pub tex_file : List ℕ → List ℕ
tex_file name = name ++ codes ".tex"

abbrev pub aux_file : List ℕ → List ℕ
aux_file name = name ++ codes ".aux"

-- a name before other names, where there are all
abbrev pub before_names : Option (List ℕ) → Option (List (List ℕ)) → Option (List (List ℕ))
before_names (Some name) (Some names) = Some (name ∷ names)
before_names (Some name) None = None
before_names None names = None

-- the names of include lines behind which the end line is the last line
unfoldable pub names_to_end : List (List ℕ) → Option (List (List ℕ))
names_to_end [] = None
names_to_end (line ∷ []) = if is_own_line (codes "\\end{document}") line then Some [] else None
names_to_end (line ∷ next ∷ rest) = before_names (included_name line) (names_to_end (next ∷ rest))

-- the chapters of a main file that has a class line, a begin line, include lines and an end line, and no other line
unfoldable pub names_of_main : List (List ℕ) → Option (List (List ℕ))
names_of_main [] = None
names_of_main (line ∷ []) = None
names_of_main (class_line ∷ begin_line ∷ rest) = if is_own_line (codes "\\documentclass{book}") class_line && is_own_line (codes "\\begin{document}") begin_line then names_to_end rest else None

abbrev pub is_among : List ℕ → List (List ℕ) → Bool
is_among name names = list_any (pointwise nat_eq name) names

-- no name stands twice
unfoldable pub are_distinct : List (List ℕ) → Bool
are_distinct [] = true
are_distinct (name ∷ names) = not (is_among name names) && are_distinct names

abbrev pub is_letter_or_digit : ℕ → Bool
is_letter_or_digit c = (nat_le 48 c && nat_le c 57) || ((nat_le 65 c && nat_le c 90) || (nat_le 97 c && nat_le c 122))

-- letters, digits and single spaces, no space first where one stands before
unfoldable pub is_spaced : Bool → List ℕ → Bool
is_spaced behind_space [] = true
is_spaced behind_space (c ∷ rest) = if c == 32 then not behind_space && is_spaced true rest else is_letter_or_digit c && is_spaced false rest

-- at most 60 characters, and no space at the start
abbrev pub is_plain_line : List ℕ → Bool
is_plain_line line = nat_le (length line) 60 && is_spaced true line

-- no two lines that follow one another have both text
unfoldable pub are_apart : List (List ℕ) → Bool
are_apart [] = true
are_apart (line ∷ []) = true
are_apart (line ∷ next ∷ rest) = (is_empty line || is_empty next) && are_apart (next ∷ rest)

-- the lines that have text
unfoldable pub lines_with_text : List ℕ → List (List ℕ)
lines_with_text text = filter (λ line. not (is_empty line)) (lines_of text)

-- a chapter of at most 40 lines of plain words with empty lines between them
abbrev pub is_plain_text : List ℕ → Bool
is_plain_text text = nat_le (length (lines_with_text text)) 40 && (list_all is_plain_line (lines_of text) && are_apart (lines_of text))

abbrev pub is_some_plain : Option (List ℕ) → Bool
is_some_plain None = false
is_some_plain (Some text) = is_plain_text text

abbrev pub is_plain_chapter : World → List ℕ → Bool
is_plain_chapter world name = is_some_plain (get world.files (tex_file name))

-- the test font stands in the folder
abbrev pub is_text : Option (List ℕ) → List ℕ → Bool
is_text None text = false
is_text (Some bytes) text = pointwise nat_eq bytes text

abbrev pub has_test_font : World → Bool
has_test_font world = is_text (get world.files (codes "cmr10.tfm")) test_font

unfoldable pub has_part : List ℕ → List ℕ → Bool
has_part part [] = false
has_part part (c ∷ rest) = starts_with nat_eq (c ∷ rest) part || has_part part rest

-- an aux file of an earlier run that has labels
abbrev pub is_labelled : List ℕ × List ℕ → Bool
is_labelled file = ends_with nat_eq file.0 (codes ".aux") && has_part (codes "\\newlabel") file.1

-- at most 1000 chapters with names of their own, plain each, the test font, and no labels of an earlier run
abbrev pub is_plain_book : World → List (List ℕ) → Bool
is_plain_book world names =
    nat_le (length names) 1000
    && (are_distinct names
    && (not (is_among world.main names)
    && (has_test_font world
    && (list_all (λ file. not (is_labelled file)) (entries world.files)
    && list_all (is_plain_chapter world) names))))

abbrev pub names_if_plain : World → Option (List (List ℕ)) → Option (List (List ℕ))
names_if_plain world None = None
names_if_plain world (Some names) = if is_plain_book world names then Some names else None

abbrev pub names_in_text : World → Option (List ℕ) → Option (List (List ℕ))
names_in_text world None = None
names_in_text world (Some text) = names_if_plain world (names_of_main (lines_of text))

-- the names of the chapters of a book in the built form, and None where the form is broken
unfoldable pub plain_names : World → Option (List (List ℕ))
plain_names world = names_in_text world (get world.files (tex_file world.main))
