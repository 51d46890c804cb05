-- Lines that hold one command and nothing else.
use Rattle.std.specs.Prelude.{ℕ, ◌+◌, Bool, ◌&&◌, ◌||◌, not, ◌==◌, nat_eq, nat_le, List, [], ◌∷◌, length, drop, take_while, codes, if◌then◌else◌, Option, None, Some}
use Rattle.std.specs.List.{starts_with, list_any}
use Rattle.lb_model.specs.Lines.{is_empty, starts_with_byte}

-- a space or a tab
abbrev pub is_blank : ℕ → Bool
is_blank c = c == 32 || c == 9

-- a line from its first byte that is no blank
unfoldable pub after_blanks : List ℕ → List ℕ
after_blanks [] = []
after_blanks (c ∷ rest) = if is_blank c then after_blanks rest else c ∷ rest

-- blanks, and then nothing or a comment, which begins with `%`
abbrev pub is_bare : List ℕ → Bool
is_bare rest = is_empty (after_blanks rest) || starts_with_byte 37 (after_blanks rest)

-- An own line of w is w between blanks, with a comment behind it or none.
abbrev pub is_own_line : List ℕ → List ℕ → Bool
is_own_line w line = starts_with nat_eq (after_blanks line) w && is_bare (drop (length w) (after_blanks line))

-- the bytes of a chapter's name: 33 to 126 but `\ { } % # ~ ^`
abbrev pub is_name_byte : ℕ → Bool
is_name_byte c = nat_le 33 c && (nat_le c 126 && not (list_any (λ b. c == b) (codes "\\{}%#~^")))

-- the longest chapter's name at the front of a text
abbrev pub name_at : List ℕ → List ℕ
name_at text = take_while is_name_byte text

-- behind `\include{`: a name that is not empty, `}`, and nothing more
abbrev pub name_in_braces : List ℕ → Option (List ℕ)
name_in_braces text = if not (is_empty (name_at text)) && (starts_with_byte 125 (drop (length (name_at text)) text) && is_bare (drop (length (name_at text) + 1) text)) then Some (name_at text) else None

-- the name f where a line is an own line of `\include{f}`
abbrev pub included_name : List ℕ → Option (List ℕ)
included_name line = if starts_with nat_eq (after_blanks line) (codes "\\include{") then name_in_braces (drop 9 (after_blanks line)) else None
