-- The lines of a file (TeXbook, chapter 8; tex.web, section 31).
use Rattle.std.specs.Prelude.{ℕ, Bool, true, false, ◌&&◌, ◌==◌, List, [], ◌∷◌, map, if◌then◌else◌}

abbrev pub starts_with_byte : ℕ → List ℕ → Bool
starts_with_byte b [] = false
starts_with_byte b (c ∷ rest) = c == b

-- the text less each carriage return (13) that stands just before a line feed (10)
unfoldable pub without_returns : List ℕ → List ℕ
without_returns [] = []
without_returns (c ∷ rest) = if c == 13 && starts_with_byte 10 rest then without_returns rest else c ∷ without_returns rest

-- a byte put before the first of some lines, or a line of that byte alone
abbrev pub onto : ℕ → List (List ℕ) → List (List ℕ)
onto c [] = (c ∷ []) ∷ []
onto c (line ∷ lines) = (c ∷ line) ∷ lines

-- a text cut at each line feed; a last line without one counts
unfoldable pub cut_at_feeds : List ℕ → List (List ℕ)
cut_at_feeds [] = []
cut_at_feeds (c ∷ rest) = if c == 10 then [] ∷ cut_at_feeds rest else onto c (cut_at_feeds rest)

abbrev pub is_empty : List ℕ → Bool
is_empty [] = true
is_empty (c ∷ rest) = false

-- a line less the spaces (32) at its end
unfoldable pub trimmed : List ℕ → List ℕ
trimmed [] = []
trimmed (c ∷ rest) = if c == 32 && is_empty (trimmed rest) then [] else c ∷ trimmed rest

-- the lines of a text, each without what ends it
unfoldable pub lines_of : List ℕ → List (List ℕ)
lines_of text = map trimmed (cut_at_feeds (without_returns text))
