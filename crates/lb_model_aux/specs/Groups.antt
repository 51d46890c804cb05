-- Groups in braces (source2e, file ltfiles: what is read of an aux file is balanced). Behind a backslash a byte counts as none: `\{` and `\}` are
-- no braces, and the second of two backslashes is none.
use Rattle.std.specs.Prelude.{◌≡◌, ℕ, zero, suc, ◌==◌, ◌&&◌, not, Bool, true, false, List, [], ◌∷◌, ◌++◌, Option, None, Some, if◌then◌else◌}
use Rattle.std.specs.Option.{option_map}

-- ---- By grammar

-- neither a backslash nor a brace
abbrev pub is_plain : ℕ → Bool
is_plain c = not (c == 92) && (not (c == 123) && not (c == 125))

-- a text in which each brace has its other one
pub data IsBalanced : List ℕ → Type 0 where
  nothing : IsBalanced []
  escaped : {c : ℕ} {text : List ℕ} → IsBalanced text → IsBalanced (92 ∷ c ∷ text)
  plain : {c : ℕ} {text : List ℕ} → is_plain c ≡ true → IsBalanced text → IsBalanced (c ∷ text)
  group : {inner text : List ℕ} → IsBalanced inner → IsBalanced text → IsBalanced (123 ∷ inner ++ 125 ∷ text)

-- groups, one behind another
pub data AreGroups : List ℕ → Type 0 where
  none : AreGroups []
  more : {inner text : List ℕ} → IsBalanced inner → AreGroups text → AreGroups (123 ∷ inner ++ 125 ∷ text)

-- ---- As functions

-- what stands up to a place and behind it, with a byte before the former
abbrev pub behind_byte : ℕ → Option (List ℕ × List ℕ) → Option (List ℕ × List ℕ)
behind_byte c parts = option_map (λ p. (c ∷ p.0, p.1)) parts

-- one group less; where none is open, none is
abbrev pub one_less : ℕ → ℕ
one_less zero = zero
one_less (suc level) = level

-- what is known behind a byte: whether the next one counts as none, and how many groups are open
abbrev pub turned : Bool → ℕ → ℕ → Bool × ℕ
turned true level c = (false, level)
turned false level c =
    if c == 92 then (true, level) else (if c == 123 then (false, suc level) else (if c == 125 then (false, one_less level) else (false, level)))

-- the text ends at a byte behind which no group is open
abbrev pub ends_or : ℕ → ℕ → List ℕ → Option (List ℕ × List ℕ) → Option (List ℕ × List ℕ)
ends_or c zero rest later = Some ([], rest)
ends_or c (suc level) rest later = behind_byte c later

-- where so many groups are open: the text up to the brace that closes the first of them, and the text behind that brace
unfoldable pub to_close : Bool → ℕ → List ℕ → Option (List ℕ × List ℕ)
to_close behind level [] = None
to_close behind level (c ∷ rest) = let t = turned behind level c in ends_or c t.1 rest (to_close t.0 t.1 rest)

-- the group at the front of a text: what stands in its braces, and what stands behind them
abbrev pub group_of : List ℕ → Option (List ℕ × List ℕ)
group_of [] = None
group_of (c ∷ rest) = if c == 123 then to_close false 1 rest else None

-- whether there are groups alone, one behind another, where so many are open
unfoldable pub are_groups : Bool → ℕ → List ℕ → Bool
are_groups behind zero [] = true
are_groups behind (suc level) [] = false
are_groups behind zero (c ∷ rest) = c == 123 && are_groups behind 1 rest
are_groups behind (suc level) (c ∷ rest) = let t = turned behind (suc level) c in are_groups t.0 t.1 rest
