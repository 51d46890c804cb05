-- What was written, in order.
use Rattle.std.specs.Prelude.{◌≡◌, ℕ, List, [], ◌∷◌, ◌++◌, map, Option, None, Some, IfSome, IsSomeAnd, if◌then◌else◌, nat_eq}
use Rattle.std.specs.Option.{option_map}
use Rattle.std.specs.List.{list_any}
use lib.Pointwise.{pointwise}

-- A file was begun, and so is empty; or one byte was put behind what it has.
pub data Entry : Type 0 where
  Begun : List ℕ → Entry
  Byte : List ℕ → ℕ → Entry

-- bytes put behind what a file has
abbrev pub appended : List ℕ → List ℕ → List Entry
appended file bytes = map (λ b. Byte file b) bytes

-- a file begun, and then bytes put into it
abbrev pub begun_with : List ℕ → List ℕ → List Entry
begun_with file bytes = Begun file ∷ appended file bytes

-- the first entries of a journal, as many as they are
abbrev pub IsPrefix : List Entry → List Entry → Type 0
IsPrefix part whole = (rest : List Entry) × (whole ≡ part ++ rest)

-- A journal that is told now was told before, and these entries were put behind it.
abbrev pub Adds : Option (List Entry) → Option (List Entry) → List Entry → Type 0
Adds before now entries = IfSome now (λ all. IsSomeAnd before (λ old. all ≡ old ++ entries))

-- A journal that is told now was told before, and some of the first of these entries were put behind it.
abbrev pub AddsPrefix : Option (List Entry) → Option (List Entry) → List Entry → Type 0
AddsPrefix before now entries = IfSome now (λ all. IsSomeAnd before (λ old. (part : List Entry) × IsPrefix part entries × (all ≡ old ++ part)))

-- Text that is told now was told before, and these bytes were put behind it.
abbrev pub Prints : Option (List ℕ) → Option (List ℕ) → List ℕ → Type 0
Prints before now bytes = IfSome now (λ all. IsSomeAnd before (λ old. all ≡ old ++ bytes))

-- Text that is told now was told before, and some of the first of these bytes were put behind it.
abbrev pub PrintsPrefix : Option (List ℕ) → Option (List ℕ) → List ℕ → Type 0
PrintsPrefix before now bytes = IfSome now (λ all. IsSomeAnd before (λ old. (part : List ℕ) × ((rest : List ℕ) × (bytes ≡ part ++ rest)) × (all ≡ old ++ part)))

-- what a file has after an entry, where it had this before; None where it was never begun
abbrev pub after_entry : List ℕ → Entry → Option (List ℕ) → Option (List ℕ)
after_entry name (Begun file) old = if pointwise nat_eq file name then Some [] else old
after_entry name (Byte file b) old = if pointwise nat_eq file name then option_map (λ bytes. bytes ++ b ∷ []) old else old

-- what a file has after these entries, where it had this before
abbrev pub content_from : List ℕ → Option (List ℕ) → List Entry → Option (List ℕ)
content_from name old [] = old
content_from name old (entry ∷ entries) = content_from name (after_entry name entry old) entries

-- the bytes after the last begin of a file, None where it was never begun
abbrev pub content_of : List ℕ → List Entry → Option (List ℕ)
content_of name entries = content_from name None entries

-- these names, and then those of the files that are begun and are not among them, in the order of their first begin
abbrev pub begun_from : List (List ℕ) → List Entry → List (List ℕ)
begun_from seen [] = seen
begun_from seen (Begun file ∷ entries) = begun_from (if list_any (pointwise nat_eq file) seen then seen else seen ++ file ∷ []) entries
begun_from seen (Byte file b ∷ entries) = begun_from seen entries

-- the files of a journal in the order of their first begin
abbrev pub begun_names : List Entry → List (List ℕ)
begun_names entries = begun_from [] entries
