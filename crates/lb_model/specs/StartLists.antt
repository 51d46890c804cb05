-- The counters at the start, with their numbers and with those that a step of them resets (source2e, files ltcounts and ltclass; book.cls).
use Rattle.std.specs.Prelude.{ℕ, ◌++◌, List, [], ◌∷◌, map, Option, nat_eq, codes, ℤ, pos}
use Rattle.std.specs.Map.{lookup}
use Rattle.std.specs.Cmp.Lexicographic.{pointwise}

-- those of a checkpoint, in its order
abbrev pub checkpoint_counters : List (List ℕ × ℤ)
checkpoint_counters =
    (codes "page", pos 1) ∷ (codes "equation", pos 0) ∷ (codes "enumi", pos 0) ∷ (codes "enumii", pos 0) ∷ (codes "enumiii", pos 0) ∷
    (codes "enumiv", pos 0) ∷ (codes "footnote", pos 0) ∷ (codes "mpfootnote", pos 0) ∷ (codes "part", pos 0) ∷ (codes "chapter", pos 0) ∷
    (codes "section", pos 0) ∷ (codes "subsection", pos 0) ∷ (codes "subsubsection", pos 0) ∷ (codes "paragraph", pos 0) ∷
    (codes "subparagraph", pos 0) ∷ (codes "figure", pos 0) ∷ (codes "table", pos 0) ∷ []

-- those that stand in no checkpoint
abbrev pub depth_counters : List (List ℕ × ℤ)
depth_counters = (codes "secnumdepth", pos 2) ∷ (codes "tocdepth", pos 2) ∷ []

unfoldable pub start_counters : List (List ℕ × ℤ)
start_counters = checkpoint_counters ++ depth_counters

unfoldable pub checkpoint_names : List (List ℕ)
checkpoint_names = map (λ counter. counter.0) checkpoint_counters

-- the number of a counter, None where there is none of that name
abbrev pub counter_at_start : List ℕ → Option ℤ
counter_at_start name = lookup (pointwise nat_eq name) start_counters

unfoldable pub start_resets : List (List ℕ × List (List ℕ))
start_resets =
    (codes "chapter", codes "section" ∷ codes "footnote" ∷ codes "equation" ∷ codes "figure" ∷ codes "table" ∷ []) ∷
    (codes "section", codes "subsection" ∷ []) ∷
    (codes "subsection", codes "subsubsection" ∷ []) ∷
    (codes "subsubsection", codes "paragraph" ∷ []) ∷
    (codes "paragraph", codes "subparagraph" ∷ []) ∷ []

-- the counters that a step of one resets, None where it has no list
abbrev pub resets_at_start : List ℕ → Option (List (List ℕ))
resets_at_start name = lookup (pointwise nat_eq name) start_resets
