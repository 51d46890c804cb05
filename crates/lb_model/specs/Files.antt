-- Files by name, and which of them a run reads.
use Rattle.std.specs.Prelude.{ℕ, Bool, List, ◌||◌, nat_eq, codes}
use Rattle.std.specs.List.{ends_with}
use Rattle.std.specs.Ordering.{nat_cmp}
use Rattle.std.specs.Cmp.Lexicographic.{slice_cmp}
use Rattle.std.specs.declared.cmp.Ordering.{Ordering}
use Rattle.std.specs.FinMap.{FinMap, retain_keys}

-- names in the order of their bytes
abbrev pub name_cmp : List ℕ → List ℕ → Ordering
name_cmp = slice_cmp nat_cmp

-- a finite map from the names of files to their bytes
abbrev pub Files : Type 0
Files = FinMap name_cmp (List ℕ)

-- a run reads the files whose names end in `.tex`, `.aux`, `.toc` or `.tfm`
abbrev pub is_book_file : List ℕ → Bool
is_book_file name = ends_with nat_eq name (codes ".tex") || (ends_with nat_eq name (codes ".aux") || (ends_with nat_eq name (codes ".toc") || ends_with nat_eq name (codes ".tfm")))

-- what a run reads of a folder with these files
abbrev pub book_files : Files → Files
book_files files = retain_keys files is_book_file
