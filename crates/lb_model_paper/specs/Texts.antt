-- The texts of aux and log files. Each line ends in a line feed.
use Rattle.std.specs.Prelude.{ℕ, List, [], ◌∷◌, ◌++◌, codes, decimal, if◌then◌else◌, ◌==◌}
use Rattle.std.specs.List.{flat_map}

abbrev pub line : List ℕ → List ℕ
line text = text ++ 10 ∷ []

-- the first line of an aux file (source2e, file ltfiles)
abbrev pub relax_line : List ℕ
relax_line = line (codes "\\relax ")

-- in the main aux file, for a chapter of this name
abbrev pub input_line : List ℕ → List ℕ
input_line chapter = line (codes "\\@input{" ++ chapter ++ codes ".aux}")

abbrev pub counter_line : List ℕ × ℕ → List ℕ
counter_line counter = line (codes "\\setcounter{" ++ counter.0 ++ codes "}{" ++ decimal counter.1 ++ codes "}")

-- a chapter's checkpoint: the counters and their values as they are behind it
abbrev pub checkpoint : List ℕ → List (List ℕ × ℕ) → List ℕ
checkpoint chapter counters = line (codes "\\@setckpt{" ++ chapter ++ codes "}{") ++ flat_map counter_line counters ++ line (codes "}")

-- the first line of a log
abbrev pub log_start : List ℕ → List ℕ
log_start main = line (codes "speclatex 1 " ++ main)

-- a file that is read
abbrev pub log_file : List ℕ → List ℕ
log_file file = line (codes "File " ++ file)

-- a page that is shipped
abbrev pub log_page : ℕ → List ℕ
log_page number = line (91 ∷ decimal number ++ 93 ∷ [])

abbrev pub pages_word : ℕ → List ℕ
pages_word pages = if pages == 1 then codes " page, " else codes " pages, "

-- the last line, for a main file of this name and a DVI file of so many pages and bytes
abbrev pub log_end : List ℕ → ℕ → ℕ → List ℕ
log_end main pages bytes = line (codes "Output written on " ++ main ++ codes ".dvi (" ++ decimal pages ++ pages_word pages ++ decimal bytes ++ codes " bytes).")
