-- Token lists and lines as they are written to aux files (tex.web, sections 262, 263 and 294; source2e, files ltfiles, ltsect and ltxref). Texts
-- are bytes; each line ends in a line feed.
use Rattle.std.specs.Prelude.{ℕ, ℤ, ◌+◌, ◌&&◌, ◌||◌, not, nat_le, Bool, false, List, [], ◌∷◌, ◌++◌, codes, if◌then◌else◌}
use Rattle.std.specs.Fmt.{signed_decimal}
use Rattle.std.specs.List.{flat_map}
use Rattle.lb_base.specs.declared.token.Category.TheVariants as category
use Rattle.lb_base.specs.declared.token.Tok.{Tok}
use Rattle.lb_base.specs.declared.token.Tok.TheVariants.{Char, Word, Active, Param}
use Rattle.lb_values.specs.declared.value.LabelPair.{LabelPair}
use Rattle.lb_model_paper.specs.Texts.{line}
use Rattle.lb_model_journal.specs.declared.entry.Entry3.{Entry3}

-- ---- Token lists

abbrev pub is_letter : ℕ → Bool
is_letter c = (nat_le 65 c && nat_le c 90) || (nat_le 97 c && nat_le c 122)

-- one character that is no letter, whatever its category
abbrev pub is_symbol : List ℕ → Bool
is_symbol [] = false
is_symbol (c ∷ []) = not (is_letter c)
is_symbol (c ∷ d ∷ name) = false

-- a control word has a space behind it, a control symbol none
abbrev pub written_name : List ℕ → List ℕ
written_name name = if is_symbol name then 92 ∷ name else 92 ∷ name ++ 32 ∷ []

-- characters as they are, a parameter character twice
abbrev pub written_token : Tok → List ℕ
written_token (Char category.Parameter c) = c ∷ c ∷ []
written_token (Char cat c) = c ∷ []
written_token (Word name) = written_name name
written_token (Active c) = c ∷ []
written_token (Param n) = 35 ∷ (48 + n) ∷ []

abbrev pub written : List Tok → List ℕ
written toks = flat_map written_token toks

-- ---- Lines

abbrev pub braced : List ℕ → List ℕ
braced text = 123 ∷ text ++ 125 ∷ []

abbrev pub label_line : List ℕ → LabelPair → List ℕ
label_line key pair = line (codes "\\newlabel" ++ braced key ++ braced (braced pair.text ++ braced pair.page))

-- an entry of contents, and its line, for the file of an ending
abbrev pub contents_entry : Entry3 → List ℕ
contents_entry entry = codes "\\contentsline " ++ braced entry.kind ++ braced (written entry.title) ++ braced (written entry.page)

abbrev pub contents_line : List ℕ → Entry3 → List ℕ
contents_line ext entry = line (codes "\\@writefile" ++ braced ext ++ braced (contents_entry entry))

-- an entry in the file of its ending
abbrev pub toc_line : List ℕ → List ℕ
toc_line text = line text

abbrev pub counter_line : List ℕ × ℤ → List ℕ
counter_line counter = line (codes "\\setcounter" ++ braced counter.0 ++ braced (signed_decimal counter.1))

-- a chapter's checkpoint with these counters
abbrev pub checkpoint_lines : List ℕ → List (List ℕ × ℤ) → List ℕ
checkpoint_lines chapter counters = line (codes "\\@setckpt" ++ braced chapter ++ 123 ∷ []) ++ flat_map counter_line counters ++ line (125 ∷ [])
