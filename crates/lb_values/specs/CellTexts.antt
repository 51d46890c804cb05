-- The texts of cells: the kind in lower case, and behind a space the key, where there is one.
use Rattle.std.specs.Prelude.{ℕ, List, [], ◌∷◌, ◌++◌, codes, decimal}
use Rattle.lb_rows.specs.Parameters.{parameter_name}
use Rattle.lb_values.specs.declared.cell.Cell.{Cell}
use Rattle.lb_values.specs.declared.cell.Cell.TheVariants.{Word, Active, Cat, Lc, Uc, Sf, Count, Dimen, Skip, Toks, Boxed, Par, Counter, Counters, Resets, Fresh, Label, Checkpoint, Only, Body, Toc, Matter, PageForm, PageStyle, ThisStyle, LeftMark, RightMark, CurrentLabel, Env, Style, Size, Job, Prefix, Steps, File}
use Rattle.lb_values.specs.declared.cell.RegisterKind.{RegisterKind}
use Rattle.lb_values.specs.declared.cell.RegisterKind.TheVariants as register

abbrev pub register_kind_text : RegisterKind → List ℕ
register_kind_text register.Count = codes "count"
register_kind_text register.Dimen = codes "dimen"
register_kind_text register.Skip = codes "skip"
register_kind_text register.Toks = codes "toks"
register_kind_text register.Boxed = codes "boxed"

abbrev pub cell_kind : Cell → List ℕ
cell_kind (Word name) = codes "word"
cell_kind (Active code) = codes "active"
cell_kind (Cat code) = codes "cat"
cell_kind (Lc code) = codes "lc"
cell_kind (Uc code) = codes "uc"
cell_kind (Sf code) = codes "sf"
cell_kind (Count n) = codes "count"
cell_kind (Dimen n) = codes "dimen"
cell_kind (Skip n) = codes "skip"
cell_kind (Toks n) = codes "toks"
cell_kind (Boxed n) = codes "boxed"
cell_kind (Par parameter) = codes "par"
cell_kind (Counter name) = codes "counter"
cell_kind Counters = codes "counters"
cell_kind (Resets name) = codes "resets"
cell_kind (Fresh kind) = codes "fresh"
cell_kind (Label key) = codes "label"
cell_kind (Checkpoint name) = codes "checkpoint"
cell_kind Only = codes "only"
cell_kind Body = codes "body"
cell_kind Toc = codes "toc"
cell_kind Matter = codes "matter"
cell_kind PageForm = codes "pageform"
cell_kind PageStyle = codes "pagestyle"
cell_kind ThisStyle = codes "thisstyle"
cell_kind LeftMark = codes "leftmark"
cell_kind RightMark = codes "rightmark"
cell_kind CurrentLabel = codes "currentlabel"
cell_kind Env = codes "env"
cell_kind Style = codes "style"
cell_kind Size = codes "size"
cell_kind Job = codes "job"
cell_kind Prefix = codes "prefix"
cell_kind Steps = codes "steps"
cell_kind (File name) = codes "file"

-- the key behind a space: a name as its bytes, a code or a register in decimal
abbrev pub cell_key : Cell → List ℕ
cell_key (Word name) = 32 ∷ name
cell_key (Active code) = 32 ∷ decimal code
cell_key (Cat code) = 32 ∷ decimal code
cell_key (Lc code) = 32 ∷ decimal code
cell_key (Uc code) = 32 ∷ decimal code
cell_key (Sf code) = 32 ∷ decimal code
cell_key (Count n) = 32 ∷ decimal n
cell_key (Dimen n) = 32 ∷ decimal n
cell_key (Skip n) = 32 ∷ decimal n
cell_key (Toks n) = 32 ∷ decimal n
cell_key (Boxed n) = 32 ∷ decimal n
cell_key (Par parameter) = 32 ∷ parameter_name parameter
cell_key (Counter name) = 32 ∷ name
cell_key (Resets name) = 32 ∷ name
cell_key (Fresh kind) = 32 ∷ register_kind_text kind
cell_key (Label key) = 32 ∷ key
cell_key (Checkpoint name) = 32 ∷ name
cell_key (File name) = 32 ∷ name
cell_key _ = []

abbrev pub cell_text : Cell → List ℕ
cell_text cell = cell_kind cell ++ cell_key cell
