-- The front of a checkpoint.
use Rattle.std.specs.Prelude.{ℕ, List, ◌++◌, codes}
use Rattle.lb_model_paper.specs.Texts.{line, counter_line}

-- the line that opens a chapter's checkpoint, and the line of the page counter
abbrev pub checkpoint_front : List ℕ → ℕ → List ℕ
checkpoint_front chapter page = line (codes "\\@setckpt{" ++ chapter ++ codes "}{") ++ counter_line (codes "page", page)
