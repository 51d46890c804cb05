-- Chapters that are there and plain.
use Rattle.std.specs.Prelude.{ℕ, ◌≤◌, List, length, IsTrue, IsSomeAnd, IfSome}
use Rattle.std.specs.List.{AllByRecursion}
use Rattle.std.specs.FinMap.{get}
use Rattle.lb_model.specs.declared.world.World.{World}
use Rattle.lb_model_book.specs.PlainForm.{tex_file, is_plain_text, plain_names}

-- the chapter's file is there, and has plain text
abbrev pub IsPlainChapter : World → List ℕ → Type 0
IsPlainChapter world name = IsSomeAnd (get world.files (tex_file name)) (λ text. IsTrue (is_plain_text text))

-- at most 1000 chapters, plain each
pub record ArePlainChapters (world : World) (names : List (List ℕ)) : Type 0 where
  pub few : length names ≤ 1000
  pub plain : AllByRecursion (IsPlainChapter world) names

-- Where the form of a book holds, its chapters are there and plain.
abbrev pub ChaptersArePlain : Type 0
ChaptersArePlain = (world : World) → IfSome (plain_names world) (ArePlainChapters world)
