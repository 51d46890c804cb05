-- The part of a chapter in a book's journal, by what is known of the DVI file before it.
use Rattle.std.specs.Prelude.{◌≡◌, ℕ, ◌+◌, ◌*◌, ◌≤◌, ◌⊎◌, List, [], ◌∷◌, ◌++◌, length, Option, None, Some}
use Rattle.std.specs.List.{AllByRecursion}
use Rattle.lb_base.specs.declared.page.PageCode.{PageCode}
use Rattle.lb_model.specs.declared.world.World.{World}
use Rattle.lb_model.specs.Journal.{Entry, appended, begun_with}
use Rattle.lb_model_paper.specs.Dvi.{Progress, next_bytes, after_page, postamble, IsDrawable}
use Rattle.lb_model_paper.specs.Texts.{relax_line, input_line, checkpoint, log_file, log_page, log_end}
use Rattle.lb_model_book.specs.PlainForm.{tex_file, aux_file}
use Rattle.lb_model_book.specs.PlainPages.{plain_page, roman}
use Rattle.lb_model_book.specs.Books.{dvi_file, log_file_of, plain_counters, chapter_text}
use Rattle.lb_plain.specs.Marks.{IsRoman}

-- the page of a chapter
abbrev pub page_at : World → Progress → List ℕ → Option PageCode
page_at world p name = plain_page (chapter_text world name) (p.pages + 1)

abbrev pub shipped_at : World → Progress → Option PageCode → List Entry
shipped_at world p None = []
shipped_at world p (Some page) = appended (dvi_file world) (next_bytes p page) ++ appended (log_file_of world) (log_page (p.pages + 1))

abbrev pub progress_with : Progress → Option PageCode → Progress
progress_with p None = p
progress_with p (Some page) = after_page p page

abbrev pub after_chapter : World → Progress → List ℕ → Progress
after_chapter world p name = progress_with p (page_at world p name)

-- what stands before the page
abbrev pub part_start : World → List ℕ → List Entry
part_start world name =
    appended (aux_file world.main) (input_line name)
    ++ begun_with (aux_file name) relax_line
    ++ appended (log_file_of world) (log_file (tex_file name))

abbrev pub part_at : World → Progress → List ℕ → List Entry
part_at world p name =
    part_start world name
    ++ shipped_at world p (page_at world p name)
    ++ appended (aux_file name) (checkpoint name (plain_counters ((after_chapter world p name).pages + 1)))

-- the end of a book
abbrev pub end_at : World → Progress → List Entry
end_at world p = appended (dvi_file world) (postamble p) ++ appended (log_file_of world) (log_end world.main p.pages (p.place + length (postamble p)))

-- a page of plain words
pub record IsPlainPage (page : PageCode) : Type 0 where
  pub drawable : IsDrawable page
  pub marks : length page.marks ≤ 2410
  pub font : AllByRecursion IsRoman page.marks

-- a DVI file of plain pages alone: it is far below each limit
pub record IsPlainFile (p : Progress) : Type 0 where
  pub place : p.place ≤ 42 + 723046 * p.pages
  pub fonts : (p.fonts ≡ []) ⊎ (p.fonts ≡ roman ∷ [])
