-- What a run has to write for a world, and how it has to end.
use Rattle.std.specs.Prelude.{ℕ, ◌+◌, List, [], ◌∷◌, ◌++◌, length, map, codes, Option, None, Some}
use Rattle.std.specs.Option.{unwrap_or}
use Rattle.std.specs.FinMap.{get}
use Rattle.lb_base.specs.declared.page.PageCode.{PageCode}
use Rattle.lb_base.specs.declared.fault.Kind.TheVariants.{NotYet}
use Rattle.lb_model.specs.declared.world.World.{World}
use Rattle.lb_model.specs.Journal.{Entry, appended, begun_with}
use Rattle.lb_model_paper.specs.Dvi.{preamble, progress, next_bytes, postamble}
use Rattle.lb_model_paper.specs.Texts.{relax_line, input_line, checkpoint, log_start, log_file, log_page, log_end}
use Rattle.lb_model_book.specs.declared.end.End.{End}
use Rattle.lb_model_book.specs.declared.end.End.TheVariants.{Done, Fault}
use Rattle.lb_model_book.specs.PlainForm.{tex_file, aux_file, plain_names}
use Rattle.lb_model_book.specs.PlainPages.{plain_page}

abbrev pub dvi_file : World → List ℕ
dvi_file world = world.main ++ codes ".dvi"

abbrev pub log_file_of : World → List ℕ
log_file_of world = world.main ++ codes ".log"

-- the counters of a checkpoint that plain text leaves at 0, in their order (source2e, file ltcounts)
abbrev pub still_counters : List (List ℕ)
still_counters =
    codes "equation" ∷ codes "enumi" ∷ codes "enumii" ∷ codes "enumiii" ∷ codes "enumiv" ∷ codes "footnote" ∷ codes "mpfootnote" ∷ codes "part"
    ∷ codes "chapter" ∷ codes "section" ∷ codes "subsection" ∷ codes "subsubsection" ∷ codes "paragraph" ∷ codes "subparagraph" ∷ codes "figure" ∷ codes "table" ∷ []

-- the counters where the next page has this number
abbrev pub plain_counters : ℕ → List (List ℕ × ℕ)
plain_counters page = (codes "page", page) ∷ map (λ name. (name, 0)) still_counters

-- the text of a chapter
abbrev pub chapter_text : World → List ℕ → List ℕ
chapter_text world name = unwrap_or (get world.files (tex_file name)) []

-- Pages are counted from 1. `earlier` are the pages before the chapter, the newest of them first.
abbrev pub chapter_page : World → List PageCode → List ℕ → Option PageCode
chapter_page world earlier name = plain_page (chapter_text world name) (length earlier + 1)

abbrev pub with_page : List PageCode → Option PageCode → List PageCode
with_page earlier None = earlier
with_page earlier (Some page) = page ∷ earlier

-- the pages through the chapter
abbrev pub pages_through : World → List PageCode → List ℕ → List PageCode
pages_through world earlier name = with_page earlier (chapter_page world earlier name)

-- a page is shipped: its bytes go to the DVI file and its number to the log
abbrev pub shipped : World → List PageCode → Option PageCode → List Entry
shipped world earlier None = []
shipped world earlier (Some page) = appended (dvi_file world) (next_bytes (progress earlier) page) ++ appended (log_file_of world) (log_page (length earlier + 1))

-- A chapter's part: its line in the main aux file, the beginning of its own, its line in the log, its page if it has one,
-- and its checkpoint.
abbrev pub chapter_part : World → List PageCode → List ℕ → List Entry
chapter_part world earlier name =
    appended (aux_file world.main) (input_line name)
    ++ begun_with (aux_file name) relax_line
    ++ appended (log_file_of world) (log_file (tex_file name))
    ++ shipped world earlier (chapter_page world earlier name)
    ++ appended (aux_file name) (checkpoint name (plain_counters (length (pages_through world earlier name) + 1)))

unfoldable pub chapters_part : World → List PageCode → List (List ℕ) → List Entry
chapters_part world earlier [] = []
chapters_part world earlier (name ∷ names) = chapter_part world earlier name ++ chapters_part world (pages_through world earlier name) names

unfoldable pub book_pages : World → List PageCode → List (List ℕ) → List PageCode
book_pages world earlier [] = earlier
book_pages world earlier (name ∷ names) = book_pages world (pages_through world earlier name) names

-- the first lines of the log and the main aux file, and the beginning of the DVI file
abbrev pub book_start : World → List Entry
book_start world =
    begun_with (log_file_of world) (log_start world.main)
    ++ begun_with (dvi_file world) (preamble world.moment)
    ++ begun_with (aux_file world.main) relax_line

abbrev pub file_length : List PageCode → ℕ
file_length pages = (progress pages).place + length (postamble (progress pages))

-- the end of the DVI file, and the log's last line
abbrev pub book_end : World → List PageCode → List Entry
book_end world pages =
    appended (dvi_file world) (postamble (progress pages)) ++ appended (log_file_of world) (log_end world.main (length pages) (file_length pages))

-- all that is written for a book of these chapters
abbrev pub book_journal : World → List (List ℕ) → List Entry
book_journal world names = book_start world ++ chapters_part world [] names ++ book_end world (book_pages world [] names)

abbrev pub journal_of_names : World → Option (List (List ℕ)) → List Entry
journal_of_names world None = []
journal_of_names world (Some names) = book_journal world names

-- all that is written for a world: nothing where the form is broken
abbrev pub journal : World → List Entry
journal world = journal_of_names world (plain_names world)

abbrev pub end_of_names : World → Option (List (List ℕ)) → End
end_of_names world None = Fault (record { kind = NotYet; file = tex_file world.main; line = 0 })
end_of_names world (Some names) = Done

-- how the setting of a world ends: at a form that is not built yet, or well
abbrev pub end_of : World → End
end_of world = end_of_names world (plain_names world)
