-- The names of the files of a book.
use Rattle.std.specs.Prelude.{◌≡◌, ℕ, ◌+◌, List, [], ◌++◌, length, Option, None, Some}
use Rattle.lb_base.specs.declared.page.PageCode.{PageCode}
use Rattle.lb_model.specs.Journal.{Entry, appended, begun_with}
use Rattle.lb_model_paper.specs.Dvi.{Progress, next_bytes, preamble, postamble}
use Rattle.lb_model_paper.specs.Texts.{relax_line, input_line, log_start, log_file, log_page, log_end}
use Rattle.lb_model.specs.declared.world.World.{World}
use Rattle.lb_model_book.specs.PlainForm.{aux_file, tex_file}
use Rattle.lb_model_book.specs.Books.{dvi_file, log_file_of}
use Rattle.lb_run.specs.declared.names.BookFiles.{BookFiles}

pub record IsNamedFor (world : World) (files : BookFiles) : Type 0 where
  pub log : files.log ≡ log_file_of world
  pub dvi : files.dvi ≡ dvi_file world
  pub aux : files.aux ≡ aux_file world.main

-- a page that is shipped, in files of these names
abbrev pub shipped_by : BookFiles → Progress → Option PageCode → List Entry
shipped_by files p None = []
shipped_by files p (Some page) = appended files.dvi (next_bytes p page) ++ appended files.log (log_page (p.pages + 1))

-- what a chapter writes before its page, in files of these names
abbrev pub start_by : BookFiles → List ℕ → List Entry
start_by files name = appended files.aux (input_line name) ++ begun_with (aux_file name) relax_line ++ appended files.log (log_file (tex_file name))

-- the beginning of a book, in files of these names
abbrev pub starts_by : BookFiles → World → List Entry
starts_by files world = begun_with files.log (log_start world.main) ++ begun_with files.dvi (preamble world.moment) ++ begun_with files.aux relax_line

-- its end
abbrev pub ends_by : BookFiles → World → Progress → List Entry
ends_by files world p = appended files.dvi (postamble p) ++ appended files.log (log_end world.main p.pages (p.place + length (postamble p)))
