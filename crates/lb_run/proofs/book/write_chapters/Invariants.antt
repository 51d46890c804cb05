use Rattle.std.proofs.Common.{◌≡◌, ◌≤◌, [], take}
use Rattle.lb_model.specs.Journal.{Adds}
use Rattle.lb_model_paper.specs.Dvi.{progress}
use Rattle.lb_model_book.specs.Books.{book_pages, chapters_part}
use Rattle.lb_run.specs.Parts.{IsPlainFile}
use Rattle.lb_run.proofs.book.write_chapters.Given as goal

abbrev pub invariant-loop-name : goal.invariant-loop-name
invariant-loop-name g l =
    record {
      done : Adds (g.O.Outlet.journal l.fn.outlet) (g.O.Outlet.journal l.outlet) (chapters_part l.world [] (take l.name-index l.names));
      after : l.writer ≡ progress (book_pages l.world [] (take l.name-index l.names));
      file : IsPlainFile l.writer;
      few : l.writer.pages ≤ l.name-index;
      later : g.O.Outlet.faults l.fn.outlet ≤ g.O.Outlet.faults l.outlet;
    }
