use Rattle.std.proofs.Common.{[], ◌++◌, sym, ap, subst, append_assoc}
use Rattle.std.proofs.lemmas.List.{append-nil}
use Rattle.lb_model.specs.Journal.{Adds, AddsPrefix}
use Rattle.lb_model_book.specs.Books.{book_start, chapters_part, book_end, book_pages}
use Rattle.std.proofs.lemmas.Result.{on_ok_weaker, on_err_weaker}
use Rattle.lb_run.proofs.Journals.{adds_then, prefix_after, prefix_more, on_err}
use Rattle.lb_run.proofs.Chapters.{end_at-progress}
use Rattle.lb_run.proofs.book.write_book.Goals as goal

pub returns-in_err-write_start-clause-err : goal.returns-in_err-write_start-clause-err
returns-in_err-write_start-clause-err g c =
    let world = c.args.world.now in
    let names = c.args.names.now in
    on_err c.from_residual.result (prefix_more _ _ (book_start world) (chapters_part world [] names ++ book_end world (book_pages world [] names)) _ (append_assoc (book_start world) (chapters_part world [] names) (book_end world (book_pages world [] names))) c.in_err-write_start.ensures.err)

pub returns-in_err-write_chapters-clause-err : goal.returns-in_err-write_chapters-clause-err
returns-in_err-write_chapters-clause-err g c =
    let world = c.args.world.now in
    let names = c.args.names.now in
    on_err c.from_residual-in_err-write_chapters.result (prefix_after _ _ _ (book_start world) (chapters_part world [] names) (book_end world (book_pages world [] names)) _ (append_assoc (book_start world) (chapters_part world [] names) (book_end world (book_pages world [] names))) c.in_ok-write_start.ensures.ok c.in_err-write_chapters.ensures.err)

pub returns-clause-ok : goal.returns-clause-ok
returns-clause-ok g c =
    let world = c.args.world.now in
    let names = c.args.names.now in
    let same = end_at-progress world c.write_chapters.new.writer (book_pages world [] names) c.in_ok-write_chapters.ensures.after in
    on_ok_weaker c.write_end.result (λ done. adds_then _ _ _ (book_start world ++ chapters_part world [] names) (book_end world (book_pages world [] names))
    (adds_then _ _ _ (book_start world) (chapters_part world [] names) c.in_ok-write_start.ensures.ok c.in_ok-write_chapters.ensures.ok) (subst (Adds _ _) same done)) c.write_end.ensures.ok

pub returns-clause-err : goal.returns-clause-err
returns-clause-err g c =
    let world = c.args.world.now in
    let names = c.args.names.now in
    let same = end_at-progress world c.write_chapters.new.writer (book_pages world [] names) c.in_ok-write_chapters.ensures.after in
    let front = adds_then _ _ _ (book_start world) (chapters_part world [] names) c.in_ok-write_start.ensures.ok c.in_ok-write_chapters.ensures.ok in
    on_err_weaker c.write_end.result (λ part. prefix_after _ _ _ (book_start world ++ chapters_part world [] names) (book_end world (book_pages world [] names)) [] _
    (ap (λ l. book_start world ++ chapters_part world [] names ++ l) (sym (append-nil (book_end world (book_pages world [] names))))) front (subst (AddsPrefix _ _) same part)) c.write_end.ensures.err
