use Rattle.std.proofs.Common.{suc, ◌∙◌, [], take, drop, ap, subst, arith}
use Rattle.lb_model.specs.Journal.{Adds}
use Rattle.lb_model_book.specs.Books.{book_pages, pages_through, chapters_part}
use Rattle.lb_run.specs.Parts.{part_at}
use Rattle.lb_run.proofs.Journals.{adds_nothing, adds_then, prefix_after, on_err}
use Rattle.lb_run.proofs.Chapters.{chapters-whole, chapters-next, pages-next, no_pages, no_chapters, plain_at_start}
use Rattle.lb_run.proofs.book.write_chapters.Goals as goal

pub loop-name-init : goal.loop-name-init
loop-name-init g c = record {
  done = subst (Adds _ _) (no_chapters c.args.world.now) (adds_nothing _);
  after = c.requires.start ∙ no_pages c.args.world.now;
  file = plain_at_start _ c.requires.start;
  few = omega (arith, ap (λ p. p.pages) c.requires.start);
  later = omega arith;
}

pub loop-name-preserved : goal.loop-name-preserved
loop-name-preserved g c =
    let world = c.args.world.now in
    let names = c.args.names.now in
    let i = c.loop-name.name-index in
    let name = c.name-item.result in
    let now = c.loop-name.invariant.after in
    record {
      done = subst (Adds _ _) (chapters-next world names i name c.loop-name.writer (omega arith) c.name-item.is now) (adds_then _ _ _ _ _ c.loop-name.invariant.done c.in_ok-write_chapter.ensures.ok);
      after = c.in_ok-write_chapter.ensures.after ∙ pages-next world names i name c.loop-name.writer (omega arith) c.name-item.is now;
      file = c.in_ok-write_chapter.ensures.file;
      few = omega (arith, c.in_ok-write_chapter.ensures.few, c.loop-name.invariant.few);
      later = omega (arith, c.loop-name.invariant.later, c.in_ok-write_chapter.ensures.later);
    }

pub returns-in_err-write_chapter-clause-err : goal.returns-in_err-write_chapter-clause-err
returns-in_err-write_chapter-clause-err g c =
    let world = c.args.world.now in
    let names = c.args.names.now in
    let i = c.loop-name.name-index in
    let name = c.name-item.result in
    on_err c.from_residual.result (prefix_after _ _ _ (chapters_part world [] (take i names)) (part_at world c.loop-name.writer name) (chapters_part world (pages_through world (book_pages world [] (take i names)) name) (drop (suc i) names)) _
    (chapters-whole world names i name c.loop-name.writer (omega arith) c.name-item.is c.loop-name.invariant.after) c.loop-name.invariant.done c.in_err-write_chapter.ensures.err)
