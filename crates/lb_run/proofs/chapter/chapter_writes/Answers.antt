use Rattle.std.proofs.Common.{ℕ, ◌+◌, ◌∙◌, ap}
use Rattle.lb_model_paper.specs.Texts.{checkpoint}
use Rattle.lb_model_book.specs.Books.{plain_counters}
use Rattle.lb_run.proofs.Chapters.{part-joined}
use Rattle.lb_run.proofs.chapter.chapter_writes.Goals as goal

pub returns-clause-part : goal.returns-clause-part
returns-clause-part c =
    let text = c.in_ok-checkpoint.ensures ∙ ap (λ (n : ℕ). checkpoint c.args.name.now (plain_counters (n + 1))) c.pages.ensures in
    part-joined c.args.world.now c.args.files.now c.args.writer.now c.ship.new.writer c.in_ok-page.page c.args.name.now c.in_ok-aux.aux c.in_ok-checkpoint.checkpoint c.in_ok-writes.writes.items c.ship.new.writes.items c.push.new.self.items
    c.requires.named c.in_ok-page.ensures.page c.in_ok-writes.ensures c.in_ok-ship.ensures.written c.in_ok-ship.ensures.after c.in_ok-aux.ensures text c.in_ok-push.ensures.items
