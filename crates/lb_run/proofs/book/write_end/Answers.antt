use Rattle.std.proofs.Common.{[], ◌∙◌, sym}
use Rattle.std.specs.List.{flat_map}
use Rattle.std.proofs.lemmas.List.{append-nil}
use Rattle.std.proofs.lemmas.Result.{on_ok_weaker, on_err_weaker, IfOk-weaker}
use Rattle.lb_run.specs.Writes.{entries_of}
use Rattle.lb_run.proofs.Journals.{made_whole, made_prefix}
use Rattle.lb_run.proofs.Chapters.{ends-named}
use Rattle.lb_run.proofs.book.write_end.Goals as goal

pub returns-clause-ok : goal.returns-clause-ok
returns-clause-ok g c =
    on_ok_weaker c.perform_made.result (made_whole (λ w. flat_map entries_of w.items) c.end_writes.result _ _ _
    (IfOk-weaker c.end_writes.result _ _ (λ w is. is ∙ ends-named c.args.world.now c.args.files.now c.args.writer c.requires.named) c.end_writes.ensures)) c.perform_made.ensures.ok

pub returns-clause-err : goal.returns-clause-err
returns-clause-err g c =
    on_err_weaker c.perform_made.result (made_prefix (λ w. flat_map entries_of w.items) c.end_writes.result _ _ _ [] _ (sym (append-nil _))
    (IfOk-weaker c.end_writes.result _ _ (λ w is. is ∙ ends-named c.args.world.now c.args.files.now c.args.writer c.requires.named) c.end_writes.ensures)) c.perform_made.ensures.err
