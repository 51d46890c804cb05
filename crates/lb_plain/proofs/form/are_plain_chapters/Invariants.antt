use Rattle.std.proofs.Common.{◌≡◌, drop}
use Rattle.std.specs.List.{list_all}
use Rattle.lb_model_book.specs.PlainForm.{is_plain_chapter}
use Rattle.lb_plain.proofs.form.are_plain_chapters.Given as goal

abbrev pub invariant-loop-name : goal.invariant-loop-name
invariant-loop-name l = list_all (is_plain_chapter l.world) (drop l.name-index l.names) ≡ list_all (is_plain_chapter l.world) l.names
