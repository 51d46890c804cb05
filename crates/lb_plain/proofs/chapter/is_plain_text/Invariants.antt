use Rattle.std.proofs.Common.{◌≡◌, ◌≤◌, length}
use Rattle.lb_model.specs.Lines.{lines_of}
use Rattle.lb_model_book.specs.PlainForm.{is_plain_text}
use Rattle.lb_plain.proofs.ChapterLemmas.{fits}
use Rattle.lb_plain.proofs.chapter.is_plain_text.Given as goal

abbrev pub invariant-loop-rest : goal.invariant-loop-rest
invariant-loop-rest l = record { few : l.count ≤ 40; same : fits l.behind_text l.count (lines_of l.rest) ≡ is_plain_text l.text }

abbrev pub decreases-loop-rest : goal.decreases-loop-rest
decreases-loop-rest l = length l.rest
