use Rattle.std.proofs.Common.{append_assoc, rules}
use Rattle.lb_tfm_make.proofs.sections.push_parameters.Goals as goal

pub returns : goal.returns
returns c =
    rw (c.in_ok-push-7.ensures.items, c.in_ok-push-6.ensures.items, c.in_ok-push-5.ensures.items, c.in_ok-push-4.ensures.items, c.in_ok-push-3.ensures.items, c.in_ok-push-2.ensures.items, c.in_ok-push.ensures.items)
    (rw (c.fix_word-7.ensures, c.fix_word-6.ensures, c.fix_word-5.ensures, c.fix_word-4.ensures, c.fix_word-3.ensures, c.fix_word-2.ensures, c.fix_word.ensures)
    (simp append_assoc (search rules)))
