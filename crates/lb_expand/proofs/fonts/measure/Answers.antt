use Rattle.lb_expand.proofs.CloseLemmas.{told-of}
use Rattle.lb_expand.proofs.FontLemmas.{told-then}
use Rattle.lb_expand.proofs.fonts.measure.Goals as goal

pub returns-in-Ok-clause-told : goal.returns-in-Ok-clause-told
returns-in-Ok-clause-told g c = told-then (told-then (told-of c.in_ok-style.ensures.tells) (told-of c.in_ok-size.ensures.tells)) c.measure_font.ensures.told
