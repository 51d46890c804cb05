use Rattle.lb_engine.proofs.NestLemmas.{nest_works}
use Rattle.lb_engine.proofs.paragraphs.end_word.Goals as goal

pub returns : goal.returns
returns g c = record { goes = nest_works g.C.Cells c.end_word.result c.requires.holds c.end_word.ensures.works }
