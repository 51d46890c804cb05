use Rattle.lb_engine.proofs.NestLemmas.{nest_works}
use Rattle.lb_engine.proofs.paragraphs.keep_after.Goals as goal

pub returns : goal.returns
returns g c = record { goes = nest_works g.C.Cells c.keep_after.result c.requires.holds (c.keep_after.ensures.works c.args.engine.now.desk.left) }
