use Rattle.lb_engine.proofs.NestLemmas.{nest_works}
use Rattle.lb_engine.proofs.paragraphs.unskip.Goals as goal

pub returns : goal.returns
returns g c = record { goes = nest_works g.C.Cells c.unskip.result c.requires.holds (c.unskip.ensures.works c.args.engine.now.desk.left) }
