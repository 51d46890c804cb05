use Rattle.lb_engine.proofs.NestLemmas.{nest_works}
use Rattle.lb_engine.proofs.paragraphs.plainnext.Goals as goal

pub returns : goal.returns
returns g c = record { goes = nest_works g.C.Cells c.plainnext.result c.requires.holds (c.plainnext.ensures.works c.args.engine.now.desk.left) }
