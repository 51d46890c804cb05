use Rattle.lb_engine.proofs.CopyLemmas.{meaning-leads, meaning-stays}
use Rattle.lb_engine.proofs.copied_meanings.meaning_of.Goals as goal

pub returns : goal.returns
returns g c = record {
  leads = λ row. meaning-leads g.C.Cells row c.args.tok.now c.sense_of.result c.requires.holds c.sense_of.ensures.told c.sense_of.ensures.value c.sense_of.ensures.notes;
  told = meaning-stays g.C.Cells c.args.tok.now c.sense_of.result c.sense_of.ensures.told c.sense_of.ensures.value;
}
