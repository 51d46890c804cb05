use Rattle.lb_record.specs.Recorded.{pairs_hold, setting_of}
use Rattle.lb_record.proofs.Noted.{cells-of}
use Rattle.lb_record.proofs.laws.notes_are_true.Goals as goal

pub returns-clause-hold : goal.returns-clause-hold
returns-clause-hold c = λ r. pairs_hold (setting_of r.world r.guess) r.told

pub returns-clause-cells : goal.returns-clause-cells
returns-clause-cells c = λ r. cells-of (setting_of r.world r.guess) r.told
