use Rattle.lb_page.proofs.LastCheapest.{awful, chosen}
use Rattle.lb_page.proofs.laws.page_ends.Goals as goal

pub returns-clause-chosen : goal.returns-clause-chosen
returns-clause-chosen c = chosen

pub returns-clause-awful : goal.returns-clause-awful
returns-clause-awful c = awful
