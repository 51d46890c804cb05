use Rattle.lb_model.proofs.SameMeanings.{meanings_same}
use Rattle.lb_model.proofs.laws.meanings_are_compared.Goals as goal

pub returns : goal.returns
returns c = meanings_same c.names_and_rows.ensures.commands_told
