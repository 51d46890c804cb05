use Rattle.lb_model.proofs.Places.{from_sorted_nil}
use Rattle.lb_model.proofs.files.FileMap.new.Goals as goal

pub returns : goal.returns
returns c = rw c.new.ensures.items from_sorted_nil
