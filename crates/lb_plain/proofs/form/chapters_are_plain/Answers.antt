use Rattle.lb_plain.proofs.Found.{plain-chapters}
use Rattle.lb_plain.proofs.form.chapters_are_plain.Goals as goal

pub returns : goal.returns
returns c = plain-chapters
