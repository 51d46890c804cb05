use Rattle.std.proofs.Common.{◌∙◌, ap, sym}
use Rattle.lb_record.proofs.Fresh.{fresh-over}
use Rattle.lb_record.proofs.laws.clients_are_recorded.Goals as goal

pub returns : goal.returns
returns g c = λ run start end x fresh does p a. ap (run p.world) (sym (fresh-over start p.state fresh.entries)) ∙ does p a
