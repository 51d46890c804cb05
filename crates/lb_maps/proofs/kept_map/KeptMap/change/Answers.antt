use Rattle.lb_maps.proofs.kept_map.KeptMap.change.Goals as goal

pub returns-in-Local-clause-ok : goal.returns-in-Local-clause-ok
returns-in-Local-clause-ok g c = rw c.in-Local.is c.change_locally.ensures.ok

pub returns-in-Global-clause-ok : goal.returns-in-Global-clause-ok
returns-in-Global-clause-ok g c = rw c.in-Global.is c.change_globally.ensures.ok
