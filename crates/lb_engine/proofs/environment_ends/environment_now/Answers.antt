use Rattle.std.proofs.Common.{[], ap}
use Rattle.std.specs.Prelude.{Ok, unwrap_or}
use Rattle.lb_engine.proofs.LooksLemmas.{looks-told, or-empty}
use Rattle.lb_engine.proofs.environment_ends.environment_now.Goals as goal

pub returns-in-Some : goal.returns-in-Some
returns-in-Some g c = record { looks = looks-told (λ o. unwrap_or o []) (Ok c.in-Some.name) (ap (λ o. unwrap_or o []) c.in-Some.is) c.in_ok-name.ensures.tells }

pub returns-in-None : goal.returns-in-None
returns-in-None g c = record { looks = looks-told (λ o. unwrap_or o []) c.from_slice.result (or-empty c.in_ok-name.field-0 c.from_slice.result c.in-None.is c.from_slice.ensures) c.in_ok-name.ensures.tells }
