use Rattle.lb_tokens.proofs.Stops.{err_at, ok_at, on_ok_at}
use Rattle.lb_tokens.proofs.source.Source.next.Goals as goal

pub returns-clause-ok : goal.returns-clause-ok
returns-clause-ok g c = ok_at c.next_noted.result _ _ (λ tok h p a. (h p a).taken) c.next_noted.ensures.gave

pub returns-clause-fault : goal.returns-clause-fault
returns-clause-fault g c = err_at c.next_noted.result _ _ (λ k h p a. (h p a).taken) c.next_noted.ensures.fault

pub returns-clause-notes : goal.returns-clause-notes
returns-clause-notes g c = on_ok_at c.next_noted.result _ _ (λ tok h p a. (h p a).notes) c.next_noted.ensures.gave

pub returns-clause-notes_on_fault : goal.returns-clause-notes_on_fault
returns-clause-notes_on_fault g c = err_at c.next_noted.result _ _ (λ k h p a. (h p a).notes) c.next_noted.ensures.fault
