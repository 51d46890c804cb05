use Rattle.lb_engine.specs.Views.{Writes}
use Rattle.lb_engine.proofs.journal.write_entries.Given as goal

abbrev pub invariant-entries : goal.invariant-entries
invariant-entries l = Writes l.engine l.fn.engine
