use Rattle.lb_model.specs.Configs.{looks_of_plain, plain}
use Rattle.lb_model.specs.Readings.{looks_taken, taken}
use Rattle.lb_model_engine.specs.Definitions.{let_source}
use Rattle.lb_expand.proofs.PlainLemmas.{OwedOf}
use Rattle.std.proofs.Common.{true}
use Rattle.lb_engine.proofs.let_sources.read_let_source.Given as goal

abbrev pub invariant-tokens : goal.invariant-tokens
invariant-tokens g l = record { owed : OwedOf g.F.Feed true let_source (taken plain let_source) (looks_taken plain looks_of_plain let_source) l.feed l.fn.feed }
