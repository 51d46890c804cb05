use Rattle.lb_model.specs.Configs.{looks_by, taken_by}
use Rattle.lb_model.specs.Readings.{looks_taken, taken}
use Rattle.lb_model_expansion.specs.Expansion.{first_token}
use Rattle.lb_expand.proofs.PlainLemmas.{OwedOf}
use Rattle.lb_expand.proofs.inputs.first_token.Given as goal

abbrev pub invariant-tokens : goal.invariant-tokens
invariant-tokens g l = record { owed : OwedOf g.F.Feed l.fn.passes first_token (taken (taken_by l.fn.passes) first_token) (looks_taken (taken_by l.fn.passes) (looks_by l.fn.passes) first_token) l.feed l.fn.feed }
