use Rattle.std.proofs.Common.{◌≡◌, ◌++◌, List}
use Rattle.lb_base.specs.declared.token.Tok.{Tok}
use Rattle.lb_model_engine.specs.Definitions.{body_of}
use Rattle.lb_engine.specs.Macros.{body_from}
use Rattle.lb_engine.proofs.bodies.body_of.Given as goal

abbrev pub invariant-loop-tok : goal.invariant-loop-tok
invariant-loop-tok l = record { so_far : (rest : List Tok) → body_of l.parameters (l.yielded ++ rest) ≡ body_from l.parameters l.stage l.body rest }
