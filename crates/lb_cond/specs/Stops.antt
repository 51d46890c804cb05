-- What the turns of the loop over skipped text come to.
use Rattle.std.specs.Prelude.{ℕ, List}
use Rattle.lb_base.specs.declared.token.Tok.{Tok}
use Rattle.lb_model_grammar.specs.declared.condition.Mark.{Mark}
use Rattle.lb_model_grammar.specs.declared.condition.Stopper.{Stopper}
use Rattle.lb_model_grammar.specs.declared.given.Given.{Given}
use Rattle.lb_model_grammar.specs.Conditionals.{stop}
use Rattle.lb_model_grammar.specs.Scans.{Meant}
use Rattle.lb_model_grammar.specs.Scans.Meant.{Ended}
use Rattle.lb_cond.specs.declared.skipping.Turn.{Turn}
use Rattle.lb_cond.specs.declared.skipping.Turn.TheVariants.{Stops, Goes}

abbrev pub stopped_by : Turn → (Tok → Mark) → List Given → Meant Stopper
stopped_by (Stops stopper) marks given = Ended stopper given
stopped_by (Goes level sought) marks given = stop marks level sought given

-- the level at which it goes on
abbrev pub level_of : Turn → ℕ
level_of (Goes level sought) = level
level_of turn = 0
