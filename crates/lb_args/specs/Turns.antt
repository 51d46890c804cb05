-- What the turns of the loops over arguments come to.
use Rattle.std.specs.Prelude.{◌++◌, Bool, ℕ, List, [], ◌∷◌, Option, Some, None}
use Rattle.lb_base.specs.declared.token.Tok.{Tok}
use Rattle.lb_model_grammar.specs.declared.given.Given.{Given}
use Rattle.lb_model_grammar.specs.Arguments.{group, undelimited}
use Rattle.lb_model_grammar.specs.Scans.{Meant}
use Rattle.lb_model_grammar.specs.Scans.Meant.{Ended, Wrong}
use Rattle.lb_args.specs.declared.turns.Step.{Step}
use Rattle.lb_args.specs.declared.turns.Step.TheVariants as step
use Rattle.lb_args.specs.declared.turns.First.{First}
use Rattle.lb_args.specs.declared.turns.First.TheVariants as first

-- what comes of an argument with this body by a step at a token, where it goes on so
abbrev pub stepped : Step → List Tok → Tok → (ℕ → List Tok → Meant (List Tok)) → Meant (List Tok)
stepped (step.Goes level) body t more = more level (body ++ t ∷ [])
stepped (step.Fails kind) body t more = Wrong kind

-- the same of a group, which may end there
abbrev pub turned : Option Step → List Tok → Tok → (ℕ → List Tok → Meant (List Tok)) → List Given → Meant (List Tok)
turned None body t more given = Ended body given
turned (Some step) body t more given = stepped step body t more

-- the level at which it goes on
abbrev pub level_of : Step → ℕ
level_of (step.Goes level) = level
level_of (step.Fails kind) = 0

-- what comes of an undelimited argument by its first token
abbrev pub begun : First → Bool → Tok → List Given → Meant (List Tok)
begun first.Space long t given = undelimited long given
begun first.Group long t given = group long 0 [] given
begun first.One long t given = Ended (t ∷ []) given
begun (first.Fails kind) long t given = Wrong kind
