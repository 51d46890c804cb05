-- Characters by their numbers (TeXbook, chapter 24; tex.web, part 46, section 1030).
use Rattle.std.specs.Prelude.{true}
use Rattle.lb_model_nest.specs.Paragraphs.{begun_in_vertical}
use Rattle.lb_model_nest.specs.Wholes.{Executed, Whole, and_then}
use Rattle.lb_model_nest.specs.Words.{character_put}
use Rattle.lb_model_engine.specs.Reads.{code}

-- `\char`
unfoldable pub char : Whole → Executed
char w = and_then (begun_in_vertical true w) (λ v. code (λ n u. character_put n u) v)
