-- Tokens that come behind a group (TeXbook, chapter 24; tex.web, part 19, section 280).
use Rattle.lb_model_nest.specs.Groups.{kept_after}
use Rattle.lb_model_nest.specs.Wholes.{Executed, Whole}
use Rattle.lb_model_engine.specs.Reads.{taking}

-- `\aftergroup`
unfoldable pub aftergroup : Whole → Executed
aftergroup w = taking (λ tok v. kept_after tok v) w
