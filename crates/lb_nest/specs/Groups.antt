-- How a group ends, before its tokens are put.
use Rattle.lb_model_nest.specs.Wholes.{Executed, Whole, put, stop}
use Rattle.lb_nest.specs.declared.groups.Closed.{Closed}
use Rattle.lb_nest.specs.declared.groups.Closed.TheVariants as closed

-- the tokens come next, or there is a fault
abbrev pub behind_group : Closed → Whole → Executed
behind_group (closed.Later toks) w = put toks w
behind_group (closed.Stops kind) w = stop kind w
