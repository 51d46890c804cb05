-- A line set as a box.
use Rattle.std.specs.Prelude.{◌≡◌, ◌⊎◌, List, Result, Ok, Err, ⊤}
use Rattle.lb_base.specs.declared.fault.Kind.{Kind}
use Rattle.lb_base.specs.declared.fault.Kind.TheVariants.{DepthLimit, DimenTooLarge}
use Rattle.lb_base.specs.declared.fault.Stop.{Stop}
use Rattle.lb_base.specs.declared.fault.Stop.TheVariants.{At, Fault, Memory}
use Rattle.lb_base.specs.declared.node.Node.{Node}
use Rattle.lb_lines.specs.declared.setting.Set.{Set}
use Rattle.lb_lines.specs.declared.setting.Set.TheVariants.{Line, TooDeep, TooLarge}

abbrev pub IsSet : Result (List Node) Kind → Set → Type 0
IsSet meant (Line nodes) = meant ≡ Ok nodes
IsSet meant TooLarge = meant ≡ Err DimenTooLarge
IsSet meant TooDeep = meant ≡ Err DepthLimit

abbrev pub IsMemory : Stop → Type 0
IsMemory Memory = ⊤
IsMemory (Fault kind) = ⊥
IsMemory (At fault) = ⊥

-- why a line is not packed
abbrev pub IsRefusal : Stop → Type 0
IsRefusal Memory = ⊤
IsRefusal (Fault kind) = (kind ≡ DimenTooLarge) ⊎ (kind ≡ DepthLimit)
IsRefusal (At fault) = ⊥

abbrev pub IsRefused : Result (List Node) Kind → Stop → Type 0
IsRefused meant Memory = ⊤
IsRefused meant (Fault kind) = meant ≡ Err kind
IsRefused meant (At fault) = ⊤
