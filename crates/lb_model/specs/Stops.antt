-- Why a call may stop.
use Rattle.lb_base.specs.declared.fault.Kind.{Kind}
use Rattle.lb_base.specs.declared.fault.Stop.{Stop}
use Rattle.lb_base.specs.declared.fault.Stop.TheVariants.{Memory, Fault, At}

-- a stop for want of memory, or at a fault of whose kind this holds; never one with a place of its own
abbrev pub MayStopAt : Stop → (Kind → Type 0) → Type 0
MayStopAt Memory P = Unit {0}
MayStopAt (Fault kind) P = P kind
MayStopAt (At fault) P = ⊥
