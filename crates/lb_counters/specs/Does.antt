-- A call that does what a definition says, in every setting that agrees. What is now stands before what was.
use Rattle.std.specs.Prelude.{◌≡◌, length, List, Option, Result, Ok, Err}
use Rattle.std.specs.Option.{option_map}
use Rattle.lb_base.specs.declared.fault.Kind.{Kind}
use Rattle.lb_base.specs.declared.fault.Stop.{Stop}
use Rattle.lb_base.specs.declared.fault.Stop.TheVariants.{Memory, Fault, At}
use Rattle.lb_values.specs.declared.value.Value.{Value}
use Rattle.lb_values.specs.Kept.{Kept}
use Rattle.lb_model.specs.declared.cells.Cells.{Ghosts}
use Rattle.lb_model.specs.declared.group.Group.{Group}
use Rattle.lb_model.specs.declared.world.World.{World}
use Rattle.lb_model.specs.Settings.{Notes, Setting, State}
use Rattle.lb_model.specs.Stacked.{Standing, stacked, stacked_notes}
use Rattle.lb_model_counters.specs.Effects.{Effect, assigned_by, changed_by, looked_by, noted_by}

-- a call whose only error is want of memory
abbrev pub or_stop : {X E : Type 0} → Result X E → Result X Stop
or_stop (Ok x) = Ok x
or_stop (Err e) = Err Memory

-- a call ends as it has to, or for want of memory
abbrev pub Answers : {X : Type 0} → Result X Stop → Result X Kind → Type 0
Answers (Ok x) answer = answer ≡ Ok x
Answers (Err Memory) answer = Unit {0}
Answers (Err (Fault kind)) answer = answer ≡ Err kind
Answers (Err (At fault)) answer = ⊥

-- a fact, unless memory was wanted
abbrev pub UnlessMemory : {X : Type 0} → Result X Stop → Type 0 → Type 0
UnlessMemory (Ok x) P = P
UnlessMemory (Err Memory) P = Unit {0}
UnlessMemory (Err (Fault kind)) P = P
UnlessMemory (Err (At fault)) P = ⊥

abbrev pub IsAssignedBy : {X : Type 0} → List Group → Effect X → Kept Value → Kept Value → Type 0
IsAssignedBy groups e new old = stacked groups new ≡ assigned_by e (stacked groups old)

abbrev pub IsNotedBy : {X : Type 0} → List Group → Effect X → Option Notes → Option Notes → Type 0
IsNotedBy groups e new old = stacked_notes groups new ≡ option_map (looked_by e) (stacked_notes groups old)

-- the answer or the fault, what is changed, and what is noted, are those of the effect on the state before
pub record Does {S X : Type 0} (C : Ghosts S) (effect : World → State → Effect X) (result : Result X Stop) (new old : S) : Type 0 where
  pub narrows : (p : Setting) → C.agrees new p → C.agrees old p
  pub answer : (p : Setting) → C.agrees new p → Answers result (effect p.world (C.meaning old p).now).answer
  pub done : UnlessMemory result
      ((p : Setting) → C.agrees new p → C.meaning new p ≡ changed_by (effect p.world (C.meaning old p).now) (C.meaning old p))
  pub notes : UnlessMemory result
      ((p : Setting) → C.agrees new p → C.notes new ≡ option_map (noted_by (effect p.world (C.meaning old p).now)) (C.notes old))
  pub saves : (p : Setting) → C.agrees new p → length (C.meaning new p).saves ≡ length (C.meaning old p).saves
  pub made : C.made new ≡ C.made old
  pub loan : C.loan new ≡ C.loan old

-- the same inside groups, of states and notes that are stacked
pub record DoesIn {S X : Type 0} (C : Ghosts S) (groups : List Group) (effect : World → State → Effect X) (result : Result X Stop) (new old : S) : Type 0 where
  pub narrows : (p : Setting) → C.agrees new p → C.agrees old p
  pub answer : (p : Setting) → C.agrees new p → Answers result (effect p.world (C.meaning old p).now).answer
  pub done : UnlessMemory result
      ((p : Setting) → C.agrees new p → IsAssignedBy groups (effect p.world (C.meaning old p).now) (C.meaning new p) (C.meaning old p))
  pub notes : UnlessMemory result
      ((p : Setting) → C.agrees new p → IsNotedBy groups (effect p.world (C.meaning old p).now) (C.notes new) (C.notes old))
  pub standing : (p : Setting) → C.agrees new p → Standing groups (C.meaning old p) → Standing groups (C.meaning new p)
  pub made : C.made new ≡ C.made old
  pub loan : C.loan new ≡ C.loan old
