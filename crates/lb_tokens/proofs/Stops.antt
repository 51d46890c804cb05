-- Calls over cells, one behind another, and how they stop.
use Rattle.std.proofs.Common.{◌≡◌, ◌∙◌, IfOk, IfErr, OnOk, sym, subst}
use Rattle.std.specs.Prelude.{Result, Ok, Err}
use Rattle.std.specs.Result.{IsErrAnd}
use Rattle.lb_base.specs.declared.fault.Kind.{Kind}
use Rattle.lb_base.specs.declared.fault.Stop.{Stop}
use Rattle.lb_base.specs.declared.fault.Stop.TheVariants.{Memory, Fault, At}
use Rattle.lb_model.specs.declared.cells.Cells.{Ghosts}
use Rattle.lb_model.specs.Stops.{MayStopAt}
use Rattle.lb_model.specs.Told.{Told}

pub told_on : {S : Type 0} (C : Ghosts S) (new mid old : S) → Told C new mid → Told C mid old → Told C new old
told_on C new mid old a b = record {
  narrows = λ p h. b.narrows p (a.narrows p h);
  stays = λ p h. a.stays p h ∙ b.stays p (a.narrows p h);
  made = a.made ∙ b.made;
  loan = a.loan ∙ b.loan;
}

pub may_stop : (stop : Stop) (P Q : Kind → Type 0) → ((k : Kind) → P k → Q k) → MayStopAt stop P → MayStopAt stop Q
may_stop Memory P Q f h = tt
may_stop (Fault kind) P Q f h = f kind h
may_stop (At fault) P Q f h = h

-- a stop that is handed on
pub stopped_at : {T : Type 0} (r : Result T Stop) (stop : Stop) (P Q : Kind → Type 0) → IsErrAnd r (λ e. e ≡ stop) → ((k : Kind) → P k → Q k) → MayStopAt stop P → IfErr r (λ e. MayStopAt e Q)
stopped_at (Ok x) stop P Q same f h = tt
stopped_at (Err e) stop P Q same f h = subst (λ s. MayStopAt s Q) (sym same) (may_stop stop P Q f h)

-- the same of a whole result
pub err_at : {T : Type 0} (r : Result T Stop) (P Q : Kind → Type 0) → ((k : Kind) → P k → Q k) → IfErr r (λ e. MayStopAt e P) → IfErr r (λ e. MayStopAt e Q)
err_at (Ok x) P Q f h = tt
err_at (Err stop) P Q f h = may_stop stop P Q f h

pub ok_at : {T E : Type 0} (r : Result T E) (P Q : T → Type 0) → ((x : T) → P x → Q x) → IfOk r P → IfOk r Q
ok_at (Ok x) P Q f h = f x h
ok_at (Err e) P Q f h = tt

pub on_ok_at : {T E : Type 0} (r : Result T E) (P : T → Type 0) (Q : Type 0) → ((x : T) → P x → Q) → IfOk r P → OnOk r Q
on_ok_at (Ok x) P Q f h = f x h
on_ok_at (Err e) P Q f h = tt
