-- The innermost conditional and those around it.
use Rattle.std.proofs.Common.{◌≡◌, Bool, false, ℕ, suc, List, [], ◌∷◌, Some, length, refl, ap, arith}
use Rattle.std.specs.Prelude.{Result, nat_eq}
use Rattle.lb_base.specs.declared.fault.Stop.{Stop}
use Rattle.lb_model.specs.declared.feed.Feed.{Ghosts}
use Rattle.lb_model.specs.declared.open.Conditional.{Conditional}
use Rattle.lb_model.specs.Conditionals.{looks_skipped, looks_skipped_of, skipped, skipped_of}
use Rattle.lb_model.specs.Fed.{Reads}
use Rattle.lb_model_grammar.specs.declared.condition.Sought.TheVariants.{Any}
use Rattle.lb_model_grammar.specs.declared.condition.Stopper.{Stopper}
use Rattle.lb_cond.specs.Open.{conditionals_of, innermost, replaced}

pub replaced_of : (part inner : Conditional) (around : List Conditional) → conditionals_of part around ≡ replaced part (conditionals_of inner around)
replaced_of part inner [] = refl
replaced_of part inner (c ∷ around) = refl

pub length_of : (inner : Conditional) (around : List Conditional) → length (conditionals_of inner around) ≡ length around
length_of inner [] = refl
length_of inner (c ∷ around) = ap suc (length_of c around)

pub innermost_of : (inner : Conditional) (around : List Conditional) (e : Bool) → e ≡ nat_eq (length around) 0 → e ≡ false → Some inner ≡ innermost (conditionals_of inner around)
innermost_of inner [] e h f = grind arith
innermost_of inner (c ∷ around) e h f = refl

-- where a conditional is open, the text of the innermost one is skipped
pub open_reads : {S : Type 0} (F : Ghosts S) (conditionals : List Conditional) (result : Result Stopper Stop) (new old : S) (n : ℕ) → n ≡ length conditionals → (n ≡ 0 → ⊥)
    → Reads F (skipped 0 Any) (looks_skipped 0 Any) result new old → Reads F (skipped_of conditionals) (looks_skipped_of conditionals) result new old
open_reads F [] result new old n e h r = absurd (h e)
open_reads F (c ∷ conditionals) result new old n e h r = r
