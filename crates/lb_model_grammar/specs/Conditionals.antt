-- Conditionals: what a test chooses, and where skipped text comes to a stop (TeXbook, chapter 20; tex.web, part 28, sections 494 to 510).
use Rattle.std.specs.Prelude.{◌==◌, ◌-◌, ◌&&◌, ◌%◌, Bool, true, false, not, ℕ, zero, suc, ℤ, nat_eq, nat_abs, int_lt, List, [], ◌∷◌, if◌then◌else◌}
use Rattle.lb_base.specs.declared.fault.Kind.TheVariants.{IfOpen}
use Rattle.lb_base.specs.declared.token.Tok.{Tok}
use Rattle.lb_model_grammar.specs.declared.given.Given.{Given}
use Rattle.lb_model_grammar.specs.declared.given.Given.TheVariants.{Tok as AToken}
use Rattle.lb_model_grammar.specs.declared.given.Want.TheVariants as want
use Rattle.lb_model_grammar.specs.declared.condition.Branch.{Branch}
use Rattle.lb_model_grammar.specs.declared.condition.Branch.TheVariants as branch
use Rattle.lb_model_grammar.specs.declared.condition.CondKind.{CondKind}
use Rattle.lb_model_grammar.specs.declared.condition.CondKind.TheVariants.{If, IfCat, IfNum, IfDim, IfOdd, IfCase}
use Rattle.lb_model_grammar.specs.declared.condition.Mark.{Mark}
use Rattle.lb_model_grammar.specs.declared.condition.Mark.TheVariants.{Opens, Stops, Passes}
use Rattle.lb_model_grammar.specs.declared.condition.Rel.{Rel}
use Rattle.lb_model_grammar.specs.declared.condition.Rel.TheVariants.{Less, Equal, Greater}
use Rattle.lb_model_grammar.specs.declared.condition.Sought.{Sought}
use Rattle.lb_model_grammar.specs.declared.condition.Sought.TheVariants.{Any, Nth, End as SoughtEnd}
use Rattle.lb_model_grammar.specs.declared.condition.Stopper.{Stopper}
use Rattle.lb_model_grammar.specs.declared.condition.Stopper.TheVariants.{Or, Else, Fi}
use Rattle.lb_model_grammar.specs.Scans.{Meant}
use Rattle.lb_model_grammar.specs.Scans.Meant.{Open, Ended, Wrong}

-- ---- What a test chooses

abbrev pub if_true : Bool → Branch
if_true true = branch.Then
if_true false = branch.Otherwise

abbrev pub is_related : Rel → ℤ → ℤ → Bool
is_related Less left right = int_lt left right
is_related Equal left right = not (int_lt left right) && not (int_lt right left)
is_related Greater left right = int_lt right left

abbrev pub chosen : CondKind → ℤ → ℤ → Branch
chosen If left right = if_true (is_related Equal left right)
chosen IfCat left right = if_true (is_related Equal left right)
chosen (IfNum rel) left right = if_true (is_related rel left right)
chosen (IfDim rel) left right = if_true (is_related rel left right)
chosen IfOdd left right = if_true (nat_eq (nat_abs left % 2) 1)
chosen IfCase left right = branch.Part left

-- ---- Text that is skipped

-- a part or the end, of no conditional inside the text: it is sought, or the text goes on. `\or` are counted
abbrev pub part_as : Stopper → Sought → (ℕ → Sought → Meant Stopper) → List Given → Meant Stopper
part_as Fi sought more given = Ended Fi given
part_as Or Any more given = Ended Or given
part_as Else Any more given = Ended Else given
part_as Or (Nth n) more given = if n == 1 then Ended Or given else more 0 (Nth (n - 1))
part_as Else (Nth n) more given = Ended Else given
part_as stopper SoughtEnd more given = more 0 SoughtEnd

-- a token of skipped text, at this level of conditionals inside it
abbrev pub stop_as : Mark → ℕ → Sought → (ℕ → Sought → Meant Stopper) → List Given → Meant Stopper
stop_as Opens level sought more given = more (suc level) sought
stop_as (Stops stopper) zero sought more given = part_as stopper sought more given
stop_as (Stops Fi) (suc level) sought more given = more level sought
stop_as (Stops stopper) level sought more given = more level sought
stop_as Passes level sought more given = more level sought

-- skipped text comes to its stop, where tokens have these marks
abbrev pub stop : (Tok → Mark) → ℕ → Sought → List Given → Meant Stopper
stop marks level sought [] = Open want.Plain
stop marks level sought (AToken t ∷ given) = stop_as (marks t) level sought (λ l s. stop marks l s given) given
stop marks level sought (g ∷ given) = Wrong IfOpen
