-- Open conditionals, and the text of them that is skipped (TeXbook, chapter 20; tex.web, part 28).
use Rattle.std.specs.Prelude.{Bool, true, false, ℕ, suc, List, [], ◌∷◌, if◌then◌else◌}
use Rattle.lb_base.specs.declared.fault.Kind.TheVariants.{ExtraFi}
use Rattle.lb_values.specs.declared.cell.Cell.{Cell}
use Rattle.lb_model_grammar.specs.declared.condition.CondKind.{CondKind}
use Rattle.lb_model_grammar.specs.declared.condition.CondKind.TheVariants.{IfNum, IfDim}
use Rattle.lb_model_grammar.specs.declared.condition.Rel.{Rel}
use Rattle.lb_model_grammar.specs.declared.condition.Sought.{Sought}
use Rattle.lb_model_grammar.specs.declared.condition.Sought.TheVariants.{Any}
use Rattle.lb_model_grammar.specs.declared.condition.Stopper.{Stopper}
use Rattle.lb_model_grammar.specs.declared.condition.Stopper.TheVariants.{Or, Else, Fi}
use Rattle.lb_model_grammar.specs.Conditionals.{stop}
use Rattle.lb_model.specs.declared.open.Compared.{Compared}
use Rattle.lb_model.specs.declared.open.Compared.TheVariants.{Numbers, Dimensions}
use Rattle.lb_model.specs.declared.open.Conditional.{Conditional}
use Rattle.lb_model.specs.declared.open.Conditional.TheVariants.{Deciding, Then, Case, Otherwise}
use Rattle.lb_model.specs.Configs.{Config, meaning_now, plain}
use Rattle.lb_model.specs.Expandables.{mark_of}
use Rattle.lb_model.specs.Readings.{Took, failed, looks_taken, looks_with_meaning, taken}

-- a relation between two numbers or dimensions
abbrev pub comparison : Compared → Rel → CondKind
comparison Numbers rel = IfNum rel
comparison Dimensions rel = IfDim rel

-- ---- Text that is skipped

-- the stop of skipped text that is sought, where so many conditionals inside the one that is meant are open
abbrev pub skipped : ℕ → Sought → Config → Took Stopper
skipped level sought c = taken plain (stop (λ tok. mark_of (meaning_now c tok)) level sought) c

-- the cells that are looked at on the way: the categories of codes, and the meaning of each token that has one
abbrev pub looks_skipped : ℕ → Sought → Config → List Cell
looks_skipped level sought c = looks_taken plain looks_with_meaning (stop (λ tok. mark_of (meaning_now c tok)) level sought) c

-- ---- Open conditionals, the innermost first

abbrev pub is_deciding : Conditional → Bool
is_deciding Deciding = true
is_deciding other = false

-- how many stand inside the innermost one whose condition is read
abbrev pub inside : List Conditional → ℕ
inside [] = 0
inside (c ∷ conditionals) = if is_deciding c then 0 else suc (inside conditionals)

-- a part of it is read from now on
abbrev pub decided_as : Conditional → List Conditional → List Conditional
decided_as part [] = []
decided_as part (c ∷ conditionals) = if is_deciding c then part ∷ conditionals else c ∷ decided_as part conditionals

-- whether a part may end here: `\fi` ends each, `\else` the one before it, and `\or` one of cases
abbrev pub may_end : Stopper → Conditional → Bool
may_end Fi Deciding = false
may_end Fi c = true
may_end Else Then = true
may_end Else Case = true
may_end Else c = false
may_end Or Case = true
may_end Or c = false

-- the open conditionals once the text of a part of the innermost one is skipped to this stop: `\fi` closes it, and behind the others another
-- part of it is read
abbrev pub passed : Stopper → List Conditional → List Conditional
passed stopper [] = []
passed Fi (c ∷ conditionals) = conditionals
passed Else (c ∷ conditionals) = Otherwise ∷ conditionals
passed Or (c ∷ conditionals) = Case ∷ conditionals

-- the next stop of the innermost conditional, for which one has to be open
abbrev pub skipped_of : List Conditional → Config → Took Stopper
skipped_of [] c = failed ExtraFi c
skipped_of (x ∷ conditionals) c = skipped 0 Any c

abbrev pub looks_skipped_of : List Conditional → Config → List Cell
looks_skipped_of [] c = []
looks_skipped_of (x ∷ conditionals) c = looks_skipped 0 Any c
