-- What is read leaves no more steps than there were.
use Rattle.std.proofs.Common.{◌≤◌, ℕ, zero, suc, Bool, false, List, [], ◌∷◌, arith}
use Rattle.lb_base.specs.declared.token.Tok.{Tok}
use Rattle.lb_values.specs.declared.meaning.Pattern.{Pattern}
use Rattle.lb_model_grammar.specs.declared.given.Given.{Given}
use Rattle.lb_model_grammar.specs.declared.condition.Sought.{Sought}
use Rattle.lb_model_grammar.specs.Arguments.{argument}
use Rattle.lb_model_grammar.specs.Scans.{Meant}
use Rattle.lb_model.specs.declared.place.Got.{Got}
use Rattle.lb_model.specs.Arguments.{arguments, each_argument, plain_arguments}
use Rattle.lb_model.specs.Conditionals.{skipped}
use Rattle.lb_model.specs.Configs.{Config, in_file, taken_by}
use Rattle.lb_model.specs.Readings.{Took, taken, taken_as, taken_within, behind_got, unless_fault}
use Rattle.lb_model.specs.Sources.{stepped}

pub stepped-falls : (got : Got) (left : ℕ) → (stepped got left).1 ≤ left
stepped-falls got left = grind arith

pub taken_by-falls : (passes : Bool) (c : Config) → (taken_by passes c).next.left ≤ c.left
taken_by-falls passes c = grind (arith, stepped-falls)

taken_as-falls : {X : Type 0} (n : ℕ) (m : Meant X) (c : Config) (more : Took X) → c.left ≤ n → more.next.left ≤ n → (taken_as m c more).next.left ≤ n
taken_as-falls n m c more h k = grind arith

unless_fault-falls : {X : Type 0} (n : ℕ) (got : Got) (c : Config) (more : Took X) → c.left ≤ n → more.next.left ≤ n → (unless_fault got c more).next.left ≤ n
unless_fault-falls n got c more h k = grind arith

taken_within-falls : {X : Type 0} (passes : Bool) (turns n : ℕ) (m : List Given → Meant X) (c : Config)
    → c.left ≤ n → (taken_within (taken_by passes) turns m c).next.left ≤ n
taken_within-falls passes zero n m c h = taken_as-falls n (m []) c _ h h
taken_within-falls passes (suc turns) n m c h =
    let t = taken_by passes c in
    let k : t.next.left ≤ n = omega (arith, taken_by-falls passes c) in
    taken_as-falls n (m []) c _ h (unless_fault-falls n t.got t.next _ k (taken_within-falls passes turns n (behind_got t.got m) t.next k))

pub taken-falls : {X : Type 0} (passes : Bool) (m : List Given → Meant X) (c : Config) → (taken (taken_by passes) m c).next.left ≤ c.left
unfolding taken
taken-falls passes m c = taken_within-falls passes (suc (suc c.left)) c.left m c (omega arith)

each_argument-falls : (n : ℕ) (long : Bool) (delimiters : List (List Tok)) (c : Config) → c.left ≤ n → (each_argument long delimiters c).next.left ≤ n
each_argument-falls n long [] c h = h
each_argument-falls n long (delimiter ∷ delimiters) c h =
    let t = taken in_file (argument long delimiter) c in
    let k : t.next.left ≤ n = omega (arith, taken-falls false (argument long delimiter) c) in
    grind (arith, k, each_argument-falls n long delimiters t.next k)

plain_arguments-falls : (n : ℕ) (pattern : Pattern) (c : Config) → c.left ≤ n → (plain_arguments pattern c).next.left ≤ n
plain_arguments-falls n pattern c h = grind (arith, taken-falls, each_argument-falls)

pub arguments-falls : (pattern : Pattern) (c : Config) → (arguments pattern c).next.left ≤ c.left
arguments-falls pattern c = grind (arith, taken-falls, plain_arguments-falls)

pub skipped-falls : (level : ℕ) (sought : Sought) (c : Config) → (skipped level sought c).next.left ≤ c.left
skipped-falls level sought c = grind (arith, taken-falls)
