-- What is read leaves the mode as it was.
use Rattle.std.proofs.Common.{◌≡◌, ℕ, zero, suc, Bool, false, List, [], ◌∷◌, ◌∙◌, refl, arith}
use Rattle.lb_base.specs.declared.token.Tok.{Tok}
use Rattle.lb_values.specs.declared.meaning.Pattern.{Pattern}
use Rattle.lb_model_grammar.specs.declared.given.Given.{Given}
use Rattle.lb_model_grammar.specs.declared.condition.Sought.{Sought}
use Rattle.lb_model_grammar.specs.Arguments.{argument}
use Rattle.lb_model_grammar.specs.Scans.{Meant}
use Rattle.lb_model.specs.declared.place.Got.{Got}
use Rattle.lb_model.specs.Arguments.{arguments, each_argument, plain_arguments}
use Rattle.lb_model.specs.Conditionals.{skipped}
use Rattle.lb_model.specs.declared.place.Mode.{Mode}
use Rattle.lb_model.specs.Configs.{Config, in_file, taken_by}
use Rattle.lb_model.specs.Readings.{Took, taken, taken_as, taken_within, behind_got, unless_fault}

pub taken_by-stays : (passes : Bool) (c : Config) → (taken_by passes c).next.mode ≡ c.mode
taken_by-stays passes c = refl

taken_as-stays : {X : Type 0} (n : Mode) (m : Meant X) (c : Config) (more : Took X) → c.mode ≡ n → more.next.mode ≡ n → (taken_as m c more).next.mode ≡ n
taken_as-stays n m c more h k = grind arith

unless_fault-stays : {X : Type 0} (n : Mode) (got : Got) (c : Config) (more : Took X) → c.mode ≡ n → more.next.mode ≡ n → (unless_fault got c more).next.mode ≡ n
unless_fault-stays n got c more h k = grind arith

taken_within-stays : {X : Type 0} (passes : Bool) (turns : ℕ) (n : Mode) (m : List Given → Meant X) (c : Config)
    → c.mode ≡ n → (taken_within (taken_by passes) turns m c).next.mode ≡ n
taken_within-stays passes zero n m c h = taken_as-stays n (m []) c _ h h
taken_within-stays passes (suc turns) n m c h =
    let t = taken_by passes c in
    let k : t.next.mode ≡ n = taken_by-stays passes c ∙ h in
    taken_as-stays n (m []) c _ h (unless_fault-stays n t.got t.next _ k (taken_within-stays passes turns n (behind_got t.got m) t.next k))

pub taken-stays : {X : Type 0} (passes : Bool) (m : List Given → Meant X) (c : Config) → (taken (taken_by passes) m c).next.mode ≡ c.mode
unfolding taken
taken-stays passes m c = taken_within-stays passes (suc (suc c.left)) c.mode m c refl

each_argument-stays : (n : Mode) (long : Bool) (delimiters : List (List Tok)) (c : Config) → c.mode ≡ n → (each_argument long delimiters c).next.mode ≡ n
each_argument-stays n long [] c h = h
each_argument-stays n long (delimiter ∷ delimiters) c h =
    let t = taken in_file (argument long delimiter) c in
    let k : t.next.mode ≡ n = taken-stays false (argument long delimiter) c ∙ h in
    grind (arith, k, each_argument-stays n long delimiters t.next k)

plain_arguments-stays : (n : Mode) (pattern : Pattern) (c : Config) → c.mode ≡ n → (plain_arguments pattern c).next.mode ≡ n
plain_arguments-stays n pattern c h = grind (arith, taken-stays, each_argument-stays)

pub arguments-stays : (pattern : Pattern) (c : Config) → (arguments pattern c).next.mode ≡ c.mode
arguments-stays pattern c = grind (arith, taken-stays, plain_arguments-stays)

pub skipped-stays : (level : ℕ) (sought : Sought) (c : Config) → (skipped level sought c).next.mode ≡ c.mode
skipped-stays level sought c = grind (arith, taken-stays)
