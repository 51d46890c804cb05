-- No command that is expanded changes the mode.
use Rattle.std.proofs.Common.{◌≡◌, ℕ, List, arith}
use Rattle.lb_base.specs.declared.token.Tok.{Tok}
use Rattle.lb_values.specs.declared.value.Form.{Form}
use Rattle.lb_model_grammar.specs.declared.condition.Branch.{Branch}
use Rattle.lb_model_grammar.specs.declared.condition.Stopper.{Stopper}
use Rattle.lb_model.specs.declared.expandable.TestKind.{TestKind}
use Rattle.lb_model.specs.declared.open.Conditional.{Conditional}
use Rattle.lb_model.specs.declared.open.Purpose.{Purpose}
use Rattle.lb_model.specs.declared.place.Mode.{Mode}
use Rattle.lb_model.specs.Configs.{Config}
use Rattle.lb_model_expansion.specs.Expansion.{counter_printed, decided, part_met, test_begun, test_opened, word_opened}
use Rattle.lb_model_expansion.specs.Steps.{Performed, and_as, and_then}
use Rattle.lb_model_expansion.specs.declared.expansion.Went.{Went}
use Rattle.lb_engine.proofs.ModesOfReadings.{taken-stays, taken_by-stays}

-- the mode is this
abbrev pub Within : Mode → Performed → Type 0
Within n p = p.done.next.mode ≡ n

and_as-stays : (n : Mode) (w : Went) (p q : Performed) → Within n p → Within n q → Within n (and_as w p q)
and_as-stays n w p q h k = grind arith

pub and_then-stays : (n : Mode) (p : Performed) (more : Config → Performed)
    → Within n p → ((d : Config) → d.mode ≡ n → Within n (more d)) → Within n (and_then p more)
and_then-stays n p more h k = and_as-stays n p.done.went p (more p.done.next) h (k p.done.next h)

-- ---- Conditionals

pub decided-stays : (n : Mode) (branch : Branch) (c : Config) → c.mode ≡ n → Within n (decided branch c)
decided-stays n branch c h = grind (arith, taken-stays)

pub part_met-stays : (n : Mode) (stopper : Stopper) (tok : Tok) (parts : List Conditional) (c : Config) → c.mode ≡ n → Within n (part_met stopper tok parts c)
part_met-stays n stopper tok parts c h = grind (arith, taken-stays)

test_begun-stays : (n : Mode) (t : TestKind) (c : Config) → c.mode ≡ n → Within n (test_begun t c)
test_begun-stays n t c h = grind (arith, taken-stays, taken_by-stays, decided-stays)

pub test_opened-stays : (n : Mode) (t : TestKind) (c : Config) → c.mode ≡ n → Within n (test_opened t c)
test_opened-stays n t c h = grind (arith, taken-stays, test_begun-stays)

-- ---- Names and counters

pub word_opened-stays : (n : Mode) (purpose : Purpose) (c : Config) → c.mode ≡ n → Within n (word_opened purpose c)
word_opened-stays n purpose c h = grind (arith, taken-stays)

pub counter_printed-stays : (n : Mode) (form : Form) (name : List ℕ) (c : Config) → c.mode ≡ n → Within n (counter_printed form name c)
counter_printed-stays n form name c h = grind arith
