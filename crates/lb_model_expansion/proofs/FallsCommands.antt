-- No command that is expanded leaves more steps than there were.
use Rattle.std.proofs.Common.{◌≤◌, ℕ, List, arith}
use Rattle.lb_base.specs.declared.token.Tok.{Tok}
use Rattle.lb_values.specs.declared.value.Form.{Form}
use Rattle.lb_model_grammar.specs.declared.condition.Branch.{Branch}
use Rattle.lb_model_grammar.specs.declared.condition.Stopper.{Stopper}
use Rattle.lb_model.specs.declared.expandable.TestKind.{TestKind}
use Rattle.lb_model.specs.declared.open.Conditional.{Conditional}
use Rattle.lb_model.specs.declared.open.Purpose.{Purpose}
use Rattle.lb_model.specs.Configs.{Config}
use Rattle.lb_model_expansion.specs.Expansion.{counter_printed, decided, part_met, test_begun, test_opened, word_opened}
use Rattle.lb_model_expansion.specs.Steps.{Performed, and_as, and_then}
use Rattle.lb_model_expansion.specs.declared.expansion.Went.{Went}
use Rattle.lb_model_expansion.proofs.FallsReadings.{taken-falls, taken_by-falls}

-- no more than n steps are left
abbrev pub Within : ℕ → Performed → Type 0
Within n p = p.done.next.left ≤ n

and_as-falls : (n : ℕ) (w : Went) (p q : Performed) → Within n p → Within n q → Within n (and_as w p q)
and_as-falls n w p q h k = grind arith

pub and_then-falls : (n : ℕ) (p : Performed) (more : Config → Performed)
    → Within n p → ((d : Config) → d.left ≤ n → Within n (more d)) → Within n (and_then p more)
and_then-falls n p more h k = and_as-falls n p.done.went p (more p.done.next) h (k p.done.next h)

-- ---- Conditionals

pub decided-falls : (n : ℕ) (branch : Branch) (c : Config) → c.left ≤ n → Within n (decided branch c)
decided-falls n branch c h = grind (arith, taken-falls)

pub part_met-falls : (n : ℕ) (stopper : Stopper) (tok : Tok) (parts : List Conditional) (c : Config) → c.left ≤ n → Within n (part_met stopper tok parts c)
part_met-falls n stopper tok parts c h = grind (arith, taken-falls)

test_begun-falls : (n : ℕ) (t : TestKind) (c : Config) → c.left ≤ n → Within n (test_begun t c)
test_begun-falls n t c h = grind (arith, taken-falls, taken_by-falls, decided-falls)

pub test_opened-falls : (n : ℕ) (t : TestKind) (c : Config) → c.left ≤ n → Within n (test_opened t c)
test_opened-falls n t c h = grind (arith, taken-falls, test_begun-falls)

-- ---- Names and counters

pub word_opened-falls : (n : ℕ) (purpose : Purpose) (c : Config) → c.left ≤ n → Within n (word_opened purpose c)
word_opened-falls n purpose c h = grind (arith, taken-falls)

pub counter_printed-falls : (n : ℕ) (form : Form) (name : List ℕ) (c : Config) → c.left ≤ n → Within n (counter_printed form name c)
counter_printed-falls n form name c h = grind arith
