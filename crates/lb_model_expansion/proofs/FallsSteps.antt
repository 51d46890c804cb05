-- No step of expansion leaves more steps than there were.
use Rattle.std.proofs.Common.{◌≡◌, ◌≤◌, ◌++◌, ℕ, zero, suc, List, [], ◌∷◌, ap, arith}
use Rattle.std.specs.Prelude.{Option, Some, None}
use Rattle.lb_base.specs.declared.token.Tok.{Tok}
use Rattle.lb_values.specs.declared.meaning.MacroDef.{MacroDef}
use Rattle.lb_values.specs.declared.meaning.Meaning.{Meaning}
use Rattle.lb_values.specs.declared.meaning.Meaning.TheVariants as meaning
use Rattle.lb_model_grammar.specs.declared.given.Given.{Given}
use Rattle.lb_model_grammar.specs.declared.given.Given.TheVariants.{Tok as AToken}
use Rattle.lb_model_grammar.specs.declared.given.Quantity.{Quantity as Amount}
use Rattle.lb_model_grammar.specs.declared.given.Quantity.TheVariants.{NotOne}
use Rattle.lb_model_grammar.specs.declared.given.ScanKind.{ScanKind}
use Rattle.lb_model_grammar.specs.declared.given.Scanned.{Scanned}
use Rattle.lb_model_grammar.specs.declared.given.Want.{Want}
use Rattle.lb_model_grammar.specs.declared.given.Want.TheVariants.{Quantity}
use Rattle.lb_model_grammar.specs.Dimensions.{meant}
use Rattle.lb_model_grammar.specs.Scans.{Meant}
use Rattle.lb_model.specs.declared.expandable.Expandable.{Expandable}
use Rattle.lb_model.specs.declared.open.Purpose.{Purpose}
use Rattle.lb_model.specs.declared.open.Purpose.TheVariants.{Asked}
use Rattle.lb_model.specs.declared.open.ReadingKind.{ReadingKind}
use Rattle.lb_model.specs.declared.open.ReadingKind.TheVariants as reading
use Rattle.lb_model.specs.declared.place.Got.{Got}
use Rattle.lb_model.specs.Configs.{Config, Reading, meaning_now, taken_by}
use Rattle.lb_model.specs.Expandables.{expandable}
use Rattle.lb_model.specs.Quantities.{Internal, internal_in}
use Rattle.lb_model.specs.Quantities.Internal.{Known, Picked, Tokens}
use Rattle.lb_model.proofs.TakenLemmas.{falls}
use Rattle.lb_model_paper.specs.FoundFonts.{FontFound}
use Rattle.lb_model_expansion.specs.Expansion.{asked_of, at_end, body_asked, expanded, font_size, got_met, handed, handed_to, holding, internal_given, internal_to, macro_expanded, met_as, most_turns, next, next_from, opened, opened_uncounted, present_font, quantity_asked, quantity_met, ran, resume, resumed, row_met, scan_as, scan_asked, scan_closed, scan_quantity, scan_token, step, word_asked, word_met, word_opened}
use Rattle.lb_model_expansion.specs.Laws.{NeverRise, TokenTakesAStep}
use Rattle.lb_model_expansion.specs.Steps.{Performed, and_then, ends_pass}
use Rattle.lb_model_expansion.proofs.FallsCommands.{Within, and_then-falls, counter_printed-falls, decided-falls, part_met-falls, test_opened-falls, word_opened-falls}
use Rattle.lb_model_expansion.proofs.FallsReadings.{arguments-falls, taken-falls, taken_by-falls}

-- ---- Readings that go on: what they do with what was read leaves no more than n steps

abbrev MoreWithin : ℕ → (Internal → Config → Performed) → Type 0
MoreWithin n more = (i : Internal) (d : Config) → d.left ≤ n → Within n (more i d)

scan_closed-falls : (n : ℕ) (p : Purpose) (s : Scanned) (after : List Tok) (more : Internal → Config → Performed) (c : Config)
    → MoreWithin n more → c.left ≤ n → Within n (scan_closed p s after more c)
scan_closed-falls n p s after more c g h = grind (arith, g, taken-falls, decided-falls)

scan_as-falls : (n : ℕ) (m : Meant Scanned) (k : ScanKind) (p : Purpose) (given : List Given) (asked : Want → Performed)
    (more : Internal → Config → Performed) (c : Config)
    → ((w : Want) → Within n (asked w)) → MoreWithin n more → c.left ≤ n → Within n (scan_as m k p given asked more c)
scan_as-falls n m k p given asked more c a g h = grind (arith, a, g, scan_closed-falls)

scan_quantity-falls : (n : ℕ) (k : ScanKind) (p : Purpose) (given : List Given) (q : Amount) (more : Internal → Config → Performed) (c : Config)
    → MoreWithin n more → c.left ≤ n → Within n (scan_quantity k p given q more c)
scan_quantity-falls n k p given q more c g h = grind (arith, g, scan_as-falls)

internal_to-falls : (n : ℕ) (r : ReadingKind) (given : List Given) (i : Internal) (more : Internal → Config → Performed) (c : Config)
    → MoreWithin n more → c.left ≤ n → Within n (internal_to r given i more c)
internal_to-falls n (reading.Scan k p) given (Known q) more c g h = scan_quantity-falls n k p given q more c g h
internal_to-falls n (reading.Scan k p) given (Tokens toks) more c g h = scan_quantity-falls n k p given NotOne more c g h
internal_to-falls n (reading.Scan k p) given (Picked i) more c g h = grind (arith, scan_quantity-falls n k p given NotOne more c g h)
internal_to-falls n r given i more c g h = grind (arith, taken-falls)

internal_given-falls : (n : ℕ) (l : List Reading) → MoreWithin n (internal_given l)
internal_given-falls n [] i d h = h
internal_given-falls n (r ∷ l) i d h = internal_to-falls n r.kind r.given i (internal_given l) (record d { readings = l }) (internal_given-falls n l) h

font_size-falls : (n : ℕ) (f : FontFound) (w : Want) (k : ScanKind) (p : Purpose) (given : List Given) (more : Internal → Config → Performed) (c : Config)
    → MoreWithin n more → c.left ≤ n → Within n (font_size f w k p given more c)
font_size-falls n f w k p given more c g h = grind (arith, g, scan_quantity-falls)

asked_of-falls : (n : ℕ) (w : Want) (m : Option Meaning) (k : ScanKind) (p : Purpose) (all : List Given) (more : Internal → Config → Performed) (c : Config)
    → MoreWithin n more → c.left ≤ n → Within n (asked_of w m k p all more c)
asked_of-falls n Quantity m k p all more c g h = internal_to-falls n (reading.Scan k p) all (internal_in c.world c.cells.now m) more c g h
asked_of-falls n w m k p all more c g h = font_size-falls n (present_font c) w k p all more c g h

scan_token-falls : (n : ℕ) (m : Option Meaning) (k : ScanKind) (p : Purpose) (given : List Given) (more : Internal → Config → Performed) (c : Config)
    → MoreWithin n more → c.left ≤ n → Within n (scan_token m k p given more c)
scan_token-falls n m k p given more c g h =
    scan_as-falls n (meant k given) k p given (λ w. asked_of w m k p given more c) more c (λ w. asked_of-falls n w m k p given more c g h) g h

word_met-falls : (n : ℕ) (m : Meant (List ℕ)) (p : Purpose) (given : List Given) (more : Internal → Config → Performed) (c : Config)
    → MoreWithin n more → c.left ≤ n → Within n (word_met m p given more c)
word_met-falls n m p given more c g h = grind (arith, g, counter_printed-falls)

-- ---- Tokens

handed_to-falls : (n : ℕ) (m : Option Meaning) (tok : Tok) (r : ReadingKind) (given : List Given) (more : Internal → Config → Performed) (c : Config)
    → MoreWithin n more → c.left ≤ n → Within n (handed_to m tok r given more c)
handed_to-falls n m tok (reading.Scan k p) given more c g h = scan_token-falls n m k p (given ++ AToken tok ∷ []) more c g h
handed_to-falls n m tok reading.The given more c g h = internal_to-falls n reading.The given (internal_in c.world c.cells.now m) more c g h
handed_to-falls n m tok r given more c g h = grind (arith, g, word_met-falls, taken-falls)

handed-falls : (n : ℕ) (m : Option Meaning) (tok : Tok) (l : List Reading) (c : Config) → c.left ≤ n → Within n (handed m tok l c)
handed-falls n m tok l c h = grind (arith, handed_to-falls, internal_given-falls)

at_end-falls : (n : ℕ) (l : List Reading) (c : Config) → c.left ≤ n → Within n (at_end l c)
at_end-falls n l c h = grind (arith, scan_token-falls, internal_given-falls)

expanded-falls : (n : ℕ) (e : Expandable) (row : Tok) (c : Config) → c.left ≤ n → Within n (expanded e row c)
expanded-falls n e row c h =
    grind (arith, taken_by-falls, taken-falls, handed-falls, test_opened-falls, part_met-falls, word_opened-falls, counter_printed-falls)

macro_expanded-falls : (n : ℕ) (d : MacroDef) (c : Config) → c.left ≤ n → Within n (macro_expanded d c)
macro_expanded-falls n d c h = grind (arith, arguments-falls)

row_met-falls : (n : ℕ) (e : Option Expandable) (m : Option Meaning) (tok : Tok) (c : Config) → c.left ≤ n → Within n (row_met e m tok c)
row_met-falls n (Some e) m tok c h = expanded-falls n e tok (holding c) h
row_met-falls n None m tok c h = handed-falls n m tok c.readings c h

met_as-falls : (n : ℕ) (m : Option Meaning) (tok : Tok) (c : Config) → c.left ≤ n → Within n (met_as m tok c)
met_as-falls n (Some (meaning.Macro d)) tok c h = macro_expanded-falls n d (holding c) h
met_as-falls n (Some (meaning.Row row)) tok c h = row_met-falls n (expandable row) (Some (meaning.Row row)) tok c h
met_as-falls n m tok c h = grind (arith, handed-falls)

got_met-falls : (n : ℕ) (got : Got) (c : Config) → c.left ≤ n → Within n (got_met got c)
got_met-falls n got c h = grind (arith, met_as-falls, handed-falls, at_end-falls)

-- ---- Steps

resume-falls : (n : ℕ) (l : List Reading) (c : Config) → c.left ≤ n → Within n (resume l c)
resume-falls n [] c h = h
resume-falls n (r ∷ l) c h = grind (arith, and_then-falls, resume-falls n l)

resumed-falls : (n : ℕ) (got : Got) (c : Config) → c.left ≤ n → Within n (resumed (got_met got c))
resumed-falls n got c h = and_then-falls n (got_met got c) (λ d. resume d.readings d) (got_met-falls n got c h) (λ d. resume-falls n d.readings d)

pub step-falls : NeverRise step
unfolding step
step-falls c = let t = taken_by (ends_pass c.readings) c in resumed-falls c.left t.got t.next (taken_by-falls (ends_pass c.readings) c)

pub step-token : TokenTakesAStep
unfolding step
step-token c tok e =
    let t = taken_by (ends_pass c.readings) c in
    let k : c.left ≡ suc t.next.left = falls (ends_pass c.readings) c t.next tok (ap (λ got. record { got = got; next = t.next }) e) in
    let h : (resumed (got_met t.got t.next)).done.next.left ≤ t.next.left = resumed-falls t.next.left t.got t.next (omega arith) in
    omega arith

next_from-falls : (turns : ℕ) (c : Config) → (next_from turns c).next.left ≤ c.left
unfolding next_from
next_from-falls zero c = omega arith
next_from-falls (suc turns) c = grind (arith, step-falls, next_from-falls turns (step c).done.next)

-- ---- What a caller asks for

pub ran-falls : NeverRise ran
unfolding next
ran-falls c = next_from-falls most_turns c

pub then-ran : (n : ℕ) (p : Performed) → Within n p → Within n (and_then p ran)
then-ran n p h = and_then-falls n p ran h (λ d k. omega (arith, ran-falls d))

pub scan_asked-falls : (k : ScanKind) → NeverRise (scan_asked k)
scan_asked-falls k c = then-ran c.left (opened (reading.Scan k Asked) c) (grind arith)

pub quantity_asked-falls : (tok : Tok) → NeverRise (quantity_asked tok)
quantity_asked-falls tok c =
    let i = internal_in c.world c.cells.now (meaning_now c tok) in
    let g : MoreWithin c.left (internal_given c.readings) = internal_given-falls c.left c.readings in
    then-ran c.left (quantity_met tok c) (internal_to-falls c.left reading.Quantity [] i (internal_given c.readings) c g (omega arith))

pub word_asked-falls : NeverRise word_asked
word_asked-falls c = then-ran c.left (word_opened Asked c) (word_opened-falls c.left Asked c (omega arith))

pub body_asked-falls : NeverRise body_asked
body_asked-falls c = then-ran c.left (opened_uncounted reading.Body c) (omega arith)
