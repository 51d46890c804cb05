-- No step of expansion changes the mode.
use Rattle.std.proofs.Common.{◌≡◌, ◌≡◌, ◌++◌, ℕ, zero, suc, List, [], ◌∷◌, ◌∙◌, refl, arith}
use Rattle.std.specs.Prelude.{Option, Some, None}
use Rattle.lb_base.specs.declared.token.Tok.{Tok}
use Rattle.lb_values.specs.declared.meaning.MacroDef.{MacroDef}
use Rattle.lb_values.specs.declared.meaning.Meaning.{Meaning}
use Rattle.lb_values.specs.declared.meaning.Meaning.TheVariants as meaning
use Rattle.lb_model_grammar.specs.declared.given.Given.{Given}
use Rattle.lb_model_grammar.specs.declared.given.Given.TheVariants.{Tok as AToken}
use Rattle.lb_model_grammar.specs.declared.given.Quantity.{Quantity as Amount}
use Rattle.lb_model_grammar.specs.declared.given.Quantity.TheVariants.{NotOne}
use Rattle.lb_model_grammar.specs.declared.given.ScanKind.{ScanKind}
use Rattle.lb_model_grammar.specs.declared.given.Scanned.{Scanned}
use Rattle.lb_model_grammar.specs.declared.given.Want.{Want}
use Rattle.lb_model_grammar.specs.declared.given.Want.TheVariants.{Quantity}
use Rattle.lb_model_grammar.specs.Dimensions.{meant}
use Rattle.lb_model_grammar.specs.Scans.{Meant}
use Rattle.lb_model.specs.declared.expandable.Expandable.{Expandable}
use Rattle.lb_model.specs.declared.open.Purpose.{Purpose}
use Rattle.lb_model.specs.declared.expandable.Expandable.TheVariants as expandable
use Rattle.lb_model.specs.declared.open.Purpose.TheVariants.{Asked, Print as PrintCounter}
use Rattle.lb_model.specs.declared.open.ReadingKind.{ReadingKind}
use Rattle.lb_model.specs.declared.open.ReadingKind.TheVariants as reading
use Rattle.lb_model.specs.declared.place.Got.{Got}
use Rattle.lb_model.specs.declared.place.Mode.{Mode}
use Rattle.lb_model.specs.Configs.{Config, Reading, meaning_now, taken_by}
use Rattle.lb_model.specs.Expandables.{expandable as row_of}
use Rattle.lb_model.specs.Quantities.{Internal, internal_in}
use Rattle.lb_model.specs.Quantities.Internal.{Known, Picked, Tokens}
use Rattle.lb_model_paper.specs.FoundFonts.{FontFound}
use Rattle.lb_model_expansion.specs.Expansion.{asked_of, at_end, body_asked, expanded, font_size, got_met, handed, handed_to, holding, if_room, internal_given, internal_to, macro_expanded, met_as, most_turns, next, next_from, opened, opened_uncounted, present_font, quantity_asked, quantity_met, ran, resume, resumed, row_met, scan_as, scan_asked, scan_closed, scan_quantity, scan_token, step, word_asked, word_behind, word_met, word_opened}
use Rattle.lb_model_expansion.specs.Steps.{Performed, and_then, ends_pass}
use Rattle.lb_engine.proofs.ModesOfCommands.{Within, and_then-stays, counter_printed-stays, decided-stays, part_met-stays, test_opened-stays, word_opened-stays}
use Rattle.lb_engine.proofs.ModesOfReadings.{arguments-stays, taken-stays, taken_by-stays}

abbrev KeepsMode : (Config → Performed) → Type 0
KeepsMode act = (c : Config) → (act c).done.next.mode ≡ c.mode

-- ---- Readings that go on: what they do with what was read leaves the mode as it was

abbrev MoreWithin : Mode → (Internal → Config → Performed) → Type 0
MoreWithin n more = (i : Internal) (d : Config) → d.mode ≡ n → Within n (more i d)

scan_closed-stays : (n : Mode) (p : Purpose) (s : Scanned) (after : List Tok) (more : Internal → Config → Performed) (c : Config)
    → MoreWithin n more → c.mode ≡ n → Within n (scan_closed p s after more c)
scan_closed-stays n p s after more c g h = grind (arith, g, taken-stays, decided-stays)

scan_as-stays : (n : Mode) (m : Meant Scanned) (k : ScanKind) (p : Purpose) (given : List Given) (asked : Want → Performed)
    (more : Internal → Config → Performed) (c : Config)
    → ((w : Want) → Within n (asked w)) → MoreWithin n more → c.mode ≡ n → Within n (scan_as m k p given asked more c)
scan_as-stays n m k p given asked more c a g h = grind (arith, a, g, scan_closed-stays)

scan_quantity-stays : (n : Mode) (k : ScanKind) (p : Purpose) (given : List Given) (q : Amount) (more : Internal → Config → Performed) (c : Config)
    → MoreWithin n more → c.mode ≡ n → Within n (scan_quantity k p given q more c)
scan_quantity-stays n k p given q more c g h = grind (arith, g, scan_as-stays)

internal_to-stays : (n : Mode) (r : ReadingKind) (given : List Given) (i : Internal) (more : Internal → Config → Performed) (c : Config)
    → MoreWithin n more → c.mode ≡ n → Within n (internal_to r given i more c)
internal_to-stays n (reading.Scan k p) given (Known q) more c g h = scan_quantity-stays n k p given q more c g h
internal_to-stays n (reading.Scan k p) given (Tokens toks) more c g h = scan_quantity-stays n k p given NotOne more c g h
internal_to-stays n (reading.Scan k p) given (Picked i) more c g h = grind (arith, scan_quantity-stays n k p given NotOne more c g h)
internal_to-stays n r given i more c g h = grind (arith, taken-stays)

internal_given-stays : (n : Mode) (l : List Reading) → MoreWithin n (internal_given l)
internal_given-stays n [] i d h = h
internal_given-stays n (r ∷ l) i d h = internal_to-stays n r.kind r.given i (internal_given l) (record d { readings = l }) (internal_given-stays n l) h

font_size-stays : (n : Mode) (f : FontFound) (w : Want) (k : ScanKind) (p : Purpose) (given : List Given) (more : Internal → Config → Performed) (c : Config)
    → MoreWithin n more → c.mode ≡ n → Within n (font_size f w k p given more c)
font_size-stays n f w k p given more c g h = grind (arith, g, scan_quantity-stays)

asked_of-stays : (n : Mode) (w : Want) (m : Option Meaning) (k : ScanKind) (p : Purpose) (all : List Given) (more : Internal → Config → Performed) (c : Config)
    → MoreWithin n more → c.mode ≡ n → Within n (asked_of w m k p all more c)
asked_of-stays n Quantity m k p all more c g h = internal_to-stays n (reading.Scan k p) all (internal_in c.world c.cells.now m) more c g h
asked_of-stays n w m k p all more c g h = font_size-stays n (present_font c) w k p all more c g h

scan_token-stays : (n : Mode) (m : Option Meaning) (k : ScanKind) (p : Purpose) (given : List Given) (more : Internal → Config → Performed) (c : Config)
    → MoreWithin n more → c.mode ≡ n → Within n (scan_token m k p given more c)
scan_token-stays n m k p given more c g h =
    scan_as-stays n (meant k given) k p given (λ w. asked_of w m k p given more c) more c (λ w. asked_of-stays n w m k p given more c g h) g h

word_met-stays : (n : Mode) (m : Meant (List ℕ)) (p : Purpose) (given : List Given) (more : Internal → Config → Performed) (c : Config)
    → MoreWithin n more → c.mode ≡ n → Within n (word_met m p given more c)
word_met-stays n m p given more c g h = grind (arith, g, counter_printed-stays)

-- ---- Tokens

handed_to-stays : (n : Mode) (m : Option Meaning) (tok : Tok) (r : ReadingKind) (given : List Given) (more : Internal → Config → Performed) (c : Config)
    → MoreWithin n more → c.mode ≡ n → Within n (handed_to m tok r given more c)
handed_to-stays n m tok (reading.Scan k p) given more c g h = scan_token-stays n m k p (given ++ AToken tok ∷ []) more c g h
handed_to-stays n m tok reading.The given more c g h = internal_to-stays n reading.The given (internal_in c.world c.cells.now m) more c g h
handed_to-stays n m tok r given more c g h = grind (arith, g, word_met-stays, taken-stays)

handed-stays : (n : Mode) (m : Option Meaning) (tok : Tok) (l : List Reading) (c : Config) → c.mode ≡ n → Within n (handed m tok l c)
handed-stays n m tok l c h = grind (arith, handed_to-stays, internal_given-stays)

at_end-stays : (n : Mode) (l : List Reading) (c : Config) → c.mode ≡ n → Within n (at_end l c)
at_end-stays n l c h = grind (arith, scan_token-stays, internal_given-stays)

expanded-stays : (n : Mode) (e : Expandable) (row : Tok) (c : Config) → c.mode ≡ n → Within n (expanded e row c)
expanded-stays n (expandable.Test t) row c h = test_opened-stays n t c h
expanded-stays n (expandable.Part stopper) row c h = part_met-stays n stopper row c.conditionals c h
expanded-stays n (expandable.Print f) row c h = word_opened-stays n (PrintCounter f) c h
expanded-stays n expandable.NoExpand row c h = grind (arith, taken_by-stays, taken-stays, handed-stays)
expanded-stays n expandable.ExpandAfter row c h = grind (arith, taken_by-stays, taken-stays)
expanded-stays n expandable.String row c h = grind (arith, taken_by-stays, taken-stays)
expanded-stays n expandable.ThePage row c h = grind (arith, counter_printed-stays)
expanded-stays n e row c h = grind (arith, taken_by-stays, taken-stays, counter_printed-stays)

macro_expanded-stays : (n : Mode) (d : MacroDef) (c : Config) → c.mode ≡ n → Within n (macro_expanded d c)
macro_expanded-stays n d c h = grind (arith, arguments-stays)

row_met-stays : (n : Mode) (e : Option Expandable) (m : Option Meaning) (tok : Tok) (c : Config) → c.mode ≡ n → Within n (row_met e m tok c)
row_met-stays n (Some e) m tok c h = expanded-stays n e tok (holding c) h
row_met-stays n None m tok c h = handed-stays n m tok c.readings c h

met_as-stays : (n : Mode) (m : Option Meaning) (tok : Tok) (c : Config) → c.mode ≡ n → Within n (met_as m tok c)
met_as-stays n (Some (meaning.Macro d)) tok c h = macro_expanded-stays n d (holding c) h
met_as-stays n (Some (meaning.Row row)) tok c h = row_met-stays n (row_of row) (Some (meaning.Row row)) tok c h
met_as-stays n m tok c h = grind (arith, handed-stays)

got_met-stays : (n : Mode) (got : Got) (c : Config) → c.mode ≡ n → Within n (got_met got c)
got_met-stays n got c h = grind (arith, met_as-stays, handed-stays, at_end-stays)

-- ---- Steps

resume-stays : (n : Mode) (l : List Reading) (c : Config) → c.mode ≡ n → Within n (resume l c)
resume-stays n [] c h = h
resume-stays n (r ∷ l) c h = grind (arith, and_then-stays, resume-stays n l)

resumed-stays : (n : Mode) (got : Got) (c : Config) → c.mode ≡ n → Within n (resumed (got_met got c))
resumed-stays n got c h = and_then-stays n (got_met got c) (λ d. resume d.readings d) (got_met-stays n got c h) (λ d. resume-stays n d.readings d)

pub step-stays : KeepsMode step
unfolding step
step-stays c = let t = taken_by (ends_pass c.readings) c in resumed-stays c.mode t.got t.next (taken_by-stays (ends_pass c.readings) c)

next_from-stays : (turns : ℕ) (c : Config) → (next_from turns c).next.mode ≡ c.mode
unfolding next_from
next_from-stays zero c = refl
next_from-stays (suc turns) c = grind (arith, step-stays, next_from-stays turns (step c).done.next)

-- ---- What a caller asks for

pub ran-stays : KeepsMode ran
unfolding next
ran-stays c = next_from-stays most_turns c

pub then-ran : (n : Mode) (p : Performed) → Within n p → Within n (and_then p ran)
then-ran n p h = and_then-stays n p ran h (λ d k. ran-stays d ∙ k)

pub scan_asked-stays : (k : ScanKind) → KeepsMode (scan_asked k)
scan_asked-stays k c = then-ran c.mode (opened (reading.Scan k Asked) c) (grind arith)

pub quantity_asked-stays : (tok : Tok) → KeepsMode (quantity_asked tok)
quantity_asked-stays tok c =
    let i = internal_in c.world c.cells.now (meaning_now c tok) in
    let g : MoreWithin c.mode (internal_given c.readings) = internal_given-stays c.mode c.readings in
    then-ran c.mode (quantity_met tok c) (internal_to-stays c.mode reading.Quantity [] i (internal_given c.readings) c g refl)

pub word_asked-stays : KeepsMode word_asked
word_asked-stays c = then-ran c.mode (word_opened Asked c) (word_opened-stays c.mode Asked c refl)

pub body_asked-stays : KeepsMode body_asked
body_asked-stays c = then-ran c.mode (opened_uncounted reading.Body c) refl

word_behind-stays : (n : Mode) (toks : List Tok) (purpose : Purpose) (c : Config) → c.mode ≡ n → Within n (if_room (word_behind toks purpose) c)
word_behind-stays n toks purpose c h = grind arith

pub word_of-stays : (toks : List Tok) → KeepsMode (λ c. and_then (if_room (word_behind toks Asked) c) ran)
word_of-stays toks c = then-ran c.mode (if_room (word_behind toks Asked) c) (word_behind-stays c.mode toks Asked c refl)
