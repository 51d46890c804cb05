-- A token that expansion gives was taken: nothing else that a step does gives one.
use Rattle.std.proofs.Common.{◌≡◌, ◌∙◌, ◌≤◌, ℕ, zero, suc, Bool, true, false, List, [], ◌∷◌, refl, ap, sym, arith}
use Rattle.std.specs.Prelude.{Option}
use Rattle.lb_base.specs.declared.token.Tok.{Tok}
use Rattle.lb_values.specs.declared.meaning.Meaning.{Meaning}
use Rattle.lb_model_grammar.specs.declared.condition.Branch.{Branch}
use Rattle.lb_model_grammar.specs.declared.given.Given.{Given}
use Rattle.lb_model_grammar.specs.declared.given.Quantity.{Quantity as Amount}
use Rattle.lb_model_grammar.specs.declared.given.Quantity.TheVariants.{NotOne}
use Rattle.lb_model_grammar.specs.declared.given.ScanKind.{ScanKind}
use Rattle.lb_model_grammar.specs.declared.given.Scanned.{Scanned}
use Rattle.lb_model_grammar.specs.declared.given.Want.{Want}
use Rattle.lb_model_grammar.specs.declared.given.Want.TheVariants.{Quantity}
use Rattle.lb_model_grammar.specs.Dimensions.{meant}
use Rattle.lb_model_grammar.specs.Scans.{Meant}
use Rattle.lb_model.specs.declared.open.Purpose.{Purpose}
use Rattle.lb_model.specs.declared.open.ReadingKind.{ReadingKind}
use Rattle.lb_model.specs.declared.open.ReadingKind.TheVariants as reading
use Rattle.lb_model.specs.declared.place.Got.{Got}
use Rattle.lb_model.specs.declared.place.Got.TheVariants.{Tok as GotTok, End as GotEnd, Fault as GotFault}
use Rattle.lb_model.specs.Configs.{Config, Reading, taken_by}
use Rattle.lb_model.specs.Quantities.{Internal, internal_in}
use Rattle.lb_model.specs.Quantities.Internal.{Known, Picked, Tokens}
use Rattle.lb_model_paper.specs.FoundFonts.{FontFound}
use Rattle.lb_model_expansion.specs.declared.expansion.Went.{Went}
use Rattle.lb_model_expansion.specs.declared.expansion.Went.TheVariants.{Gave}
use Rattle.lb_model_expansion.specs.Expansion.{asked_of, at_end, decided, font_size, got_met, internal_given, internal_to, most_turns, next, next_from, or_more, present_font, resume, resumed, scan_as, scan_closed, scan_quantity, scan_token, step}
use Rattle.lb_model_expansion.specs.Laws.{GivenTakesAStep}
use Rattle.lb_model_expansion.specs.Steps.{Performed, Step, and_as, and_then, ends_pass}
use Rattle.lb_model_expansion.proofs.FallsSteps.{step-falls, step-token}

abbrev is_given : Went → Bool
is_given (Gave tok) = true
is_given went = false

abbrev NotGiven : Performed → Type 0
NotGiven p = is_given p.done.went ≡ false

and_as-not : (way : Went) (p more : Performed) → is_given way ≡ false → NotGiven p → NotGiven more → NotGiven (and_as way p more)
and_as-not way p more h g k = grind arith

and_then-not : (p : Performed) (more : Config → Performed) → NotGiven p → ((c : Config) → NotGiven (more c)) → NotGiven (and_then p more)
and_then-not p more h k = and_as-not p.done.went p (more p.done.next) h h (k p.done.next)

-- ---- Readings at the end of the piece

abbrev MoreNot : (Internal → Config → Performed) → Type 0
MoreNot more = (i : Internal) (c : Config) → NotGiven (more i c)

decided-not : (branch : Branch) (c : Config) → NotGiven (decided branch c)
decided-not branch c = grind arith

scan_closed-not : (p : Purpose) (s : Scanned) (after : List Tok) (more : Internal → Config → Performed) (c : Config)
    → MoreNot more → NotGiven (scan_closed p s after more c)
scan_closed-not p s after more c g = grind (arith, g, decided-not)

scan_as-not : (m : Meant Scanned) (k : ScanKind) (p : Purpose) (given : List Given) (asked : Want → Performed)
    (more : Internal → Config → Performed) (c : Config) → ((w : Want) → NotGiven (asked w)) → MoreNot more → NotGiven (scan_as m k p given asked more c)
scan_as-not m k p given asked more c a g = grind (arith, a, g, scan_closed-not)

scan_quantity-not : (k : ScanKind) (p : Purpose) (given : List Given) (q : Amount) (more : Internal → Config → Performed) (c : Config)
    → MoreNot more → NotGiven (scan_quantity k p given q more c)
scan_quantity-not k p given q more c g = grind (arith, g, scan_as-not)

internal_to-not : (r : ReadingKind) (given : List Given) (i : Internal) (more : Internal → Config → Performed) (c : Config)
    → MoreNot more → NotGiven (internal_to r given i more c)
internal_to-not (reading.Scan k p) given (Known q) more c g = scan_quantity-not k p given q more c g
internal_to-not (reading.Scan k p) given (Tokens toks) more c g = scan_quantity-not k p given NotOne more c g
internal_to-not (reading.Scan k p) given (Picked i) more c g = grind (arith, scan_quantity-not k p given NotOne more c g)
internal_to-not r given i more c g = grind arith

internal_given-not : (l : List Reading) → MoreNot (internal_given l)
internal_given-not [] i c = refl
internal_given-not (r ∷ l) i c = internal_to-not r.kind r.given i (internal_given l) (record c { readings = l }) (internal_given-not l)

font_size-not : (f : FontFound) (w : Want) (k : ScanKind) (p : Purpose) (given : List Given) (more : Internal → Config → Performed) (c : Config)
    → MoreNot more → NotGiven (font_size f w k p given more c)
font_size-not f w k p given more c g = grind (arith, g, scan_quantity-not)

asked_of-not : (w : Want) (m : Option Meaning) (k : ScanKind) (p : Purpose) (all : List Given) (more : Internal → Config → Performed) (c : Config)
    → MoreNot more → NotGiven (asked_of w m k p all more c)
asked_of-not Quantity m k p all more c g = internal_to-not (reading.Scan k p) all (internal_in c.world c.cells.now m) more c g
asked_of-not w m k p all more c g = font_size-not (present_font c) w k p all more c g

scan_token-not : (m : Option Meaning) (k : ScanKind) (p : Purpose) (given : List Given) (more : Internal → Config → Performed) (c : Config)
    → MoreNot more → NotGiven (scan_token m k p given more c)
scan_token-not m k p given more c g =
    scan_as-not (meant k given) k p given (λ w. asked_of w m k p given more c) more c (λ w. asked_of-not w m k p given more c g) g

at_end-not : (l : List Reading) (c : Config) → NotGiven (at_end l c)
at_end-not l c = grind (arith, scan_token-not, internal_given-not)

-- ---- Steps

resume-not : (l : List Reading) (c : Config) → NotGiven (resume l c)
resume-not [] c = refl
resume-not (r ∷ l) c = grind (arith, and_then-not, resume-not l)

resumed-not : (p : Performed) → NotGiven p → NotGiven (resumed p)
resumed-not p h = and_then-not p (λ c. resume c.readings c) h (λ c. resume-not c.readings c)

got_end-not : (c : Config) → NotGiven (got_met GotEnd c)
got_end-not c = grind (arith, at_end-not)

-- from what gives none anything follows
not-given : (X : Type 0) (p : Performed) (tok : Tok) → NotGiven p → p.done.went ≡ Gave tok → X
not-given X p tok h e = let k : true ≡ false = sym (ap is_given e) ∙ h in absurd (cc)

resumed-given : (got : Got) (c : Config) (n : ℕ) (tok : Tok) → ((t : Tok) → got ≡ GotTok t → suc (resumed (got_met got c)).done.next.left ≤ n)
    → (resumed (got_met got c)).done.went ≡ Gave tok → suc (resumed (got_met got c)).done.next.left ≤ n
resumed-given (GotTok t) c n tok f e = f t refl
resumed-given GotEnd c n tok f e = not-given _ (resumed (got_met GotEnd c)) tok (resumed-not (got_met GotEnd c) (got_end-not c)) e
resumed-given (GotFault kind) c n tok f e = not-given _ (resumed (got_met (GotFault kind) c)) tok refl e

step-given : (c : Config) (tok : Tok) → (step c).done.went ≡ Gave tok → suc (step c).done.next.left ≤ c.left
unfolding step
step-given c tok e = let t = taken_by (ends_pass c.readings) c in resumed-given t.got t.next c.left tok (step-token c) e

abbrev LessIfGiven : Step → ℕ → Type 0
LessIfGiven s n = (tok : Tok) → s.went ≡ Gave tok → suc s.next.left ≤ n

next_from-given : (turns : ℕ) (c : Config) → LessIfGiven (next_from turns c) c.left
unfolding next_from
next_from-given zero c tok e = absurd (cc)
next_from-given (suc turns) c tok e =
    let n = next_from turns (step c).done.next in
    more-given (step c).done n c.left (step-given c) (omega (arith, step-falls c)) (next_from-given turns (step c).done.next) tok e
  where
    more-given : (s more : Step) (n : ℕ) → LessIfGiven s n → s.next.left ≤ n → LessIfGiven more s.next.left → LessIfGiven (or_more s.went s more) n
    more-given s more n f h g tok e = grind (arith, f tok, g tok)

pub ran-given : GivenTakesAStep
unfolding next
ran-given c tok e = next_from-given most_turns c tok e
