-- What a scan that was given something does next.
use Rattle.std.proofs.Common.{◌≡◌, List, Some, ap, refl}
use Rattle.lb_model.specs.declared.open.Purpose.{Purpose}
use Rattle.lb_model.specs.declared.open.ReadingKind.TheVariants as reading
use Rattle.lb_model.specs.Configs.{Config}
use Rattle.lb_model.specs.Quantities.{Internal}
use Rattle.lb_model_grammar.specs.declared.given.Given.{Given}
use Rattle.lb_model_grammar.specs.declared.given.ScanKind.{ScanKind}
use Rattle.lb_model_grammar.specs.declared.given.Scanned.{Scanned}
use Rattle.lb_model_grammar.specs.declared.given.Want.{Want}
use Rattle.lb_model_grammar.specs.declared.given.Want.TheVariants as want
use Rattle.lb_model_grammar.specs.Scans.{Meant, after_of, value_of, want_of}
use Rattle.lb_model_grammar.specs.Scans.Meant.{Open, Ended, Wrong}
use Rattle.lb_model_expansion.specs.Expansion.{kept, scan_as, scan_closed}
use Rattle.lb_model_expansion.specs.Steps.{Performed}

some-is : {X : Type 0} {x y : X} → Some x ≡ Some y → x ≡ y
some-is e = cc

-- it goes on
pub scan-expanded : (m : Meant Scanned) (k : ScanKind) (purpose : Purpose) (given : List Given) (asked : Want → Performed) (more : Internal → Config → Performed) (c : Config) → want_of m ≡ Some want.Expanded
    → scan_as m k purpose given asked more c ≡ kept (reading.Scan k purpose) given c
scan-expanded (Open want.Expanded) k purpose given asked more c e = refl
scan-expanded (Open want.Plain) k purpose given asked more c e = refl
scan-expanded (Open want.Quantity) k purpose given asked more c e = cc
scan-expanded (Open want.Em) k purpose given asked more c e = cc
scan-expanded (Open want.Ex) k purpose given asked more c e = cc
scan-expanded (Open want.Done) k purpose given asked more c e = cc
scan-expanded (Ended x rest) k purpose given asked more c e = cc
scan-expanded (Wrong kind) k purpose given asked more c e = cc

pub scan-plain : (m : Meant Scanned) (k : ScanKind) (purpose : Purpose) (given : List Given) (asked : Want → Performed) (more : Internal → Config → Performed) (c : Config) → want_of m ≡ Some want.Plain
    → scan_as m k purpose given asked more c ≡ kept (reading.Scan k purpose) given c
scan-plain (Open want.Expanded) k purpose given asked more c e = refl
scan-plain (Open want.Plain) k purpose given asked more c e = refl
scan-plain (Open want.Quantity) k purpose given asked more c e = cc
scan-plain (Open want.Em) k purpose given asked more c e = cc
scan-plain (Open want.Ex) k purpose given asked more c e = cc
scan-plain (Open want.Done) k purpose given asked more c e = cc
scan-plain (Ended x rest) k purpose given asked more c e = cc
scan-plain (Wrong kind) k purpose given asked more c e = cc

-- it has a value
pub scan-ended : (m : Meant Scanned) (x : Scanned) (k : ScanKind) (purpose : Purpose) (given : List Given) (asked : Want → Performed) (more : Internal → Config → Performed) (c : Config) → value_of m ≡ Some x
    → scan_as m k purpose given asked more c ≡ scan_closed purpose x (after_of m) more c
scan-ended (Open w) x k purpose given asked more c e = cc
scan-ended (Ended y rest) x k purpose given asked more c e = ap (λ z. scan_closed purpose z (after_of (Ended y rest)) more c) (some-is e)
scan-ended (Wrong kind) x k purpose given asked more c e = cc

-- it asks for what begins with a token, or for a size of the present font
pub scan-asks-quantity : (m : Meant Scanned) (k : ScanKind) (purpose : Purpose) (given : List Given) (asked : Want → Performed) (more : Internal → Config → Performed) (c : Config) → want_of m ≡ Some want.Quantity
    → scan_as m k purpose given asked more c ≡ asked want.Quantity
scan-asks-quantity (Open want.Expanded) k purpose given asked more c e = cc
scan-asks-quantity (Open want.Plain) k purpose given asked more c e = cc
scan-asks-quantity (Open want.Quantity) k purpose given asked more c e = refl
scan-asks-quantity (Open want.Em) k purpose given asked more c e = cc
scan-asks-quantity (Open want.Ex) k purpose given asked more c e = cc
scan-asks-quantity (Open want.Done) k purpose given asked more c e = cc
scan-asks-quantity (Ended x rest) k purpose given asked more c e = cc
scan-asks-quantity (Wrong kind) k purpose given asked more c e = cc

pub scan-asks-em : (m : Meant Scanned) (k : ScanKind) (purpose : Purpose) (given : List Given) (asked : Want → Performed) (more : Internal → Config → Performed) (c : Config) → want_of m ≡ Some want.Em
    → scan_as m k purpose given asked more c ≡ asked want.Em
scan-asks-em (Open want.Expanded) k purpose given asked more c e = cc
scan-asks-em (Open want.Plain) k purpose given asked more c e = cc
scan-asks-em (Open want.Quantity) k purpose given asked more c e = cc
scan-asks-em (Open want.Em) k purpose given asked more c e = refl
scan-asks-em (Open want.Ex) k purpose given asked more c e = cc
scan-asks-em (Open want.Done) k purpose given asked more c e = cc
scan-asks-em (Ended x rest) k purpose given asked more c e = cc
scan-asks-em (Wrong kind) k purpose given asked more c e = cc

pub scan-asks-ex : (m : Meant Scanned) (k : ScanKind) (purpose : Purpose) (given : List Given) (asked : Want → Performed) (more : Internal → Config → Performed) (c : Config) → want_of m ≡ Some want.Ex
    → scan_as m k purpose given asked more c ≡ asked want.Ex
scan-asks-ex (Open want.Expanded) k purpose given asked more c e = cc
scan-asks-ex (Open want.Plain) k purpose given asked more c e = cc
scan-asks-ex (Open want.Quantity) k purpose given asked more c e = cc
scan-asks-ex (Open want.Em) k purpose given asked more c e = cc
scan-asks-ex (Open want.Ex) k purpose given asked more c e = refl
scan-asks-ex (Open want.Done) k purpose given asked more c e = cc
scan-asks-ex (Ended x rest) k purpose given asked more c e = cc
scan-asks-ex (Wrong kind) k purpose given asked more c e = cc
