-- What the stages of a scan of a number mean.
use Rattle.std.specs.Prelude.{List, ◌∷◌}
use Rattle.lb_base.specs.declared.fault.Kind.TheVariants.{NumberMissing}
use Rattle.lb_model_grammar.specs.declared.given.Given.{Given}
use Rattle.lb_model_grammar.specs.declared.given.Scanned.{Scanned}
use Rattle.lb_model_grammar.specs.declared.given.Scanned.TheVariants as scanned
use Rattle.lb_model_grammar.specs.Numbers.{character, closed, internal, number}
use Rattle.lb_model_grammar.specs.Scans.{Meant, digits, some_digits}
use Rattle.lb_model_grammar.specs.Scans.Meant.{Ended, Wrong}
use Rattle.lb_scan.specs.declared.number.Number.{Number}
use Rattle.lb_scan.specs.declared.number.Number.TheVariants.{Signs, First, Digits, Character, Space, Internal}
use Rattle.lb_scan.specs.declared.number.NumberTurn.{NumberTurn}
use Rattle.lb_scan.specs.declared.number.NumberTurn.TheVariants.{Goes, Ends, EndsBefore, Fails}

-- what comes of a stage where this is given yet
abbrev pub number_after : Number → List Given → Meant Scanned
number_after (Signs negative) given = number negative given
number_after (First negative base) given = some_digits base (closed negative) (Wrong NumberMissing) given
number_after (Digits negative base v) given = digits base v (closed negative) given
number_after (Character negative) given = character negative given
number_after (Space negative v) given = closed negative v given
number_after (Internal negative) given = internal negative given

-- what comes of a turn at what was given, where more is given
abbrev pub turned_number : NumberTurn → Given → List Given → Meant Scanned
turned_number (Goes stage) g more = number_after stage more
turned_number (Ends v) g more = Ended (scanned.Number v) more
turned_number (EndsBefore v) g more = Ended (scanned.Number v) (g ∷ more)
turned_number (Fails kind) g more = Wrong kind
