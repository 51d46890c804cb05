-- Words by their letters: what comes of the letters that were read, and the units that can still come.
use Rattle.std.specs.Prelude.{◌==◌, Bool, true, false, ℕ, List, [], ◌∷◌, Option, Some, None, drop, if◌then◌else◌}
use Rattle.lb_base.specs.declared.glue.Order.TheVariants as order
use Rattle.lb_base.specs.declared.token.Tok.{Tok}
use Rattle.lb_base.specs.declared.token.Tok.TheVariants.{Char, Word, Active, Param}
use Rattle.lb_model_grammar.specs.declared.given.Given.{Given}
use Rattle.lb_model_grammar.specs.declared.given.Scanned.{Scanned}
use Rattle.lb_model_grammar.specs.declared.given.Want.TheVariants as want
use Rattle.lb_model_grammar.specs.Dimensions.{Unit_of, glue_units, units}
use Rattle.lb_model_grammar.specs.Dimensions.Unit_of.{Physical, Scaled, OfFont, Infinite}
use Rattle.lb_model_grammar.specs.Scans.{Meant, letters, lower, one_of}
use Rattle.lb_scan.specs.declared.spelling.Prefix.{Prefix}
use Rattle.lb_scan.specs.declared.spelling.Prefix.TheVariants as prefix
use Rattle.lb_scan.specs.declared.spelling.Spelled.{Spelled}
use Rattle.lb_scan.specs.declared.spelling.Spelled.TheVariants as spelled
use Rattle.lb_scan.specs.declared.spelling.Unit.{Unit as AUnit}
use Rattle.lb_scan.specs.declared.spelling.Unit.TheVariants as unit
use Rattle.lb_scan.specs.declared.word.Progress.{Progress}
use Rattle.lb_scan.specs.declared.word.Progress.TheVariants.{Letters, Found, Missing}

-- ---- One word

-- what comes of a word of which so much was read, where this is given yet
abbrev pub word_after : List ℕ → (List Given → Meant Scanned) → Meant Scanned → Progress → List Given → Meant Scanned
word_after word found missing (Letters n) given = letters (drop n word) found missing given
word_after word found missing Found given = found given
word_after word found missing Missing given = missing

-- how many letters came
abbrev pub letters_before : Progress → ℕ
letters_before (Letters n) = n
letters_before progress = 0

-- ---- Units

-- the letter that a token is, of either case and any category
abbrev pub letter_of : Tok → Option ℕ
letter_of (Char cat c) = Some (lower c)
letter_of (Active c) = Some (lower c)
letter_of (Word name) = None
letter_of (Param n) = None

-- the words that go on with a letter, each without it, up to the first word that is at its end
abbrev pub without : ℕ → List ℕ → Unit_of → List (List ℕ × Unit_of) → List (List ℕ × Unit_of)
without l [] u words = []
without l (c ∷ word) u words = if l == lower c then (word, u) ∷ words else words

abbrev pub behind_letter : ℕ → List (List ℕ × Unit_of) → List (List ℕ × Unit_of)
behind_letter l [] = []
behind_letter l (w ∷ words) = without l w.0 w.1 (behind_letter l words)

-- what comes where no word goes on: the first that is at its end is found
abbrev pub at_end : List ℕ → Unit_of → (Unit_of → Meant Scanned) → Meant Scanned → Meant Scanned
at_end [] u found otherwise = found u
at_end (c ∷ word) u found otherwise = otherwise

abbrev pub no_letter : List (List ℕ × Unit_of) → (Unit_of → Meant Scanned) → Meant Scanned → Meant Scanned
no_letter [] found missing = missing
no_letter (w ∷ words) found missing = at_end w.0 w.1 found (no_letter words found missing)

-- whether no word begins with a letter
abbrev pub begins : ℕ → List ℕ → Bool
begins l [] = true
begins l (c ∷ word) = l == lower c

abbrev pub none_begins : ℕ → List (List ℕ × Unit_of) → Bool
none_begins l [] = true
none_begins l (w ∷ words) = if begins l w.0 then false else none_begins l words

abbrev pub units_in : Bool → List (List ℕ × Unit_of)
units_in true = glue_units
units_in false = units

-- the ends of the units that begin with some letters
abbrev pub endings : Prefix → List (List ℕ × Unit_of)
endings prefix.P = behind_letter 112 units
endings prefix.I = behind_letter 105 units
endings prefix.C = behind_letter 99 units
endings prefix.M = behind_letter 109 units
endings prefix.B = behind_letter 98 units
endings prefix.D = behind_letter 100 units
endings prefix.S = behind_letter 115 units
endings prefix.E = behind_letter 101 units
endings prefix.F = behind_letter 102 glue_units
endings prefix.Fi = behind_letter 105 (behind_letter 102 glue_units)
endings prefix.Fil = behind_letter 108 (behind_letter 105 (behind_letter 102 glue_units))
endings prefix.Fill = behind_letter 108 (behind_letter 108 (behind_letter 105 (behind_letter 102 glue_units)))

abbrev pub unit_of : AUnit → Unit_of
unit_of unit.Pt = Physical 1 1
unit_of unit.In = Physical 7227 100
unit_of unit.Pc = Physical 12 1
unit_of unit.Cm = Physical 7227 254
unit_of unit.Mm = Physical 7227 2540
unit_of unit.Bp = Physical 7227 7200
unit_of unit.Dd = Physical 1238 1157
unit_of unit.Cc = Physical 14856 1157
unit_of unit.Sp = Scaled
unit_of unit.Em = OfFont want.Em
unit_of unit.Ex = OfFont want.Ex
unit_of unit.Filll = Infinite order.Filll

-- the ends of units behind one letter more
abbrev pub spelled_ends : Spelled → List (List ℕ × Unit_of)
spelled_ends (spelled.Whole u) = ([], unit_of u) ∷ []
spelled_ends (spelled.Part p) = endings p
spelled_ends spelled.Nothing = []

-- what comes of them, where `ended` comes of a unit that was at its end before that letter
abbrev pub spelled_after : Prefix → Spelled → (Unit_of → List Given → Meant Scanned) → (Unit_of → Meant Scanned) → Meant Scanned → List Given → Meant Scanned
spelled_after before (spelled.Whole u) found ended missing given = found (unit_of u) given
spelled_after before (spelled.Part p) found ended missing given = one_of (endings p) found missing given
spelled_after before spelled.Nothing found ended missing given = no_letter (endings before) ended missing
