-- What the stages of a scan mean.
use Rattle.std.specs.Prelude.{◌≡◌, ◌++◌, ◌<◌, Bool, true, false, ℕ, List, [], ◌∷◌, length, drop, codes}
use Rattle.lb_base.specs.declared.glue.Glue.{Glue}
use Rattle.lb_base.specs.declared.fault.Kind.TheVariants.{NumberMissing}
use Rattle.lb_base.specs.declared.glue.Order.TheVariants.{Finite}
use Rattle.lb_model_grammar.specs.declared.given.Given.{Given}
use Rattle.lb_model_grammar.specs.declared.given.Quantity.{Quantity}
use Rattle.lb_model_grammar.specs.declared.given.Quantity.TheVariants as quantity
use Rattle.lb_model_grammar.specs.declared.given.ScanKind.{ScanKind}
use Rattle.lb_model_grammar.specs.declared.given.ScanKind.TheVariants as scan_kind
use Rattle.lb_model_grammar.specs.declared.given.Scanned.{Scanned}
use Rattle.lb_model_grammar.specs.declared.given.Scanned.TheVariants as scanned
use Rattle.lb_model_grammar.specs.Dimensions.{Uses, dimension_alone, glue_units, length_behind, meant, of_width, shrink_alone, signed_glue, units}
use Rattle.lb_model_grammar.specs.Scans.{Meant, keyword, letters, signed}
use Rattle.lb_model_grammar.specs.Scans.Meant.{Ended, Wrong}
use Rattle.lb_scan.specs.declared.stage.Keeps.{Keeps}
use Rattle.lb_scan.specs.declared.stage.Keeps.TheVariants.{All, Nothing, Last}
use Rattle.lb_scan.specs.declared.stage.Purpose.{Purpose}
use Rattle.lb_scan.specs.declared.stage.Purpose.TheVariants as purpose
use Rattle.lb_scan.specs.declared.stage.Stage.{Stage}
use Rattle.lb_scan.specs.declared.stage.Stage.TheVariants as stage
use Rattle.lb_scan.specs.Lengths.{length_after}
use Rattle.lb_scan.specs.Numbers.{number_after}

-- the uses of what glue stretches and shrinks by, where all this stands behind the last whole reading
abbrev pub shrink_uses : Glue → List Given → Uses
shrink_uses g all =
    record {
      units = glue_units;
      found = λ order v rest. Ended (scanned.Skip (record g { shrink = v; shrink_order = order })) rest;
      alone = shrink_alone g all;
      missing = λ kind. Ended (scanned.Skip g) all;
    }

-- `minus` may come behind spaces
unfoldable pub shrinkable_after : Glue → List Given → List Given → Meant Scanned
shrinkable_after g all given = keyword (codes "minus") (length_behind (shrink_uses g all) false) (Ended (scanned.Skip g) all) given

abbrev pub stretch_found : Glue → List Given → Bool → Quantity → List Given → Meant Scanned
stretch_found g all negative (quantity.Dimen v) rest = shrinkable_after (record g { stretch = signed negative v; stretch_order = Finite }) rest rest
stretch_found g all negative q rest = Ended (scanned.Skip g) all

abbrev pub stretch_uses : Glue → List Given → Uses
stretch_uses g all =
    record {
      units = glue_units;
      found = λ order v rest. shrinkable_after (record g { stretch = v; stretch_order = order }) rest rest;
      alone = stretch_found g all;
      missing = λ kind. Ended (scanned.Skip g) all;
    }

-- `plus` or `minus` may come behind spaces
unfoldable pub stretchable_after : Glue → List Given → List Given → Meant Scanned
stretchable_after g all given =
    keyword (codes "plus") (length_behind (stretch_uses g all) false)
    (keyword (codes "minus") (length_behind (shrink_uses g all) false) (Ended (scanned.Skip g) all) given) given

abbrev pub width_found : Bool → Quantity → List Given → Meant Scanned
width_found negative (quantity.Skip g) rest = Ended (scanned.Skip (signed_glue negative g)) rest
width_found negative (quantity.Dimen v) rest = stretchable_after (of_width (signed negative v)) rest rest
width_found negative q rest = Wrong NumberMissing

-- the uses of a dimension by what it is for
abbrev pub uses_of : Purpose → List Given → Uses
uses_of purpose.Dimension all = record { units = units; found = λ order v rest. Ended (scanned.Dimen v) rest; alone = dimension_alone; missing = Wrong }
uses_of purpose.Width all = record { units = units; found = λ order v rest. stretchable_after (of_width v) rest rest; alone = width_found; missing = Wrong }
uses_of (purpose.Stretch g) all = stretch_uses g all
uses_of (purpose.Shrink g) all = shrink_uses g all

-- what comes of a stage in the scan of a word, or of something else, where this is given yet and where all this stands behind the last
-- whole reading
abbrev pub stage_after : List ℕ → Stage → List Given → List Given → Meant Scanned
stage_after word (stage.Number n) all given = number_after n given
stage_after word (stage.Length p l) all given = length_after (uses_of p all) l given
stage_after word (stage.Stretchable g) all given = stretchable_after g all given
stage_after word (stage.Plus g n) all given = letters (drop n (codes "plus")) (length_behind (stretch_uses g all) false) (Ended (scanned.Skip g) all) given
stage_after word (stage.Shrinkable g) all given = shrinkable_after g all given
stage_after word (stage.Minus g n) all given = letters (drop n (codes "minus")) (length_behind (shrink_uses g all) false) (Ended (scanned.Skip g) all) given
stage_after word stage.Spaces all given = keyword word (Ended (scanned.Found true)) (Ended (scanned.Found false) all) given
stage_after word (stage.Letters n) all given = letters (drop n word) (Ended (scanned.Found true)) (Ended (scanned.Found false) all) given
stage_after word (stage.Over v) all given = Ended v all
stage_after word (stage.Failed kind) all given = Wrong kind

-- some letters of a word are left
abbrev pub within : List ℕ → Stage → Type 0
within word (stage.Letters n) = n < length word
within word (stage.Plus g n) = n < 4
within word (stage.Minus g n) = n < 5
within word s = Unit {0}

-- what stands behind the last whole reading after a turn, and what is kept of it
abbrev pub left : Keeps → List Given → Given → List Given → List Given
left All all g more = all
left Nothing all g more = more
left Last all g more = g ∷ more

abbrev pub kept : Keeps → List Given → Given → List Given
kept All before g = before ++ g ∷ []
kept Nothing before g = []
kept Last before g = g ∷ []

-- what comes of a turn at what was given, where more is given
abbrev pub turned : List ℕ → Stage → Keeps → List Given → Given → List Given → Meant Scanned
turned word s keeps all g more = stage_after word s (left keeps all g more) more

abbrev pub word_of : ScanKind → List ℕ
word_of (scan_kind.Keyword word) = word
word_of kind = []

-- the stage after a list, and what is kept of it: they mean what the list means, and so they stay whatever comes
pub record Stands (kind : ScanKind) (given before : List Given) (stage : Stage) : Type 0 where
  pub now : meant kind given ≡ stage_after (word_of kind) stage before []
  pub more : (more : List Given) → meant kind (given ++ more) ≡ stage_after (word_of kind) stage (before ++ more) more
  pub within : within (word_of kind) stage
