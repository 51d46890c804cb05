-- Sizes of the present font.
use Rattle.std.specs.Prelude.{ℕ, List}
use Rattle.lb_base.specs.declared.fault.Kind.TheVariants.{BadTfm, FontMissing}
use Rattle.lb_model.specs.declared.open.Purpose.{Purpose}
use Rattle.lb_model.specs.Configs.{Config}
use Rattle.lb_model.specs.Quantities.{Internal}
use Rattle.lb_model_grammar.specs.declared.given.Given.{Given}
use Rattle.lb_model_grammar.specs.declared.given.Quantity.TheVariants as quantity
use Rattle.lb_model_grammar.specs.declared.given.ScanKind.{ScanKind}
use Rattle.lb_model_grammar.specs.declared.given.Want.{Want}
use Rattle.lb_model_paper.specs.FoundFonts.{Broken, FontFound, Found, Missing}
use Rattle.lb_model_expansion.specs.declared.expansion.Went.TheVariants.{Stopped, StoppedAt}
use Rattle.lb_model_expansion.specs.Expansion.{font_length, scan_quantity}
use Rattle.lb_model_expansion.specs.Steps.{Performed, performed}
use Rattle.lb_expand.specs.declared.fonts.Measured.{Measured}
use Rattle.lb_expand.specs.declared.fonts.Measured.TheVariants.{Size, Stops}

-- the size that is asked for of a font, whose file is this
abbrev pub measured : FontFound → List ℕ → Want → Measured
measured (Found font) file want = Size (quantity.Dimen (font_length want font))
measured Missing file want = Stops (Stopped FontMissing)
measured (Broken word) file want = Stops (StoppedAt (record { kind = BadTfm; file = file; line = word }))

-- a scan is given a size
abbrev pub measured_as : Measured → ScanKind → Purpose → List Given → (Internal → Config → Performed) → Config → Performed
measured_as (Size size) k purpose given more c = scan_quantity k purpose given size more c
measured_as (Stops went) k purpose given more c = performed went c
