-- What a font is loaded as, in a world and a state.
use Rattle.std.specs.Prelude.{◌≡◌, ⊤, ℕ, List, [], Option, None, unwrap_or, is_some, IsTrue, ℤ, pos, ◌<ℤ◌}
use Rattle.lb_base.specs.declared.fault.Kind.TheVariants.{FontMissing, BadTfm, BadCode}
use Rattle.lb_base.specs.declared.fault.Stop.{Stop}
use Rattle.lb_base.specs.declared.fault.Stop.TheVariants.{Memory, Fault, At}
use Rattle.lb_values.specs.declared.cell.Cell.TheVariants.{Prefix, File}
use Rattle.lb_model.specs.FontTable.{font_file, font_name}
use Rattle.lb_model.specs.Kinds.{name_of, text_of}
use Rattle.lb_model.specs.Settings.{State, Notes, look, noted}
use Rattle.lb_model.specs.declared.world.World.{World}
use Rattle.lb_model_paper.specs.FoundFonts.{FontFound, Broken, Missing, font_found}
use Rattle.lb_fonts.specs.declared.name.FontName.{FontName}

-- what stands before the names of font files
abbrev pub prefix_of : World → State → List ℕ
prefix_of w s = unwrap_or (name_of (look w s Prefix)) []

-- the name of a font's file
abbrev pub file_of : World → State → FontName → List ℕ
file_of w s name = font_file (prefix_of w s) name.name

-- the bytes of a font's file, None where there is none
abbrev pub bytes_of : World → State → FontName → Option (List ℕ)
bytes_of w s name = text_of (look w s (File (file_of w s name)))

-- the font of a name at its size, in a world and a state
abbrev pub font_in : World → State → FontName → FontFound
font_in w s name = font_found (bytes_of w s name) name.name name.size

-- what is noted: the cell of what stands before font files, and then that of the file
abbrev pub noted_by_load : World → State → FontName → Notes → Notes
noted_by_load w s name n = noted (File (file_of w s name)) (noted Prefix n)

-- No font is found: for want of memory, of which nothing is said; or because there is no file, or it breaks a rule of the format. The line
-- of the fault is then the word that breaks it.
abbrev pub IsRefused : FontFound → List ℕ → Stop → Type 0
IsRefused found file Memory = ⊤
IsRefused found file (Fault kind) = (kind ≡ FontMissing) × (found ≡ Missing)
IsRefused found file (At fault) = (fault.kind ≡ BadTfm) × (fault.file ≡ file) × (found ≡ Broken fault.line)

-- it is so where the stop is not for want of memory
abbrev pub IfFault : Stop → Type 0 → Type 0
IfFault Memory holds = ⊤
IfFault (Fault kind) holds = holds
IfFault (At fault) holds = holds

-- a size at which fonts are made: above 0 and below 2048 points
abbrev pub IsFontSize : ℤ → Type 0
IsFontSize size = (pos 0 <ℤ size) × (size <ℤ pos 134217728)

-- No font is of this style and size, or there was not enough memory and one is.
abbrev pub IsOutside : ℤ → ℤ → Stop → Type 0
IsOutside style size Memory = IsTrue (is_some (font_name style size))
IsOutside style size (Fault kind) = (kind ≡ BadCode) × (font_name style size ≡ None)
IsOutside style size (At fault) = ⊥
