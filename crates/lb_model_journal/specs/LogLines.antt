-- The lines of a log (this project's own; missing widths as in tex.web, section 103). Each ends in a line feed.
use Rattle.std.specs.Prelude.{ℕ, List, [], ◌∷◌, ◌++◌, codes, decimal}
use Rattle.std.specs.Fmt.{signed_decimal}
use Rattle.lb_base.specs.Decimals.{scaled_text}
use Rattle.lb_base.specs.Kinds.{name_of}
use Rattle.lb_model_paper.specs.Texts.{line, log_end, log_file, log_start}
use Rattle.lb_model_journal.specs.declared.event.Event.{Event}
use Rattle.lb_model_journal.specs.declared.event.Event.TheVariants.{Start, Options, File, Page, Overfull, Underfull, MissingCharacter, UndefinedReference, MultipleLabel, Typeout, Fault, Output}
use Rattle.lb_model_journal.specs.Written.{written}

-- a place: the file, and the line in decimal
abbrev pub place_text : List ℕ → ℕ → List ℕ
place_text file number = file ++ 58 ∷ decimal number

abbrev pub log_line : Event → List ℕ
log_line (Start main) = log_start main
log_line (Options options) = line (codes "Class options: " ++ options)
log_line (File file) = log_file file
log_line (Page number) = line (91 ∷ signed_decimal number ++ 93 ∷ [])
log_line (Overfull missing file number) = line (codes "Overfull " ++ scaled_text missing ++ codes "pt at " ++ place_text file number)
log_line (Underfull file number) = line (codes "Underfull at " ++ place_text file number)
log_line (MissingCharacter code font) = line (codes "Missing character " ++ decimal code ++ codes " in " ++ font)
log_line (UndefinedReference key) = line (codes "Reference " ++ key ++ codes " undefined")
log_line (MultipleLabel key) = line (codes "Label " ++ key ++ codes " multiply defined")
log_line (Typeout toks) = line (written toks)
log_line (Fault fault) = line (codes "! " ++ name_of fault.kind ++ 32 ∷ place_text fault.file fault.line)
log_line (Output main pages bytes) = log_end main pages bytes
