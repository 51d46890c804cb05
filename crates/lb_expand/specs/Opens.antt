-- What the open readings of a desk are.
use Rattle.std.specs.Prelude.{Bool, false, ℕ, suc, List, [], ◌∷◌, if◌then◌else◌}
use Rattle.lb_model.specs.declared.open.ReadingKind.TheVariants as reading
use Rattle.lb_model.specs.Configs.{Reading}
use Rattle.lb_model_expansion.specs.Steps.{is_body}
use Rattle.lb_expand.specs.declared.readings.Opened.{Opened}
use Rattle.lb_expand.specs.declared.readings.Opened.TheVariants.{Scan, Word, Name, File, Body, Codes, Relation, Quantity, After, Held, The}

abbrev pub reading_of : Opened → Reading
reading_of (Scan scan purpose) = record { kind = reading.Scan scan.kind purpose; given = scan.given }
reading_of (Word text purpose) = record { kind = reading.Word purpose; given = text }
reading_of (Name text) = record { kind = reading.Name; given = text }
reading_of (File text) = record { kind = reading.File; given = text }
reading_of (Body text) = record { kind = reading.Body; given = text }
reading_of (Codes pairing first) = record { kind = reading.Codes pairing first; given = [] }
reading_of (Relation compared left) = record { kind = reading.Relation compared left; given = [] }
reading_of Quantity = record { kind = reading.Quantity; given = [] }
reading_of (After tok) = record { kind = reading.After tok; given = [] }
reading_of (Held tok) = record { kind = reading.Held tok; given = [] }
reading_of The = record { kind = reading.The; given = [] }

-- whether the innermost reading is of a body
abbrev pub is_body_first : List Reading → Bool
is_body_first [] = false
is_body_first (r ∷ readings) = is_body r.kind

-- how many are of a body
abbrev pub bodies_in : List Reading → ℕ
bodies_in [] = 0
bodies_in (r ∷ readings) = if is_body r.kind then suc (bodies_in readings) else bodies_in readings
