-- Labels of rows that are worked out by hand: each key, text and page is one byte.
use Rattle.std.specs.Prelude.{ℕ, List, [], ◌∷◌}
use Rattle.lb_values.specs.declared.value.LabelPair.{LabelPair}
use Rattle.lb_model_aux.specs.declared.line.Line.{Line}
use Rattle.lb_model_aux.specs.declared.line.Line.TheVariants.{Label}

abbrev pub pair : List ℕ → LabelPair
pair [] = record { text = []; page = [] }
pair (text ∷ page) = record { text = text ∷ []; page = page }

abbrev pub label : List ℕ → Line
label [] = Label [] (pair [])
label (key ∷ bytes) = Label (key ∷ []) (pair bytes)
