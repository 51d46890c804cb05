-- Labels (source2e, file ltxref): a label is a note, which has the text of the present label and gets the number of its page when it is
-- written; what an old label stands for is in the cell `Label` of its key.
use Rattle.std.specs.Prelude.{ℕ, List, [], ◌∷◌, Option, unwrap_or}
use Rattle.lb_base.specs.declared.node.Node.{Node, Note as NoteNode}
use Rattle.lb_base.specs.declared.node.Note.TheVariants.{Label}
use Rattle.lb_values.specs.declared.cell.Cell.TheVariants.{CurrentLabel, Label as LabelCell}
use Rattle.lb_values.specs.declared.value.LabelPair.{LabelPair}
use Rattle.lb_values.specs.declared.value.Value.{Value}
use Rattle.lb_model.specs.declared.world.World.{World}
use Rattle.lb_model.specs.Kinds.{label_of, text_of}
use Rattle.lb_model.specs.Settings.{State, look}
use Rattle.lb_model_counters.specs.Effects.{Effect, answers}

-- the note of a key, where the present label's cell tells this
abbrev pub label_note : List ℕ → Value → Node
label_note key v = NoteNode (Label key (unwrap_or (text_of v) []))

-- `\label`: the note of a key, with the text of the present label
unfoldable pub label_now : List ℕ → World → State → Effect Node
label_now key w s = answers (CurrentLabel ∷ []) (label_note key (look w s CurrentLabel))

-- `\ref` and `\pageref`: what the label of a key stands for, if there is one
unfoldable pub label_stored : List ℕ → World → State → Effect (Option LabelPair)
label_stored key w s = answers (LabelCell key ∷ []) (label_of (look w s (LabelCell key)))
