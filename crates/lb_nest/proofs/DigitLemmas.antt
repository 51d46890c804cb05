-- The number of a page as nodes.
use Rattle.std.proofs.Common.{◌≡◌, ◌∙◌, ◌++◌, ℕ, List, [], Some, None, ap, sym}
use Rattle.std.specs.Prelude.{filter}
use Rattle.lb_base.specs.declared.fault.Kind.TheVariants.{StepLimit}
use Rattle.lb_base.specs.declared.fault.Stop.{Stop}
use Rattle.lb_base.specs.declared.fault.Stop.TheVariants.{At, Fault, Memory}
use Rattle.lb_base.specs.declared.node.Node.{Node}
use Rattle.lb_values.specs.declared.value.Value.{Value}
use Rattle.lb_values.specs.Kept.{Kept}
use Rattle.lb_model.specs.declared.append.Append.{Append}
use Rattle.lb_model.specs.declared.group.Group.{Group}
use Rattle.lb_model.specs.Settings.{Setting}
use Rattle.lb_model_paper.specs.Fonts.{FontData}
use Rattle.lb_model_paper.specs.Words.{set_word}
use Rattle.lb_model_nest.specs.declared.turn.Went.{Went}
use Rattle.lb_model_nest.specs.declared.turn.Went.TheVariants.{Stopped}
use Rattle.lb_model_nest.specs.Pages.{digits_in, digits_made, has_code}
use Rattle.lb_model_nest.specs.Wholes.{Executed, Whole, executed}
use Rattle.lb_nest.specs.Appends.{missing_appends}
use Rattle.lb_text.specs.Stops.{IsWordStop}
use Rattle.lb_nest.specs.Stops.{IsStopOf}
use Rattle.lb_nest.specs.Views.{whole}
use Rattle.lb_nest.specs.declared.nest.Nest.{Nest}
use Rattle.lb_nest.proofs.AppendLemmas.{entries-added, missing-added}

-- ---- A word that stops

pub word-stop : (font : FontData) (steps : ℕ) (nodes : List Node) (codes : List ℕ) (stop : Stop) (went : Went) → IsStopOf stop went → IsWordStop font steps nodes codes stop → (went ≡ Stopped StepLimit) × (set_word font steps nodes codes ≡ None)
word-stop font steps nodes codes (Fault kind) went is stops = (is ∙ ap Stopped stops.0, stops.1)
word-stop font steps nodes codes Memory went is stops = absurd is
word-stop font steps nodes codes (At fault) went is stops = absurd is

-- ---- All of them

logged : (text : List ℕ) (font : FontData) (row : List Node → Whole → Executed) (n : Nest) (entries : List Append) (w : Whole) (p : Setting) (k : Kept Value) (g : List Group) (left : ℕ) → entries ≡ n.entries ++ missing_appends font text
    → digits_in text font row (whole w p k g left n) ≡ digits_made (set_word font left [] (filter (has_code font) text)) row (whole w p k g left (record n { entries = entries }))
logged text font row n entries w p k g left e =
    let made = set_word font left [] (filter (has_code font) text) in
    ap (digits_made made row) (missing-added font text (whole w p k g left n) ∙ entries-added (missing_appends font text) n w p k g left)
    ∙ ap (λ l. digits_made made row (whole w p k g left (record n { entries = l }))) (sym e)

pub digits-made : (text : List ℕ) (font : FontData) (row : List Node → Whole → Executed) (n : Nest) (entries : List Append) (word : List ℕ) (nodes before : List Node) (left after : ℕ) (w : Whole) (p : Setting) (k : Kept Value) (g : List Group)
    → entries ≡ n.entries ++ missing_appends font text → word ≡ filter (has_code font) text → before ≡ [] → set_word font left before word ≡ Some (nodes, after)
    → digits_in text font row (whole w p k g left n) ≡ row nodes (whole w p k g after (record n { entries = entries }))
digits-made text font row n entries word nodes before left after w p k g e same empty made =
    logged text font row n entries w p k g left e
    ∙ ap (λ s. digits_made s row (whole w p k g left (record n { entries = entries }))) ((λ i. set_word font left (sym empty i) (sym same i)) ∙ made)

pub digits-stop : (text : List ℕ) (font : FontData) (row : List Node → Whole → Executed) (n : Nest) (entries : List Append) (word : List ℕ) (before : List Node) (left : ℕ) (w : Whole) (p : Setting) (k : Kept Value) (g : List Group)
    → entries ≡ n.entries ++ missing_appends font text → word ≡ filter (has_code font) text → before ≡ [] → set_word font left before word ≡ None
    → digits_in text font row (whole w p k g left n) ≡ executed (Stopped StepLimit) (whole w p k g 0 (record n { entries = entries }))
digits-stop text font row n entries word before left w p k g e same empty made =
    logged text font row n entries w p k g left e
    ∙ ap (λ s. digits_made s row (whole w p k g left (record n { entries = entries }))) ((λ i. set_word font left (sym empty i) (sym same i)) ∙ made)
