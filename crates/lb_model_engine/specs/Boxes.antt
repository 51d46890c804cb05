-- Boxes that are asked for: their sizes, registers of boxes, and what is shifted (TeXbook, chapters 12 and 24; tex.web, part 47, sections 1071 to
-- 1084, and part 49, sections 1241 and 1247).
use Rattle.std.specs.Prelude.{Bool, true, false, ℕ, ℤ, neg_ℤ, [], ◌∷◌, codes, Option, Some, None, if◌then◌else◌}
use Rattle.lb_base.specs.declared.fault.Kind.TheVariants.{TokenMisplaced, WrongMode}
use Rattle.lb_base.specs.declared.glue.Target.{Target}
use Rattle.lb_base.specs.declared.glue.Target.TheVariants.{Natural, To, Spread}
use Rattle.lb_base.specs.declared.node.Axis.{Axis}
use Rattle.lb_base.specs.declared.node.Axis.TheVariants.{Horizontal, Vertical}
use Rattle.lb_base.specs.declared.node.Boxed.{Boxed, out-Boxed, roll-Boxed}
use Rattle.lb_base.specs.declared.token.Category.TheVariants as category
use Rattle.lb_rows.specs.declared.command.Command.TheVariants as command
use Rattle.lb_values.specs.declared.cell.Cell.TheVariants as cell
use Rattle.lb_values.specs.declared.meaning.Meaning.{Meaning}
use Rattle.lb_values.specs.declared.meaning.Meaning.TheVariants as meaning
use Rattle.lb_values.specs.declared.reach.Reach.{Reach}
use Rattle.lb_values.specs.declared.reach.Reach.TheVariants.{Local}
use Rattle.lb_values.specs.declared.value.Value.TheVariants as value
use Rattle.lb_model.specs.Kinds.{boxed_of}
use Rattle.lb_model_nest.specs.declared.nest.BoxContext.{BoxContext}
use Rattle.lb_model_nest.specs.declared.nest.BoxContext.TheVariants.{Register, Shifted}
use Rattle.lb_model_nest.specs.declared.nest.ListKind.{ListKind}
use Rattle.lb_model_nest.specs.declared.nest.ListKind.TheVariants as list
use Rattle.lb_model_nest.specs.Boxes.{list_opened, placed}
use Rattle.lb_model_nest.specs.Wholes.{Executed, Whole, and_then, change, is_vertical, looking, on, stop, tells}
use Rattle.lb_model_engine.specs.Reads.{code, dimension, equals, keyword, past_spaces}

-- ---- Lists that begin

-- behind a brace, or what means one; spaces before it are skipped
abbrev pub opened_by : Option Meaning → ListKind → Whole → Executed
opened_by (Some (meaning.Char category.BeginGroup code)) kind w = list_opened kind w
opened_by m kind w = stop TokenMisplaced w

abbrev pub brace_taken : ListKind → Whole → Executed
brace_taken kind w = past_spaces (λ tok m v. opened_by m kind v) w

-- `to` or `spread` and a dimension may stand before it
abbrev pub spread_to : Bool → (Target → Whole → Executed) → Whole → Executed
spread_to true row w = dimension (λ n v. row (Spread n) v) w
spread_to false row w = row Natural w

abbrev pub target_to : Bool → (Target → Whole → Executed) → Whole → Executed
target_to true row w = dimension (λ n v. row (To n) v) w
target_to false row w = keyword (codes "spread") (λ found v. spread_to found row v) w

abbrev pub target : (Target → Whole → Executed) → Whole → Executed
target row w = keyword (codes "to") (λ found v. target_to found row v) w

-- `\hbox` and `\vbox`
unfoldable pub box_begun : Axis → BoxContext → Whole → Executed
box_begun axis context w = target (λ size v. brace_taken (list.Box axis size context) v) w

-- ---- Boxes that are asked for

-- `\box`, which leaves the register void, and `\copy`
unfoldable pub box_taken : BoxContext → Whole → Executed
box_taken context w =
    code (λ n v. looking (cell.Boxed n ∷ []) (and_then (change Local (cell.Boxed n) value.Absent v) (placed context (boxed_of (tells v (cell.Boxed n)))))) w

unfoldable pub box_copied : BoxContext → Whole → Executed
box_copied context w = code (λ n v. looking (cell.Boxed n ∷ []) (placed context (boxed_of (tells v (cell.Boxed n))) v)) w

abbrev pub box_of : Option Meaning → BoxContext → Whole → Executed
box_of (Some (meaning.Row command.HBox)) context w = box_begun Horizontal context w
box_of (Some (meaning.Row command.VBox)) context w = box_begun Vertical context w
box_of (Some (meaning.Row command.Box)) context w = box_taken context w
box_of (Some (meaning.Row command.Copy)) context w = box_copied context w
box_of m context w = stop TokenMisplaced w

-- a row that takes a box; spaces before it are skipped
unfoldable pub box_wanted : BoxContext → Whole → Executed
box_wanted context w = past_spaces (λ tok m v. box_of m context v) w

-- `\setbox`
unfoldable pub setbox : Reach → Whole → Executed
setbox reach w = code (λ n v. equals (λ u. box_wanted (Register reach n) u) v) w

-- `\raise` and `\lower`
abbrev pub shifted_by : (ℤ → ℤ) → Whole → Executed
shifted_by f w = if is_vertical w.feed.mode then stop WrongMode w else dimension (λ n v. box_wanted (Shifted (f n)) v) w

unfoldable pub raise : Whole → Executed
raise w = shifted_by neg_ℤ w

unfoldable pub lower : Whole → Executed
lower w = shifted_by (λ n. n) w

-- `\wd`, `\ht`, `\dp` of a register: a void one stays
abbrev pub with_width : ℤ → Boxed → Boxed
with_width n box = roll-Boxed (record (out-Boxed box) { width = n })

abbrev pub with_height : ℤ → Boxed → Boxed
with_height n box = roll-Boxed (record (out-Boxed box) { height = n })

abbrev pub with_depth : ℤ → Boxed → Boxed
with_depth n box = roll-Boxed (record (out-Boxed box) { depth = n })

abbrev pub size_changed : Reach → ℕ → Option Boxed → (Boxed → Boxed) → Whole → Executed
size_changed reach n None f w = on w
size_changed reach n (Some box) f w = change reach (cell.Boxed n) (value.Boxed (f box)) w

unfoldable pub box_size : (ℤ → Boxed → Boxed) → Reach → Whole → Executed
box_size sized reach w =
    code
    (λ n v. equals (λ u. dimension (λ d x. looking (cell.Boxed n ∷ []) (size_changed reach n (boxed_of (tells x (cell.Boxed n))) (sized d) x)) u) v) w
