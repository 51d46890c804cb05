-- What a font has that was made from a short description, row by row.
use Rattle.std.specs.Prelude.{◌≡◌, ℕ, ◌/◌, ◌<◌, Bool, ◌&&◌, ◌==◌, List, [], length, slice_index, Option, None, Some, option_map, ℤ, pos, ⊤}
use Rattle.std.specs.List.{find}
use Rattle.std.specs.Int.{int_div_euclid}
use Rattle.lb_base.specs.declared.page.FontId.{FontId}
use Rattle.lb_base.specs.declared.font.Metrics.{Metrics}
use Rattle.lb_base.specs.declared.font.Parameters.{Parameters}
use Rattle.lb_base.specs.declared.font.Side.{Side}
use Rattle.lb_base.specs.declared.font.Side.TheVariants.{Char, Edge}
use Rattle.lb_base.specs.declared.font.LigStep.{LigStep}
use Rattle.lb_base.specs.declared.font.LigStep.TheVariants.{Nothing}
use Rattle.lb_model_paper.specs.Fonts.{FontData, metrics_of, step_of}
use Rattle.lb_model_paper.specs.FontFiles.{font_of, ligature, scaled}
use Rattle.lb_model_paper.specs.FontRules.{first_broken}
use Rattle.lb_tfm_make.specs.declared.spec.CharWidth.{CharWidth}
use Rattle.lb_tfm_make.specs.declared.spec.FixParameters.{FixParameters}
use Rattle.lb_tfm_make.specs.declared.spec.FontSpec.{FontSpec}
use Rattle.lb_tfm_make.specs.declared.spec.PairStep.{PairStep}
use Rattle.lb_tfm_make.specs.declared.stop.MakeStop.{MakeStop}
use Rattle.lb_tfm_make.specs.declared.stop.MakeStop.TheVariants.{Memory, TooManyWidths}
use Rattle.lb_tfm_make.specs.FontBytes.{distinct_widths, fix_word}
use Rattle.lb_tfm_make.specs.FontSpecs.{row_of}

-- the four bytes of a word at a size
abbrev pub scaled_bytes : ℕ → List ℕ → ℤ
scaled_bytes size bytes = scaled size (slice_index bytes 0) (slice_index bytes 1) (slice_index bytes 2) (slice_index bytes 3)

-- a fix-word at a size, in scaled points
unfoldable pub scaled_fix : ℕ → ℤ → ℤ
scaled_fix size fix = scaled_bytes size (fix_word fix)

-- each character has the height and the depth of the font, and no italic correction
abbrev pub metrics_at : FontSpec → ℕ → CharWidth → Metrics
metrics_at spec size row = record {
  width = scaled_fix size row.width;
  height = scaled_fix size spec.height;
  depth = scaled_fix size spec.depth;
  italic = pos 0;
}

-- the slant is a pure number, which is rounded down to 16 binary places at every size
abbrev pub parameters_at : FixParameters → ℕ → Parameters
parameters_at p size = record {
  slant = int_div_euclid p.slant (pos 16);
  space = scaled_fix size p.space;
  stretch = scaled_fix size p.stretch;
  shrink = scaled_fix size p.shrink;
  x_height = scaled_fix size p.x_height;
  quad = scaled_fix size p.quad;
  extra_space = scaled_fix size p.extra_space;
}

abbrev pub id_at : FontSpec → ℕ → FontId
id_at spec size = record { name = []; size = pos size; check = spec.check; design = spec.design / 16 }

abbrev pub is_between : ℕ → ℕ → PairStep → Bool
is_between left right step = step.left == left && step.right == right

abbrev pub action_of : Option PairStep → LigStep
action_of None = Nothing
action_of (Some step) = ligature step.op step.rem

-- what the first row for these two codes says
abbrev pub action_between : List PairStep → ℕ → ℕ → LigStep
action_between steps left right = action_of (find (is_between left right) steps)

-- the font at a size: what it has for each code, with a row or without, and between each two codes and at the edges
pub record IsFontOf (spec : FontSpec) (size : ℕ) (font : FontData) : Type 0 where
  pub id : font.id ≡ id_at spec size
  pub parameters : font.parameters ≡ parameters_at spec.params size
  pub metrics : (code : ℕ) → metrics_of font code ≡ option_map (metrics_at spec size) (row_of spec.widths code)
  pub steps : (left right : ℕ) → step_of font (Char left) (Char right) ≡ action_between spec.steps left right
  pub left_edge : (right : Side) → step_of font Edge right ≡ Nothing
  pub right_edge : (left : Side) → step_of font left Edge ≡ Nothing

-- the file breaks no rule, and at each size gives such a font
pub record IsMadeOf (spec : FontSpec) (bytes : List ℕ) : Type 0 where
  pub kept : first_broken bytes ≡ None
  pub fonts : (size : ℕ) → 0 < size → size < 134217728 → IsFontOf spec size (font_of bytes (pos size))

-- only for want of memory, or for over 255 distinct widths
abbrev pub IsStop : FontSpec → MakeStop → Type 0
IsStop spec Memory = ⊤
IsStop spec TooManyWidths = 255 < length (distinct_widths spec.widths)
