-- A font at a size, as the setting of words sees it: the metrics of its characters, and what its ligature and kerning
-- programs do between two of them (The TeXbook, appendix F; tex.web, part 30). Lengths are in scaled points.
use Rattle.std.specs.Prelude.{ℕ, zero, suc, Bool, true, is_some, List, [], ◌∷◌, Option, None, Some, nat_lt, ◌==◌, if◌then◌else◌, slice_index_or}
use Rattle.std.specs.List.{list_all}
use Rattle.lb_base.specs.declared.page.FontId.{FontId}
use Rattle.lb_base.specs.declared.font.Metrics.{Metrics}
use Rattle.lb_base.specs.declared.font.Parameters.{Parameters}
use Rattle.lb_base.specs.declared.font.Side.{Side}
use Rattle.lb_base.specs.declared.font.Side.TheVariants.{Char, Edge}
use Rattle.lb_base.specs.declared.font.LigStep.{LigStep}
use Rattle.lb_base.specs.declared.font.LigStep.TheVariants.{Nothing, Kern, Lig}
use Rattle.lb_base.specs.declared.font.Step.{Step}

-- A font at a size. `metrics` has an entry for each code. `steps` is the table of the steps of all programs, and `starts`
-- tells by the code of the left character how many steps lie before its program; `edge_start` tells it of the left edge
-- of a word. The right edge counts as a character of the code `edge_code`, if there is one.
pub record FontData : Type 0 where
  pub id : FontId
  pub parameters : Parameters
  pub metrics : List (Option Metrics)
  pub steps : List Step
  pub starts : List (Option ℕ)
  pub edge_start : Option ℕ
  pub edge_code : Option ℕ

-- none where the font lacks the character
abbrev pub metrics_of : FontData → ℕ → Option Metrics
metrics_of font code = slice_index_or font.metrics code None

-- The steps of the program that begins behind so many steps of the table. Each skips some of the steps behind it, a skip
-- of 128 ends the program with its step, and a larger one before its step.
unfoldable pub program : List Step → ℕ → List Step
program [] place = []
program (step ∷ steps) (suc place) = program steps place
program (step ∷ steps) zero = if nat_lt 128 step.skip then [] else if step.skip == 128 then step ∷ [] else step ∷ program steps step.skip

abbrev pub start_of : FontData → Side → Option ℕ
start_of font (Char code) = slice_index_or font.starts code None
start_of font Edge = font.edge_start

abbrev pub program_from : List Step → Option ℕ → List Step
program_from steps None = []
program_from steps (Some start) = program steps start

-- the code that stands for what is at the right
abbrev pub code_of : FontData → Side → Option ℕ
code_of font (Char code) = Some code
code_of font Edge = font.edge_code

-- what the first of these steps for this code does
unfoldable pub action_for : List Step → ℕ → LigStep
action_for [] code = Nothing
action_for (step ∷ steps) code = if step.next == code then step.action else action_for steps code

abbrev pub action_before : List Step → Option ℕ → LigStep
action_before steps None = Nothing
action_before steps (Some code) = action_for steps code

-- what the font does between two sides
abbrev pub step_of : FontData → Side → Side → LigStep
step_of font left right = action_before (program_from font.steps (start_of font left)) (code_of font right)

-- the character that a ligature puts there exists
abbrev pub is_drawn : List (Option Metrics) → LigStep → Bool
is_drawn metrics Nothing = true
is_drawn metrics (Kern width) = true
is_drawn metrics (Lig code keep_left keep_right pass) = is_some (slice_index_or metrics code None)

unfoldable pub are_drawn : List (Option Metrics) → List Step → Bool
are_drawn metrics steps = list_all (λ (step : Step). is_drawn metrics step.action) steps

-- the font under a name
abbrev pub named : FontData → List ℕ → FontData
named font name = record font { id = record font.id { name = name } }
