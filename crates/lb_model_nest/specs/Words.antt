-- Characters and spaces (TeXbook, chapters 4 and 12; tex.web, part 46, sections 1029 to 1045).
use Rattle.std.specs.Prelude.{◌++◌, ◌&&◌, Bool, true, false, ℕ, ℤ, pos, int_le, int_lt, List, [], ◌∷◌, Option, Some, None, Result, Ok, Err, if◌then◌else◌}
use Rattle.lb_base.specs.declared.fault.Kind.{Kind}
use Rattle.lb_base.specs.declared.fault.Kind.TheVariants.{StepLimit}
use Rattle.lb_base.specs.declared.node.Node.{Node}
use Rattle.lb_values.specs.declared.cell.Cell.TheVariants.{Sf}
use Rattle.lb_model.specs.Kinds.{space_factor_of}
use Rattle.lb_model_paper.specs.Fonts.{FontData}
use Rattle.lb_model_paper.specs.Words.{set_word, spaced}
use Rattle.lb_model_nest.specs.Fonts.{present}
use Rattle.lb_model_nest.specs.Pages.{has_code, missing_logged}
use Rattle.lb_model_nest.specs.Paragraphs.{begun_in_vertical}
use Rattle.lb_model_nest.specs.Wholes.{Executed, Whole, and_then, is_vertical, looking, on, stop, tells, without_steps}

-- ---- The end of a word

abbrev pub word_made : Option (List Node × ℕ) → Whole → Executed
word_made None w = stop StepLimit (without_steps w)
word_made (Some made) w = on (record w { level = record w.level { nodes = made.0 }; word = []; font = None; feed = record w.feed { left = made.1 } })

abbrev pub word_set : Option FontData → Whole → Executed
word_set None w = on w
word_set (Some font) w = word_made (set_word font w.feed.left w.level.nodes w.word) w

-- a word ends, if one is under construction
unfoldable pub word_ended : Whole → Executed
word_ended w = word_set w.font w

-- ---- The font of a word

-- it is that at its first character: up to the word's end nothing is executed but characters
abbrev pub font_kept : Option FontData → (FontData → Whole → Executed) → Whole → Executed
font_kept (Some font) row w = row font w
font_kept None row w = present row w

-- ---- Characters

-- the space factor behind a character with this one
abbrev pub factor_behind : ℤ → ℤ → ℤ
factor_behind of_code factor =
    if int_le of_code (pos 0) then factor else (if int_lt factor (pos 1000) && int_lt (pos 1000) of_code then pos 1000 else of_code)

abbrev pub in_word : ℕ → ℤ → FontData → Whole → Whole
in_word char of_code font w =
    record w { word = w.word ++ char ∷ []; font = Some font; level = record w.level { space_factor = factor_behind of_code w.level.space_factor } }

-- one that the font lacks is logged, and does not cut the word
abbrev pub put_as : Bool → ℕ → FontData → Whole → Executed
put_as true char font w = looking (Sf char ∷ []) (on (in_word char (space_factor_of (tells w (Sf char))) font w))
put_as false char font w = on (missing_logged font char (record w { font = Some font }))

abbrev pub character_put : ℕ → Whole → Executed
character_put char w = font_kept w.font (λ font v. put_as (has_code font char) char font v) w

-- a character: it begins a paragraph in a vertical list
unfoldable pub character : ℕ → Whole → Executed
character char w = and_then (begun_in_vertical true w) (character_put char)

-- ---- Spaces

abbrev pub space_made : Result (List Node) Kind → Whole → Executed
space_made (Err kind) w = stop kind w
space_made (Ok nodes) w = on (record w { level = record w.level { nodes = nodes } })

-- the space of a font at a factor
abbrev pub space_of : ℤ → FontData → Whole → Executed
space_of factor font w = space_made (spaced font.parameters factor w.level.nodes) w

-- the word before ends
abbrev pub space_behind : ℤ → FontData → Whole → Executed
space_behind factor font w = and_then (word_ended w) (space_of factor font)

abbrev pub space_put : ℤ → Whole → Executed
space_put factor w = font_kept w.font (λ font v. space_behind factor font v) w

-- a character of category 10 does nothing in a vertical list
unfoldable pub space : Whole → Executed
space w = if is_vertical w.feed.mode then on w else space_put w.level.space_factor w

-- `\ ` begins a paragraph there, and is a space of factor 1000
unfoldable pub control_space : Whole → Executed
control_space w = and_then (begun_in_vertical true w) (space_put (pos 1000))
