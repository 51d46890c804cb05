-- Cells that are noted one after another.
use Rattle.std.proofs.Common.{◌≡◌, ◌∙◌, Option, None, Some, refl, ap}
use Rattle.std.specs.Option.{option_map}
use Rattle.lb_values.specs.declared.cell.Cell.{Cell}
use Rattle.lb_model.specs.Settings.{Notes, noted}

composed : (first second : Cell) (notes : Option Notes) → option_map (noted second) (option_map (noted first) notes) ≡ option_map (λ n. noted second (noted first n)) notes
composed first second None = refl
composed first second (Some n) = refl

pub noted-both : (first second : Cell) (before between after : Option Notes) → after ≡ option_map (noted second) between → between ≡ option_map (noted first) before → after ≡ option_map (λ n. noted second (noted first n)) before
noted-both first second before between after now then = now ∙ ap (option_map (noted second)) then ∙ composed first second before
