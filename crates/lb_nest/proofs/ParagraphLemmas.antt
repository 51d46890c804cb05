-- Indents and hyphens.
use Rattle.std.proofs.Common.{◌≡◌, ◌∙◌, Bool, true, false, ℤ, pos, [], ◌∷◌, None, ap, refl, sym}
use Rattle.std.specs.Prelude.{◌-ℤ◌, if◌then◌else◌, is_some}
use Rattle.lb_base.specs.declared.glue.Order.{Order}
use Rattle.lb_base.specs.declared.glue.Order.TheVariants.{Finite}
use Rattle.lb_base.specs.declared.glue.Target.TheVariants.{To}
use Rattle.lb_base.specs.declared.node.Axis.TheVariants.{Horizontal}
use Rattle.lb_base.specs.declared.node.Boxed.{Boxed, roll-Boxed}
use Rattle.lb_base.specs.declared.node.Node.{Char as CharNode}
use Rattle.lb_model_paper.specs.Boxes.{packed}
use Rattle.lb_model_paper.specs.Nodes.{natural_size}
use Rattle.lb_measure.proofs.Sums.{plus_none}
use Rattle.std.specs.Int.{is_negative}
use Rattle.lb_model_paper.specs.Dvi.{is_zero}
use Rattle.lb_model_paper.specs.Fonts.{FontData, metrics_of}
use Rattle.lb_model_paper.specs.Words.{known}
use Rattle.lb_model_nest.specs.Items.{hyphen_in, hyphen_parts}
use Rattle.lb_model_nest.specs.Pages.{missing_logged}
use Rattle.lb_model_nest.specs.Wholes.{Whole, on, with_node}

-- an empty box of a width
abbrev box_with : ℤ → ℤ → Order → Boxed
box_with width excess order =
    roll-Boxed (record { axis = Horizontal; items = []; width = width; height = pos 0; depth = pos 0; shift = pos 0; glue_set = record { excess = excess; order = order } })

abbrev pub empty_box : ℤ → Order → Boxed
empty_box width order = box_with width width order

order-by : (a b : Bool) → (if a then Finite else if b then Finite else Finite) ≡ Finite
order-by true b = refl
order-by false true = refl
order-by false false = refl

pub indent-made : (width : ℤ) → empty_box width Finite ≡ packed Horizontal [] (To width)
unfolding natural_size
indent-made width =
    ap (λ (e : ℤ). box_with width e Finite) (sym (plus_none width))
    ∙ ap (box_with width (width -ℤ pos 0)) (sym (order-by (is_zero (width -ℤ pos 0)) (is_negative (width -ℤ pos 0))))

pub hyphen-lacking : (font : FontData) (w : Whole) → metrics_of font 45 ≡ None → hyphen_in font w ≡ on (with_node (hyphen_parts []) (missing_logged font 45 w))
hyphen-lacking font w e =
    ap (λ (b : Bool). if b then on (with_node (hyphen_parts (CharNode 45 (known (metrics_of font 45)) font.id ∷ [])) w) else on (with_node (hyphen_parts []) (missing_logged font 45 w))) (ap is_some e)
