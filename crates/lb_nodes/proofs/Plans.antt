-- Totals that are those of a list, and the lengths of its box.
use Rattle.std.proofs.Common.{◌≡◌, List, ℤ, ◌-ℤ◌, sym, ap, ◌∙◌, subst}
use Rattle.lb_base.specs.declared.glue.GlueSet.{GlueSet}
use Rattle.lb_base.specs.declared.glue.Target.{Target}
use Rattle.lb_base.specs.declared.node.Axis.{Axis}
use Rattle.lb_base.specs.declared.node.Axis.TheVariants.{Horizontal, Vertical}
use Rattle.lb_base.specs.declared.node.Node.{Node}
use Rattle.lb_model_paper.specs.Boxes.{AreSmallSums, asked, asked_size, box_size, excess_of, IsSmallAcross, IsSmallBox, set_of, used_order}
use Rattle.lb_model_paper.specs.Dvi.{IsSmall}
use Rattle.lb_nodes.specs.declared.totals.Totals.{Totals}
use Rattle.lb_nodes.specs.Setting.{AreSmallShifts}
use Rattle.lb_nodes.specs.Totals.{AreSmallLengths, AreSmallReaches, AreTotals, natural_in}
use Rattle.lb_nodes.proofs.Totalling.{natural_in_is}

pub asked_size_is : (axis : Axis) (nodes : List Node) (totals : Totals) (target : Target) → AreTotals axis nodes totals → asked target (natural_in axis totals) ≡ asked_size axis nodes target
asked_size_is axis nodes totals target are = ap (λ (z : ℤ). asked target z) (natural_in_is axis nodes totals are)

pub excess_of_is : (axis : Axis) (nodes : List Node) (totals : Totals) (target : Target) → AreTotals axis nodes totals → asked target (natural_in axis totals) -ℤ natural_in axis totals ≡ excess_of axis nodes target
excess_of_is axis nodes totals target are = ap (λ (z : ℤ). asked target z -ℤ z) (natural_in_is axis nodes totals are)

pub set_of_is : (axis : Axis) (nodes : List Node) (target : Target) (excess : ℤ) (set : GlueSet) → set ≡ record { excess = excess; order = used_order excess nodes } → excess ≡ excess_of axis nodes target → set ≡ set_of axis nodes target
set_of_is axis nodes target excess set is same =
    let G : ℤ → GlueSet = λ z. record { excess = z; order = used_order z nodes } in
    is ∙ ap G same

IsSmallAcross-from : (axis : Axis) (nodes : List Node) (totals : Totals) (target : Target) → AreTotals axis nodes totals → AreSmallReaches axis totals → IsSmallAcross axis (box_size axis nodes target)
IsSmallAcross-from Horizontal nodes totals target are small = let P : ℤ → Type 0 = λ z. IsSmall z in (subst P are.up small.0, subst P are.down small.1)
IsSmallAcross-from Vertical nodes totals target are small = let P : ℤ → Type 0 = λ z. IsSmall z in subst P are.right small

AreSmallReaches-from : (axis : Axis) (nodes : List Node) (totals : Totals) (target : Target) → AreTotals axis nodes totals → IsSmallAcross axis (box_size axis nodes target) → AreSmallReaches axis totals
AreSmallReaches-from Horizontal nodes totals target are small = let P : ℤ → Type 0 = λ z. IsSmall z in (subst P (sym are.up) small.0, subst P (sym are.down) small.1)
AreSmallReaches-from Vertical nodes totals target are small = let P : ℤ → Type 0 = λ z. IsSmall z in subst P (sym are.right) small

pub IsSmallBox-from : (axis : Axis) (nodes : List Node) (totals : Totals) (target : Target) → AreTotals axis nodes totals → AreSmallSums axis nodes → AreSmallLengths axis totals target → AreSmallShifts (set_of axis nodes target) nodes → IsSmallBox axis nodes target
IsSmallBox-from axis nodes totals target are sums lengths shifts =
    let P : ℤ → Type 0 = λ z. IsSmall z in
    record {
      sums = sums;
      asked = subst P (asked_size_is axis nodes totals target are) lengths.along;
      across = IsSmallAcross-from axis nodes totals target are lengths.reaches;
      excess = subst P (excess_of_is axis nodes totals target are) lengths.excess;
      shifts = shifts;
    }

pub AreSmallLengths-from : (axis : Axis) (nodes : List Node) (totals : Totals) (target : Target) → AreTotals axis nodes totals → IsSmallBox axis nodes target → AreSmallLengths axis totals target
AreSmallLengths-from axis nodes totals target are small =
    let P : ℤ → Type 0 = λ z. IsSmall z in
    record {
      along = subst P (sym (asked_size_is axis nodes totals target are)) small.asked;
      excess = subst P (sym (excess_of_is axis nodes totals target are)) small.excess;
      reaches = AreSmallReaches-from axis nodes totals target are small.across;
    }
