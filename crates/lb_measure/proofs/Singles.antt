-- The sums of a list of one node.
use Rattle.std.proofs.Common.{◌≡◌, [], ◌∷◌, ℤ, pos, ◌+ℤ◌, if◌then◌else◌, w64, to_z, of_z, refl, sym, ap, ◌∙◌, subst, arith}
use Rattle.std.proofs.lemmas.Int.{ints}
use Rattle.lb_base.specs.declared.glue.Glue.{Glue as GlueSize}
use Rattle.lb_base.specs.declared.glue.Order.{Order}
use Rattle.lb_base.specs.declared.glue.Order.TheVariants.{Finite, Fil, Fill, Filll}
use Rattle.lb_base.specs.declared.node.Axis.TheVariants.{Horizontal}
use Rattle.lb_base.specs.declared.node.Boxed.{Boxed}
use Rattle.lb_base.specs.declared.node.Discretionary.{Discretionary}
use Rattle.lb_base.specs.declared.node.HeadMark.{HeadMark}
use Rattle.lb_base.specs.declared.node.HeadMark.TheOpen.{Char, Lig, Kern, Glue, Penalty, Disc, Rule, Boxed as InnerBox, Note, Mark, Ins, Adjust}
use Rattle.lb_base.specs.declared.node.Node as made
use Rattle.lb_base.specs.declared.node.Node.{Node, Node-F, out-Node, roll-Node, roll-out-Node}
use Rattle.lb_base.specs.declared.node.Node.TheVariants.{outs-Glue, rolls-Glue}
use Rattle.lb_model_paper.specs.Breaks.{any_shrink, any_shrink_in, glue_node, sums_of}
use Rattle.lb_model_paper.specs.Nodes.{along, given, same_order, size_in, size_of, space_in, space_of, stretch_in, stretch_of}
use Rattle.lb_model_paper.specs.declared.paragraph.LineSums.{LineSums}
use Rattle.lb_measure.specs.Amounts.{AreNear, AreOfGlue, IsNear}
use Rattle.lb_measure.proofs.Sums.{held, none_plus, plus_none, sums-same}

-- what a node adds to each sum
abbrev pub amounts_of : Node → LineSums
amounts_of node = record {
  width = along Horizontal node;
  finite = stretch_of Finite node;
  fil = stretch_of Fil node;
  fill = stretch_of Fill node;
  filll = stretch_of Filll node;
  shrink = any_shrink node;
}

pub sums_of-one : (node : Node) → sums_of (node ∷ []) ≡ amounts_of node
unfolding sums_of
sums_of-one node =
    sums-same (sums_of (node ∷ [])) (amounts_of node) (none_plus (along Horizontal node)) (none_plus (stretch_of Finite node)) (none_plus (stretch_of Fil node))
    (none_plus (stretch_of Fill node)) (none_plus (stretch_of Filll node)) (none_plus (any_shrink node))

-- ---- glue

along-glue : (node : Node) (glue : GlueSize) → out-Node node ≡ Glue glue → along Horizontal node ≡ glue.width
unfolding along space_of size_of
along-glue node glue is = ap (λ (layer : Node-F HeadMark Node Boxed Discretionary). given (space_in layer) +ℤ (size_in layer).width) is ∙ plus_none glue.width

stretch_of-glue : (order : Order) (node : Node) (glue : GlueSize) → out-Node node ≡ Glue glue → stretch_of order node ≡ (if same_order glue.stretch_order order then glue.stretch else pos 0)
unfolding stretch_of
stretch_of-glue order node glue is = ap (λ (layer : Node-F HeadMark Node Boxed Discretionary). stretch_in order layer) is

any_shrink-glue : (node : Node) (glue : GlueSize) → out-Node node ≡ Glue glue → any_shrink node ≡ glue.shrink
unfolding any_shrink
any_shrink-glue node glue is = ap (λ (layer : Node-F HeadMark Node Boxed Discretionary). any_shrink_in layer) is

pub sums_of-out_glue : (node : Node) (glue : GlueSize) (sums : LineSums) → out-Node node ≡ Glue glue → AreOfGlue glue sums → sums ≡ sums_of (node ∷ [])
sums_of-out_glue node glue sums is are =
    sums-same sums (amounts_of node) (are.width ∙ sym (along-glue node glue is)) (are.finite ∙ sym (stretch_of-glue Finite node glue is)) (are.fil ∙ sym (stretch_of-glue Fil node glue is))
    (are.fill ∙ sym (stretch_of-glue Fill node glue is)) (are.filll ∙ sym (stretch_of-glue Filll node glue is)) (are.shrink ∙ sym (any_shrink-glue node glue is))
    ∙ sym (sums_of-one node)

pub sums_of-glue : (node : Node) (glue : GlueSize) (sums : LineSums) → node ≡ made.Glue glue → AreOfGlue glue sums → sums ≡ sums_of (node ∷ [])
sums_of-glue node glue sums is are = sums_of-out_glue node glue sums (ap out-Node is ∙ outs-Glue glue) are

-- ---- other nodes

no_stretch_in : (node : Node) (order : Order) (layer : Node-F HeadMark Node Boxed Discretionary) → out-Node node ≡ layer → ((glue : GlueSize) → node ≡ made.Glue glue → ⊥) → stretch_in order layer ≡ pos 0
no_stretch_in node order (Glue glue) is other = absurd (other glue (sym (roll-out-Node node) ∙ ap roll-Node is ∙ rolls-Glue glue))
no_stretch_in node order (Char code metrics font) is other = refl
no_stretch_in node order (Lig ligature) is other = refl
no_stretch_in node order (Kern width origin) is other = refl
no_stretch_in node order (Penalty penalty) is other = refl
no_stretch_in node order (Disc parts) is other = refl
no_stretch_in node order (Rule size) is other = refl
no_stretch_in node order (InnerBox box) is other = refl
no_stretch_in node order (Note note) is other = refl
no_stretch_in node order (Mark mark) is other = refl
no_stretch_in node order (Ins footnote) is other = refl
no_stretch_in node order (Adjust material) is other = refl

no_shrink_in : (node : Node) (layer : Node-F HeadMark Node Boxed Discretionary) → out-Node node ≡ layer → ((glue : GlueSize) → node ≡ made.Glue glue → ⊥) → any_shrink_in layer ≡ pos 0
no_shrink_in node (Glue glue) is other = absurd (other glue (sym (roll-out-Node node) ∙ ap roll-Node is ∙ rolls-Glue glue))
no_shrink_in node (Char code metrics font) is other = refl
no_shrink_in node (Lig ligature) is other = refl
no_shrink_in node (Kern width origin) is other = refl
no_shrink_in node (Penalty penalty) is other = refl
no_shrink_in node (Disc parts) is other = refl
no_shrink_in node (Rule size) is other = refl
no_shrink_in node (InnerBox box) is other = refl
no_shrink_in node (Note note) is other = refl
no_shrink_in node (Mark mark) is other = refl
no_shrink_in node (Ins footnote) is other = refl
no_shrink_in node (Adjust material) is other = refl

no_stretch : (node : Node) (order : Order) → ((glue : GlueSize) → node ≡ made.Glue glue → ⊥) → stretch_of order node ≡ pos 0
unfolding stretch_of
no_stretch node order other = no_stretch_in node order (out-Node node) refl other

no_shrink : (node : Node) → ((glue : GlueSize) → node ≡ made.Glue glue → ⊥) → any_shrink node ≡ pos 0
unfolding any_shrink
no_shrink node other = no_shrink_in node (out-Node node) refl other

near_none : IsNear 1 (pos 0)
near_none = record { low = omega (arith, ints); high = omega (arith, ints) }

pub record IsSingle (node : Node) (sums : LineSums) : Type 0 where
  pub value : sums ≡ sums_of (node ∷ [])
  pub near : AreNear 1 sums

-- a node that has a width alone, as the code holds it
pub sums_of-other : (node : Node) (width : ℤ) → ((glue : GlueSize) → node ≡ made.Glue glue → ⊥) → width ≡ along Horizontal node → IsNear 1 width
    → IsSingle node (record { width = to_z w64 (of_z w64 width); finite = pos 0; fil = pos 0; fill = pos 0; filll = pos 0; shrink = pos 0 })
sums_of-other node width other is near =
    let same : to_z w64 (of_z w64 width) ≡ width = held width (record { low = omega (arith, ints, near.low); high = omega (arith, ints, near.high) }) in
    let P : ℤ → Type 0 = λ z. IsNear 1 z in
    record {
      value = sums-same _ (amounts_of node) (same ∙ is) (sym (no_stretch node Finite other)) (sym (no_stretch node Fil other)) (sym (no_stretch node Fill other)) (sym (no_stretch node Filll other)) (sym (no_shrink node other)) ∙ sym (sums_of-one node);
      near = record { width = subst P (sym same) near; finite = near_none; fil = near_none; fill = near_none; filll = near_none; shrink = near_none };
    }

-- the glue at an end of a line
pub sums_of-end : (glue : GlueSize) (sums : LineSums) → AreOfGlue glue sums → sums ≡ sums_of (glue_node glue ∷ [])
sums_of-end glue sums are = sums_of-out_glue (glue_node glue) glue sums (ap out-Node (rolls-Glue glue) ∙ outs-Glue glue) are
