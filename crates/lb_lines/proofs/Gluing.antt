-- The glue before a box.
use Rattle.std.proofs.Common.{◌≡◌, Bool, true, false, if◌then◌else◌, List, [], ◌∷◌, ◌++◌, Result, Ok, ℤ, pos, neg_ℤ, int_le, int_lt, ◌-ℤ◌, sym, ap, ◌∙◌}
use Rattle.lb_base.specs.declared.fault.Kind.{Kind}
use Rattle.lb_base.specs.declared.glue.Glue.{Glue as GlueSize}
use Rattle.lb_base.specs.declared.node.Boxed.{Boxed, out-Boxed}
use Rattle.lb_base.specs.declared.node.HeadMark.TheOpen.{Boxed as InnerBox}
use Rattle.lb_base.specs.declared.node.Node as made
use Rattle.lb_base.specs.declared.node.Node.{Node, roll-Node}
use Rattle.lb_base.specs.declared.node.Node.TheVariants.{rolls-Boxed, rolls-Glue}
use Rattle.lb_model_paper.specs.Breaks.{glue_node}
use Rattle.lb_model_paper.specs.Lines.{appended, behind_glue, depth_behind, glue_between, glue_nodes, interline, new_depth}
use Rattle.lb_model_paper.specs.declared.paragraph.LineRules.{LineRules}
use Rattle.lb_lines.specs.Glues.{IsGlueFor, IsGlueOf}
use Rattle.lb_lines.specs.declared.glue.Before.{Before}
use Rattle.lb_lines.specs.declared.glue.Before.TheVariants.{Nothing, Glue, TooWide}

pub interline-none : (rules : LineRules) (prev height : ℤ) → int_le prev (neg_ℤ (pos 65536000)) ≡ true → interline rules prev height ≡ Ok []
unfolding interline
interline-none rules prev height low = ap (λ (b : Bool). if b then Ok [] else glue_nodes (glue_between rules prev height)) low

pub interline-glue : (rules : LineRules) (prev height : ℤ) → int_le prev (neg_ℤ (pos 65536000)) ≡ false → interline rules prev height ≡ glue_nodes (glue_between rules prev height)
unfolding interline
interline-glue rules prev height high = ap (λ (b : Bool). if b then Ok [] else glue_nodes (glue_between rules prev height)) high

pub glue_between-low : (rules : LineRules) (prev height : ℤ) → int_lt (rules.baselineskip.width -ℤ prev -ℤ height) rules.lineskiplimit ≡ true → glue_between rules prev height ≡ rules.lineskip
glue_between-low rules prev height low = ap (λ (b : Bool). if b then rules.lineskip else record rules.baselineskip { width = rules.baselineskip.width -ℤ prev -ℤ height }) low

pub glue_between-high : (rules : LineRules) (prev height : ℤ) → int_lt (rules.baselineskip.width -ℤ prev -ℤ height) rules.lineskiplimit ≡ false → glue_between rules prev height ≡ record rules.baselineskip { width = rules.baselineskip.width -ℤ prev -ℤ height }
glue_between-high rules prev height high = ap (λ (b : Bool). if b then rules.lineskip else record rules.baselineskip { width = rules.baselineskip.width -ℤ prev -ℤ height }) high

pub glue_for : (rules : LineRules) (prev height : ℤ) (glue : GlueSize) (before : Before) → interline rules prev height ≡ glue_nodes glue → IsGlueOf glue before → IsGlueFor rules prev height before
glue_for rules prev height glue Nothing is of = absurd of
glue_for rules prev height glue (Glue g) is of = is ∙ of
glue_for rules prev height glue TooWide is of = is ∙ of

-- ---- the list and the depth behind a box

pub depth-is : (rules : LineRules) (box : Boxed) (prev : ℤ) (before : Result (List Node) Kind) → interline rules prev (out-Boxed box).height ≡ before → new_depth rules box prev ≡ depth_behind box before
unfolding new_depth
depth-is rules box prev before is = ap (depth_behind box) is

pub list-is : (rules : LineRules) (nodes : List Node) (box : Boxed) (prev : ℤ) (before more : List Node) → interline rules prev (out-Boxed box).height ≡ Ok before → more ≡ nodes ++ before ++ roll-Node (InnerBox box) ∷ [] → appended rules nodes box prev ≡ Ok more
unfolding appended
list-is rules nodes box prev before more is more_is = ap (behind_glue nodes box) is ∙ ap (λ (ns : List Node). Ok ns) (sym more_is)

pub box-is : (box held : Boxed) → held ≡ box → made.Boxed held ≡ roll-Node (InnerBox box)
box-is box held is = ap made.Boxed is ∙ sym (rolls-Boxed box)

pub glue-is : (glue : GlueSize) → made.Glue glue ≡ glue_node glue
glue-is glue = sym (rolls-Glue glue)
