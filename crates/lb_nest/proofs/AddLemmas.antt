-- Nodes and boxes that are added to lists.
use Rattle.std.proofs.Common.{◌≡◌, ◌∙◌, ◌++◌, false, ℤ, List, [], ◌∷◌, ap, append-nil, append_assoc, refl, sym}
use Rattle.std.specs.Prelude.{Result, Ok, Err, if◌then◌else◌}
use Rattle.lb_base.specs.Answers.{Answers}
use Rattle.lb_base.specs.declared.fault.Kind.{Kind}
use Rattle.lb_base.specs.declared.fault.Stop.{Stop}
use Rattle.lb_base.specs.declared.fault.Stop.TheVariants.{At, Fault, Memory}
use Rattle.lb_base.specs.declared.node.Boxed.{Boxed, out-Boxed}
use Rattle.lb_base.specs.declared.node.HeadMark.TheOpen.{Boxed as InnerBox}
use Rattle.lb_base.specs.declared.node.Node.{Node, roll-Node, Boxed as BoxNode}
use Rattle.lb_base.specs.declared.node.Node.TheVariants.{rolls-Boxed}
use Rattle.lb_model_paper.specs.Lines.{appended, behind_glue as glued, depth_behind, interline, new_depth}
use Rattle.lb_model_paper.specs.declared.paragraph.LineRules.{LineRules}
use Rattle.lb_model_paper.specs.declared.pages.PagePart.{PagePart}
use Rattle.lb_model_nest.specs.Pages.{added, all_added, is_page, page_added, parts_shipped, ship}
use Rattle.lb_model_nest.specs.Paragraphs.{behind_glue, box_added, line_cells, line_rules, with_depth}
use Rattle.lb_model_nest.specs.Wholes.{Executed, Whole, and_then, looking, on, with_node}
use Rattle.lb_nest.specs.Pages.{box_with}

-- ---- Nodes

pub all-added-none : all_added [] ≡ on
unfolding all_added
all-added-none = refl

pub all-added-more : (node : Node) (nodes : List Node) → all_added (node ∷ nodes) ≡ (λ w. and_then (added node w) (all_added nodes))
unfolding all_added
all-added-more node nodes = refl

added-inside : (node : Node) (w : Whole) → is_page w.level.kind ≡ false → added node w ≡ on (with_node node w)
unfolding added
added-inside node w e = ap (λ b. if b then page_added node w else on (with_node node w)) e

abbrev pub with_nodes : List Node → Whole → Whole
with_nodes nodes w = record w { level = record w.level { nodes = w.level.nodes ++ nodes } }

-- to a list that is not that of pages
pub all-added-inside : (nodes : List Node) (w : Whole) → is_page w.level.kind ≡ false → all_added nodes w ≡ on (with_nodes nodes w)
unfolding all_added
all-added-inside [] w e = λ i. on (record w { level = record w.level { nodes = sym (append-nil w.level.nodes) i } })
all-added-inside (node ∷ nodes) w e =
    ap (λ (x : Executed). and_then x (all_added nodes)) (added-inside node w e)
    ∙ (λ i. record { done = (all-added-inside nodes (with_node node w) e i).done; noted = λ n. (all-added-inside nodes (with_node node w) e i).noted n })
    ∙ (λ i. on (record w { level = record w.level { nodes = append_assoc w.level.nodes (node ∷ []) nodes i } }))

-- ---- Parts of pages

pub parts-none : parts_shipped [] ≡ on
parts-none = refl

pub parts-more : (part : PagePart) (parts : List PagePart) → parts_shipped (part ∷ parts) ≡ (λ w. and_then (ship part w) (parts_shipped parts))
parts-more part parts = refl

-- ---- Boxes

box-node : (box : Boxed) → BoxNode box ≡ roll-Node (InnerBox box)
box-node box = sym (rolls-Boxed box)

abbrev answered : List Node → Result (List Node) Kind
answered nodes = Ok nodes

same-nodes : (a b : List Node) → answered a ≡ answered b → a ≡ b
same-nodes a b e = cc

glue-line : (before : Result (List Node) Kind) (box : Boxed) (nodes : List Node) (w : Whole) → glued [] box before ≡ answered nodes → behind_glue before box w ≡ all_added nodes (with_depth (out-Boxed box).depth w)
glue-line (Ok before) box nodes w e =
    (λ i. all_added (before ++ box-node box i ∷ []) (with_depth (out-Boxed box).depth w)) ∙ (λ i. all_added (same-nodes (before ++ roll-Node (InnerBox box) ∷ []) nodes e i) (with_depth (out-Boxed box).depth w))
glue-line (Err kind) box nodes w e = cc

pub line-added : (rules : LineRules) (box : Boxed) (nodes : List Node) (w : Whole) → appended rules [] box w.level.prev_depth ≡ Ok nodes → box_with rules box w ≡ all_added nodes (with_depth (out-Boxed box).depth w)
unfolding appended
line-added rules box nodes w e = glue-line (interline rules w.level.prev_depth (out-Boxed box).height) box nodes w e

glue-depth : (before : Result (List Node) Kind) (box : Boxed) (kind : Kind) → depth_behind box before ≡ Err kind → before ≡ Err kind
glue-depth (Ok before) box kind d = cc
glue-depth (Err other) box kind d = cc

-- where the depth behind a box is a fault, the glue before it is that fault
pub glue-refused : (rules : LineRules) (box : Boxed) (prev : ℤ) (stop : Stop) → Answers {T = ℤ} (new_depth rules box prev) (Err stop) → Answers {T = List Node} (interline rules prev (out-Boxed box).height) (Err stop)
unfolding new_depth
glue-refused rules box prev (Fault kind) e = glue-depth (interline rules prev (out-Boxed box).height) box kind e
glue-refused rules box prev Memory e = tt
glue-refused rules box prev (At fault) e = e

pub box-added-is : (box : Boxed) → box_added box ≡ (λ w. looking line_cells (box_with (line_rules w) box w))
unfolding box_added
box-added-is box = refl
