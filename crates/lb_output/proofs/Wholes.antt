-- The box of a page, step by step.
use Rattle.std.proofs.Common.{◌≡◌, ◌∙◌, ap, sym, subst, refl, Bool, true, false, List, ◌++◌, ◌∷◌, Option, Result, Ok, Err, ℤ, nat_lt, if◌then◌else◌, pos}
use Rattle.lb_base.specs.Answers.{Answers}
use Rattle.lb_base.specs.declared.fault.Kind.{Kind}
use Rattle.lb_base.specs.declared.fault.Kind.TheVariants.{DepthLimit, DimenTooLarge}
use Rattle.lb_base.specs.declared.fault.Stop.{Stop}
use Rattle.lb_base.specs.declared.fault.Stop.TheVariants.{At, Fault, Memory}
use Rattle.lb_base.specs.declared.glue.Order.TheVariants.{Finite}
use Rattle.lb_base.specs.declared.glue.Target.TheVariants.{To}
use Rattle.lb_base.specs.declared.node.Axis.TheVariants.{Horizontal, Vertical}
use Rattle.lb_base.specs.declared.node.Boxed.{Boxed, roll-Boxed}
use Rattle.lb_base.specs.declared.node.Node.{Node}
use Rattle.lb_model_paper.specs.declared.pages.HeadFoot.{HeadFoot}
use Rattle.lb_model_paper.specs.declared.pages.HeadFoot.TheVariants.{Neither, Foot, Head}
use Rattle.lb_model_paper.specs.declared.pages.PageLook.{PageLook}
use Rattle.lb_model_paper.specs.declared.pages.PagePart.{PagePart}
use Rattle.lb_model_paper.specs.Boxes.{nesting_of_list, packs}
use Rattle.lb_model_paper.specs.Nodes.{shown}
use Rattle.lb_model_paper.specs.Pages.{fil_glue}
use Rattle.lb_model_paper.specs.PageBoxes.{are_small_heights, both, is_odd, margin_of, mark_nodes, page_box_of, page_boxed, page_height, page_items, running_box, running_in, some_box, used_by}
use Rattle.lb_output.specs.Heights.{IsHeights}
use Rattle.lb_output.specs.Layouts.{items_by, nested_by}
use Rattle.lb_output.specs.Running.{head_by, running_by}
use Rattle.lb_output.specs.declared.building.Layout.{Layout}
use Rattle.lb_output.specs.declared.heights.Heights.{Heights}

heads : (odd : Bool) (digits : List Node) (left right : Option Boxed) → head_by odd digits (if odd then right else left) ≡ (if odd then mark_nodes right ++ fil_glue ∷ digits else digits ++ fil_glue ∷ mark_nodes left)
heads true digits left right = refl
heads false digits left right = refl

by-style : (style : HeadFoot) (look : PageLook) → running_by style (is_odd look.number) look.digits (if is_odd look.number then look.right else look.left) look.lengths.textwidth ≡ running_in style look
by-style Neither look = refl
by-style Foot look = refl
by-style Head look = ap (λ (ns : List Node). some_box (packs Horizontal (shown ns) (To look.lengths.textwidth))) (heads (is_odd look.number) look.digits look.left look.right)

pub running-is : (look : PageLook) (odd : Bool) (mark : Option Boxed) (w : ℤ) → odd ≡ is_odd look.number → mark ≡ (if odd then look.right else look.left) → w ≡ look.lengths.textwidth → running_by look.style odd look.digits mark w ≡ running_box look
running-is look odd mark w o m width =
    ap (λ (z : ℤ). running_by look.style odd look.digits mark z) width
    ∙ ap (λ (x : Option Boxed). running_by look.style odd look.digits x look.lengths.textwidth) m
    ∙ ap (λ (b : Bool). running_by look.style b look.digits (if b then look.right else look.left) look.lengths.textwidth) o
    ∙ by-style look.style look

pub same-small : (part : PagePart) (look : PageLook) (r : Bool) (g : ℤ) (feet : List Node) → r ≡ are_small_heights look.lengths g feet → g ≡ part.goal → feet ≡ part.feet → are_small_heights look.lengths part.goal part.feet ≡ r
same-small part look r g feet is eg ef = sym (is ∙ ap (λ (z : ℤ). are_small_heights look.lengths z feet) eg ∙ ap (λ (ns : List Node). are_small_heights look.lengths part.goal ns) ef)

pub same-heights : (part : PagePart) (look : PageLook) (heights : Heights) (g : ℤ) (feet : List Node) → IsHeights look.lengths g feet heights → g ≡ part.goal → feet ≡ part.feet → IsHeights look.lengths part.goal part.feet heights
same-heights part look heights g feet is eg ef =
    let goals : ℤ → Type 0 = λ z. IsHeights look.lengths z feet heights in
    let rest : List Node → Type 0 = λ ns. IsHeights look.lengths part.goal ns heights in
    subst rest ef (subst goals eg is)

pub large : (part : PagePart) (look : PageLook) → are_small_heights look.lengths part.goal part.feet ≡ false → page_box_of part look ≡ Err DimenTooLarge
unfolding page_box_of
large part look is = ap (λ (b : Bool). if b then page_boxed look part.goal part.feet (both (packs Vertical (shown part.items) (To part.goal)) (running_box look)) else Err DimenTooLarge) is

small : (part : PagePart) (look : PageLook) → are_small_heights look.lengths part.goal part.feet ≡ true → page_box_of part look ≡ page_boxed look part.goal part.feet (both (packs Vertical (shown part.items) (To part.goal)) (running_box look))
unfolding page_box_of
small part look is = ap (λ (b : Bool). if b then page_boxed look part.goal part.feet (both (packs Vertical (shown part.items) (To part.goal)) (running_box look)) else Err DimenTooLarge) is

through : (look : PageLook) (goal : ℤ) (feet : List Node) (e : Result (Boxed × Option Boxed) Kind) (stop : Stop) → Answers e (Err stop) → Answers (page_boxed look goal feet e) (Err stop)
through look goal feet e Memory is = tt
through look goal feet e (Fault kind) is = ap (λ (r : Result (Boxed × Option Boxed) Kind). page_boxed look goal feet r) is
through look goal feet e (At fault) is = absurd is

pub fails : (part : PagePart) (look : PageLook) (stop : Stop) → are_small_heights look.lengths part.goal part.feet ≡ true → Answers (both (packs Vertical (shown part.items) (To part.goal)) (running_box look)) (Err stop) → Answers (page_box_of part look) (Err stop)
fails part look stop is answer =
    let b = both (packs Vertical (shown part.items) (To part.goal)) (running_box look) in
    let there : Answers (page_boxed look part.goal part.feet b) (Err stop) = through look part.goal part.feet b stop answer in
    let motive : Result Boxed Kind → Type 0 = λ m. Answers m (Err stop) in
    subst motive (sym (small part look is)) there

abbrev pub layout-of : PageLook → ℤ → Layout
layout-of look margin = record { lengths = look.lengths; style = look.style; margin = margin }

pub items-same : (look : PageLook) (goal : ℤ) (feet : List Node) (body : Boxed) (running : Option Boxed) (m u : ℤ) → m ≡ margin_of look.number look.lengths → u ≡ used_by goal feet → items_by (layout-of look m) u feet body running ≡ page_items look goal feet body running
unfolding page_items
items-same look goal feet body running m u em eu =
    ap (λ (z : ℤ). items_by (layout-of look z) u feet body running) em
    ∙ ap (λ (z : ℤ). items_by (layout-of look (margin_of look.number look.lengths)) z feet body running) eu

abbrev page-of : PageLook → ℤ → List Node → Result Boxed Kind
page-of look height items = if nat_lt 500 (nesting_of_list items) then Err DepthLimit else Ok (roll-Boxed (record {
  axis = Vertical;
  items = items;
  width = look.lengths.textwidth;
  height = height;
  depth = pos 0;
  shift = pos 0;
  glue_set = record { excess = pos 0; order = Finite };
}))

pub passes : (part : PagePart) (look : PageLook) (m : ℤ) (heights : Heights) (items : List Node) (body : Boxed) (running : Option Boxed) → are_small_heights look.lengths part.goal part.feet ≡ true → both (packs Vertical (shown part.items) (To part.goal)) (running_box look) ≡ Ok (body, running) → items ≡ page_items look part.goal part.feet body running → heights.page ≡ page_height look.lengths → page_box_of part look ≡ nested_by (layout-of look m) heights items
passes part look m heights items body running is boxes same page =
    small part look is
    ∙ ap (λ (r : Result (Boxed × Option Boxed) Kind). page_boxed look part.goal part.feet r) boxes
    ∙ ap (λ (ns : List Node). page-of look (page_height look.lengths) ns) (sym same)
    ∙ ap (λ (h : ℤ). page-of look h items) (sym page)
