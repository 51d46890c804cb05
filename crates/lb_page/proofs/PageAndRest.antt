-- The page and the rest of a list.
use Rattle.std.proofs.Common.{◌≡◌, ◌∙◌, ◌≤◌, ap, sym, refl, subst, ℕ, Bool, true, false, not, ◌&&◌, List, [], ◌∷◌, ◌++◌, length, take, drop, Option, None, Some, Result, Ok, Err, ℤ, if◌then◌else◌, filter, arith}
use Rattle.std.specs.List.{list_all}
use Rattle.std.proofs.lemmas.List.{append_assoc, take-append-drop}
use Rattle.std.proofs.lemmas.List.Elements.{filter-append}
use Rattle.lb_base.specs.declared.fault.Kind.{Kind}
use Rattle.lb_base.specs.declared.node.Node.{Node}
use Rattle.lb_model_paper.specs.declared.pages.PagePart.{PagePart}
use Rattle.lb_model_paper.specs.declared.pages.PageRules.{PageRules}
use Rattle.lb_model_paper.specs.Pages.{closing_kern, is_block, is_discardable, is_foot, last_block_depth, left_in, next_part, nodes_left, on_page, page_end, page_in, page_of, top_glue, with_top_glue, without_top}
use Rattle.lb_page.specs.Fillings.{stays}
use Rattle.lb_page.specs.Laws.{IsPageAndRest}
use Rattle.lb_page.proofs.Totalling.{glue_no_foot}

-- ---- the top

abbrev gone : List Node → List Node
gone [] = []
gone (node ∷ nodes) = if is_discardable node then node ∷ gone nodes else []

gone_by : (node : Node) (nodes : List Node) (d : Bool) → nodes ≡ gone nodes ++ without_top nodes → node ∷ nodes ≡ (if d then node ∷ gone nodes else []) ++ (if d then without_top nodes else node ∷ nodes)
gone_by node nodes true rest = ap (λ (ns : List Node). node ∷ ns) rest
gone_by node nodes false rest = refl

gone_whole : (nodes : List Node) → nodes ≡ gone nodes ++ without_top nodes
gone_whole [] = refl
gone_whole (node ∷ nodes) = gone_by node nodes (is_discardable node) (gone_whole nodes)

discarded_by : (node : Node) (nodes : List Node) (d : Bool) → is_discardable node ≡ d → list_all is_discardable nodes ≡ true → list_all is_discardable (if d then node ∷ nodes else []) ≡ true
discarded_by node nodes true is all = ap (λ (b : Bool). b && list_all is_discardable nodes) is ∙ all
discarded_by node nodes false is all = refl

discarded : (nodes : List Node) → list_all is_discardable (gone nodes) ≡ true
discarded [] = refl
discarded (node ∷ nodes) = discarded_by node (gone nodes) (is_discardable node) refl (discarded nodes)

-- ---- the glue before the first box or rule

abbrev before_block : List Node → List Node
before_block [] = []
before_block (node ∷ nodes) = if is_block node then [] else node ∷ before_block nodes

abbrev from_block : List Node → List Node
from_block [] = []
from_block (node ∷ nodes) = if is_block node then node ∷ nodes else from_block nodes

abbrev glue_of : PageRules → List Node → List Node
glue_of rules [] = []
glue_of rules (node ∷ nodes) = if is_block node then top_glue rules node ∷ [] else glue_of rules nodes

block_by : (node : Node) (nodes : List Node) (b : Bool) → before_block nodes ++ from_block nodes ≡ nodes → (if b then [] else node ∷ before_block nodes) ++ (if b then node ∷ nodes else from_block nodes) ≡ node ∷ nodes
block_by node nodes true rest = refl
block_by node nodes false rest = ap (λ (ns : List Node). node ∷ ns) rest

block_whole : (nodes : List Node) → before_block nodes ++ from_block nodes ≡ nodes
block_whole [] = refl
block_whole (node ∷ nodes) = block_by node nodes (is_block node) (block_whole nodes)

glued_by : (rules : PageRules) (node : Node) (nodes : List Node) (b : Bool) → with_top_glue rules nodes ≡ before_block nodes ++ (glue_of rules nodes ++ from_block nodes) → (if b then top_glue rules node ∷ node ∷ nodes else node ∷ with_top_glue rules nodes) ≡ (if b then [] else node ∷ before_block nodes) ++ ((if b then top_glue rules node ∷ [] else glue_of rules nodes) ++ (if b then node ∷ nodes else from_block nodes))
glued_by rules node nodes true rest = refl
glued_by rules node nodes false rest = ap (λ (ns : List Node). node ∷ ns) rest

glued : (rules : PageRules) (nodes : List Node) → with_top_glue rules nodes ≡ before_block nodes ++ (glue_of rules nodes ++ from_block nodes)
glued rules [] = refl
glued rules (node ∷ nodes) = glued_by rules node nodes (is_block node) (glued rules nodes)

-- at most one glue, which is no footnote
record IsGlue (glue : List Node) : Type 0 where
  stays : filter stays glue ≡ glue
  no_foot : filter is_foot glue ≡ []
  one : length glue ≤ 1

alone : (node : Node) → is_foot node ≡ false → IsGlue (node ∷ [])
alone node foot = record {
  stays = ap (λ (b : Bool). if not b then node ∷ [] else []) foot;
  no_foot = ap (λ (b : Bool). if b then node ∷ [] else []) foot;
  one = omega arith;
}

glue_by : (rules : PageRules) (node : Node) (nodes : List Node) (b : Bool) → IsGlue (glue_of rules nodes) → IsGlue (if b then top_glue rules node ∷ [] else glue_of rules nodes)
glue_by rules node nodes true rest = alone (top_glue rules node) (glue_no_foot _)
glue_by rules node nodes false rest = rest

is_glue : (rules : PageRules) (nodes : List Node) → IsGlue (glue_of rules nodes)
is_glue rules [] = record { stays = refl; no_foot = refl; one = omega arith }
is_glue rules (node ∷ nodes) = glue_by rules node nodes (is_block node) (is_glue rules nodes)

one_kern : (rules : PageRules) (depth : Option ℤ) → length (closing_kern rules depth) ≤ 1
one_kern rules None = omega arith
one_kern rules (Some depth) = omega arith

-- ---- the page

stays_split : (front glue back kern page : List Node) → IsGlue glue → page ≡ front ++ (glue ++ back) → filter stays page ++ kern ≡ (filter stays front ++ glue) ++ (filter stays back ++ kern)
stays_split front glue back kern page is same =
    ap (λ (ns : List Node). filter stays ns ++ kern) same
    ∙ ap (λ (ns : List Node). ns ++ kern) (filter-append stays front (glue ++ back) ∙ ap (λ (ns : List Node). filter stays front ++ ns) (filter-append stays glue back ∙ ap (λ (ns : List Node). ns ++ filter stays back) is.stays))
    ∙ ap (λ (ns : List Node). ns ++ kern) (sym (append_assoc (filter stays front) glue (filter stays back)))
    ∙ append_assoc (filter stays front ++ glue) (filter stays back) kern

feet_split : (front glue back page : List Node) → IsGlue glue → page ≡ front ++ (glue ++ back) → filter is_foot page ≡ filter is_foot (front ++ back)
feet_split front glue back page is same =
    ap (filter is_foot) same
    ∙ filter-append is_foot front (glue ++ back)
    ∙ ap (λ (ns : List Node). filter is_foot front ++ ns) (filter-append is_foot glue back ∙ ap (λ (ns : List Node). ns ++ filter is_foot back) is.no_foot)
    ∙ sym (filter-append is_foot front back)

on_page-is : (rules : PageRules) (nodes : List Node) → on_page rules nodes ≡ with_top_glue rules (without_top nodes)
unfolding on_page
on_page-is rules nodes = refl

page_items : (rules : PageRules) (nodes : List Node) → (page_of rules nodes).items ≡ filter stays (on_page rules nodes) ++ closing_kern rules (last_block_depth (on_page rules nodes))
unfolding page_of
page_items rules nodes = refl

page_feet : (rules : PageRules) (nodes : List Node) → (page_of rules nodes).feet ≡ filter is_foot (on_page rules nodes)
unfolding page_of
page_feet rules nodes = refl

page_made : (rules : PageRules) (nodes : List Node) (k : ℕ) → IsPageAndRest nodes (page_of rules (take k nodes)) (drop k nodes)
page_made rules nodes k =
    let body : List Node = without_top (take k nodes) in
    let page = on_page-is rules (take k nodes) ∙ glued rules body in
    record {
      top = gone (take k nodes);
      front = before_block body;
      back = from_block body;
      glue = glue_of rules body;
      kern = closing_kern rules (last_block_depth (on_page rules (take k nodes)));
      whole = sym (take-append-drop k nodes)
          ∙ ap (λ (ns : List Node). ns ++ drop k nodes) (gone_whole (take k nodes))
          ∙ append_assoc (gone (take k nodes)) body (drop k nodes)
          ∙ ap (λ (ns : List Node). gone (take k nodes) ++ (ns ++ drop k nodes)) (sym (block_whole body));
      discarded = discarded (take k nodes);
      feet = page_feet rules (take k nodes) ∙ feet_split (before_block body) (glue_of rules body) (from_block body) (on_page rules (take k nodes)) (is_glue rules body) page;
      items = page_items rules (take k nodes) ∙ stays_split (before_block body) (glue_of rules body) (from_block body) (closing_kern rules (last_block_depth (on_page rules (take k nodes)))) (on_page rules (take k nodes)) (is_glue rules body) page;
      one_glue = (is_glue rules body).one;
      one_kern = one_kern rules (last_block_depth (on_page rules (take k nodes)));
    }

made_in : (rules : PageRules) (nodes : List Node) (part : PagePart) (end : Result (Option ℕ) Kind) → page_in rules nodes end ≡ Ok (Some part) → IsPageAndRest nodes part (left_in nodes end)
made_in rules nodes part (Ok (Some k)) made = let is : page_of rules (take k nodes) ≡ part = cc in subst (λ (p : PagePart). IsPageAndRest nodes p (drop k nodes)) is (page_made rules nodes k)
made_in rules nodes part (Ok None) made = absurd cc
made_in rules nodes part (Err kind) made = absurd cc

pub page_and_rest : (rules : PageRules) (nodes : List Node) (part : PagePart) → next_part rules nodes ≡ Ok (Some part) → IsPageAndRest nodes part (nodes_left rules nodes)
unfolding next_part nodes_left
page_and_rest rules nodes part made = made_in rules nodes part (page_end rules nodes) made
