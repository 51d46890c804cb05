-- The glue before the first box or rule of a page.
use Rattle.std.proofs.Common.{◌≡◌, ◌∙◌, ap, sym, subst, refl, Bool, true, false, ◌&&◌, List, [], ◌∷◌, ◌++◌, Option, None, Some, ℤ, if◌then◌else◌}
use Rattle.std.specs.Option.{is_some}
use Rattle.lb_base.specs.declared.node.Node.{Node}
use Rattle.lb_model_paper.specs.Boxes.{fronts_pass}
use Rattle.lb_model_paper.specs.declared.pages.PageRules.{PageRules}
use Rattle.lb_model_paper.specs.Pages.{are_small_totals, is_block, top_glue, top_width, with_top_glue}
use Rattle.lb_page.specs.declared.so_far.SoFar.{SoFar}
use Rattle.lb_page.specs.declared.sums.Sums.{Sums}
use Rattle.lb_page.specs.SoFar.{first_width, IsOpened, opened, opened_by}
use Rattle.lb_page.specs.Sums.{AreSums, small_sums}
use Rattle.lb_page.proofs.Standing.{first_width-push_first, first_width-push_later, first_width-push_more, fronts_pass-push, with_top_glue-push_first, with_top_glue-push_later, with_top_glue-push_more}
use Rattle.lb_page.proofs.Totalling.{small_sums-are}

-- with the node behind it, it is the page with that node
push_other : (rules : PageRules) (nodes : List Node) (node : Node) (b : Bool) → is_block node ≡ b → first_width rules nodes ≡ None → with_top_glue rules (nodes ++ node ∷ []) ≡ (if b then with_top_glue rules nodes ++ top_glue rules node ∷ [] else with_top_glue rules nodes) ++ node ∷ []
push_other rules nodes node true is none = with_top_glue-push_first rules nodes node none is
push_other rules nodes node false is none = with_top_glue-push_more rules nodes node is

push_by : (rules : PageRules) (nodes : List Node) (node : Node) (o : Option ℤ) → first_width rules nodes ≡ o → with_top_glue rules (nodes ++ node ∷ []) ≡ opened_by rules nodes node o ++ node ∷ []
push_by rules nodes node (Some width) is = with_top_glue-push_later rules nodes node width is
push_by rules nodes node None is = push_other rules nodes node (is_block node) refl is

pub opened-push : (rules : PageRules) (nodes : List Node) (node : Node) → with_top_glue rules (nodes ++ node ∷ []) ≡ opened rules nodes node ++ node ∷ []
opened-push rules nodes node = push_by rules nodes node (first_width rules nodes) refl

pub opened-there : (rules : PageRules) (nodes : List Node) (node : Node) (o : Option ℤ) → is_some o ≡ true → opened_by rules nodes node o ≡ with_top_glue rules nodes
opened-there rules nodes node (Some width) some = refl
opened-there rules nodes node None some = absurd (cc)

pub opened-other : (rules : PageRules) (nodes : List Node) (node : Node) (o : Option ℤ) → is_block node ≡ false → opened_by rules nodes node o ≡ with_top_glue rules nodes
opened-other rules nodes node (Some width) other = refl
opened-other rules nodes node None other = ap (λ (b : Bool). if b then with_top_glue rules nodes ++ top_glue rules node ∷ [] else with_top_glue rules nodes) other

pub opened-first : (rules : PageRules) (nodes : List Node) (node : Node) (o : Option ℤ) → is_some o ≡ false → is_block node ≡ true → opened_by rules nodes node o ≡ with_top_glue rules nodes ++ top_glue rules node ∷ []
opened-first rules nodes node (Some width) none is = absurd (cc)
opened-first rules nodes node None none is = ap (λ (b : Bool). if b then with_top_glue rules nodes ++ top_glue rules node ∷ [] else with_top_glue rules nodes) is

pub width-there : (rules : PageRules) (nodes : List Node) (node : Node) (o : Option ℤ) → is_some o ≡ true → o ≡ first_width rules nodes → first_width rules (nodes ++ node ∷ []) ≡ first_width rules nodes
width-there rules nodes node (Some width) some is = first_width-push_later rules nodes node width (sym is)
width-there rules nodes node None some is = absurd (cc)

pub none_from : (o : Option ℤ) → is_some o ≡ false → o ≡ None
none_from (Some width) none = absurd (cc)
none_from None none = refl

sums-at : (page other : List Node) (sums : Sums) → page ≡ other → AreSums page sums → AreSums other sums
sums-at page other sums is are = subst (λ (ns : List Node). AreSums ns sums) is are

-- a box or rule stands there already
pub IsOpened-there : (rules : PageRules) (nodes : List Node) (node : Node) (so_far : SoFar) → is_some so_far.top ≡ true → so_far.top ≡ first_width rules nodes → AreSums (with_top_glue rules nodes) so_far.sums → IsOpened rules nodes node so_far
IsOpened-there rules nodes node so_far some is are = record {
  top = is ∙ sym (width-there rules nodes node so_far.top some is);
  sums = sums-at _ _ so_far.sums (sym (opened-there rules nodes node so_far.top some) ∙ ap (opened_by rules nodes node) is) are;
}

pub small-there : (rules : PageRules) (nodes : List Node) (node : Node) (so_far : SoFar) → is_some so_far.top ≡ true → so_far.top ≡ first_width rules nodes → fronts_pass (are_small_totals rules) (with_top_glue rules nodes) ≡ true → true ≡ fronts_pass (are_small_totals rules) (opened rules nodes node)
small-there rules nodes node so_far some is small = sym small ∙ ap (fronts_pass (are_small_totals rules)) (sym (opened-there rules nodes node so_far.top some) ∙ ap (opened_by rules nodes node) is)

-- the node is neither
pub IsOpened-other : (rules : PageRules) (nodes : List Node) (node : Node) (so_far : SoFar) → is_block node ≡ false → so_far.top ≡ first_width rules nodes → AreSums (with_top_glue rules nodes) so_far.sums → IsOpened rules nodes node so_far
IsOpened-other rules nodes node so_far other is are = record {
  top = is ∙ sym (first_width-push_more rules nodes node other);
  sums = sums-at _ _ so_far.sums (sym (opened-other rules nodes node (first_width rules nodes) other)) are;
}

pub small-other : (rules : PageRules) (nodes : List Node) (node : Node) → is_block node ≡ false → fronts_pass (are_small_totals rules) (with_top_glue rules nodes) ≡ true → true ≡ fronts_pass (are_small_totals rules) (opened rules nodes node)
small-other rules nodes node other small = sym small ∙ ap (fronts_pass (are_small_totals rules)) (sym (opened-other rules nodes node (first_width rules nodes) other))

-- the node is the first one
pub IsOpened-first : (rules : PageRules) (nodes : List Node) (node : Node) (old : Option ℤ) (so_far : SoFar) → is_some old ≡ false → is_block node ≡ true → old ≡ first_width rules nodes → so_far.top ≡ Some (top_width rules node) → AreSums (with_top_glue rules nodes ++ top_glue rules node ∷ []) so_far.sums → IsOpened rules nodes node so_far
IsOpened-first rules nodes node old so_far none first is top are = record {
  top = top ∙ sym (first_width-push_first rules nodes node (sym is ∙ none_from old none) first);
  sums = sums-at _ _ so_far.sums (sym (opened-first rules nodes node old none first) ∙ ap (opened_by rules nodes node) is) are;
}

pub small-first : (rules : PageRules) (nodes : List Node) (node : Node) (old : Option ℤ) (sums : Sums) (small : Bool) → is_some old ≡ false → is_block node ≡ true → old ≡ first_width rules nodes → AreSums (with_top_glue rules nodes ++ top_glue rules node ∷ []) sums → small ≡ small_sums rules sums → fronts_pass (are_small_totals rules) (with_top_glue rules nodes) ≡ true → small ≡ fronts_pass (are_small_totals rules) (opened rules nodes node)
small-first rules nodes node old sums small none first is are value before =
    value
    ∙ small_sums-are rules (with_top_glue rules nodes ++ top_glue rules node ∷ []) sums are
    ∙ ap (λ (b : Bool). b && are_small_totals rules (with_top_glue rules nodes ++ top_glue rules node ∷ [])) (sym before)
    ∙ sym (fronts_pass-push (are_small_totals rules) (with_top_glue rules nodes) (top_glue rules node))
    ∙ ap (fronts_pass (are_small_totals rules)) (sym (opened-first rules nodes node old none first) ∙ ap (opened_by rules nodes node) is)
