-- What stands on a page so far, one node more.
use Rattle.std.proofs.Common.{◌≡◌, ◌∙◌, ap, sym, subst, refl, Bool, true, false, not, ◌&&◌, ◌||◌, List, [], ◌∷◌, ◌++◌}
use Rattle.std.proofs.lemmas.List.Sums.{fold_push}
use Rattle.lb_base.specs.declared.node.Node.{Node}
use Rattle.lb_model_paper.specs.Boxes.{fronts_pass}
use Rattle.lb_model_paper.specs.declared.pages.PageRules.{PageRules}
use Rattle.lb_model_paper.specs.Pages.{are_small_on_page, are_small_totals, is_begun, is_discardable, is_firm, is_some_left, on_page, with_top_glue, without_top}
use Rattle.lb_page.specs.declared.so_far.SoFar.{SoFar}
use Rattle.lb_page.specs.declared.sums.Sums.{Sums}
use Rattle.lb_page.specs.SoFar.{first_width, IsOpened, IsSoFar, opened}
use Rattle.lb_page.specs.Sums.{AreSums, small_sums}
use Rattle.lb_page.proofs.Opening.{opened-push}
use Rattle.lb_page.proofs.Standing.{fronts_pass-push, on_page-top, pushed-more, pushed-top, without_top-push}
use Rattle.lb_page.proofs.Totalling.{small_sums-are}

pub begun_no : (b d : Bool) → not (b || not d) ≡ true → b ≡ false
begun_no true d goes = absurd (cc)
begun_no false d goes = refl

pub discardable_yes : (b d : Bool) → not (b || not d) ≡ true → d ≡ true
discardable_yes true d goes = absurd (cc)
discardable_yes false true goes = refl
discardable_yes false false goes = absurd (cc)

pub stays_yes : (b d : Bool) → not (b || not d) ≡ false → (b || not d) ≡ true
stays_yes true d stays = refl
stays_yes false true stays = absurd (cc)
stays_yes false false stays = refl

is_firm-push : (front : List Node) (node : Node) → is_firm (front ++ node ∷ []) ≡ not (is_discardable node)
is_firm-push front node = fold_push (λ (b : Bool) (n : Node). not (is_discardable n)) false front node

pub some_left : (xs : List Node) (node : Node) → is_some_left (xs ++ node ∷ []) ≡ true
some_left [] node = refl
some_left (x ∷ xs) node = refl

-- a node goes at the top
pub IsSoFar-top : (rules : PageRules) (front : List Node) (node : Node) (old new : SoFar) (d : Bool) → not (old.begun || not d) ≡ true → d ≡ is_discardable node → IsSoFar rules front old → new.begun ≡ old.begun → new.firm ≡ not d → new.top ≡ old.top → new.sums ≡ old.sums → IsSoFar rules (front ++ node ∷ []) new
IsSoFar-top rules front node old new d goes is so_far begun firm top sums =
    let none : is_begun front ≡ false = sym so_far.begun ∙ begun_no old.begun d goes in
    let discardable : is_discardable node ≡ true = sym is ∙ discardable_yes old.begun d goes in
    let left : without_top (front ++ node ∷ []) ≡ without_top front = without_top-push front node ∙ pushed-top (without_top front) node none discardable in
    let before : AreSums (on_page rules front) new.sums = subst (λ (s : Sums). AreSums (on_page rules front) s) (sym sums) so_far.sums in
    record {
      begun = begun ∙ so_far.begun ∙ ap is_some_left (sym left);
      firm = firm ∙ ap not is ∙ sym (is_firm-push front node);
      top = top ∙ so_far.top ∙ ap (first_width rules) (sym left);
      sums = subst (λ (ns : List Node). AreSums ns new.sums) (sym (on_page-top rules front node none discardable)) before;
    }

pub small-top : (rules : PageRules) (front : List Node) (node : Node) (old : SoFar) (d : Bool) → not (old.begun || not d) ≡ true → d ≡ is_discardable node → IsSoFar rules front old → are_small_on_page rules front ≡ true → true ≡ are_small_on_page rules (front ++ node ∷ [])
unfolding are_small_on_page
small-top rules front node old d goes is so_far small =
    let none : is_begun front ≡ false = sym so_far.begun ∙ begun_no old.begun d goes in
    let discardable : is_discardable node ≡ true = sym is ∙ discardable_yes old.begun d goes in
    sym small ∙ ap (fronts_pass (are_small_totals rules)) (sym (on_page-top rules front node none discardable))

-- a node stays
left_more : (rules : PageRules) (front : List Node) (node : Node) (old : SoFar) (d : Bool) → not (old.begun || not d) ≡ false → d ≡ is_discardable node → IsSoFar rules front old → without_top (front ++ node ∷ []) ≡ without_top front ++ node ∷ []
left_more rules front node old d stays is so_far =
    without_top-push front node ∙ pushed-more (without_top front) node (ap (λ (b : Bool). b || not (is_discardable node)) (sym so_far.begun) ∙ ap (λ (b : Bool). old.begun || not b) (sym is) ∙ stays_yes old.begun d stays)

pub on_page-opened : (rules : PageRules) (front : List Node) (node : Node) → without_top (front ++ node ∷ []) ≡ without_top front ++ node ∷ [] → on_page rules (front ++ node ∷ []) ≡ opened rules (without_top front) node ++ node ∷ []
unfolding on_page
on_page-opened rules front node left = ap (with_top_glue rules) left ∙ opened-push rules (without_top front) node

pub sums_at_front : (rules : PageRules) (front : List Node) (so_far : SoFar) → IsSoFar rules front so_far → AreSums (with_top_glue rules (without_top front)) so_far.sums
unfolding on_page
sums_at_front rules front so_far is = is.sums

pub small_at_front : (rules : PageRules) (front : List Node) → are_small_on_page rules front ≡ true → fronts_pass (are_small_totals rules) (with_top_glue rules (without_top front)) ≡ true
unfolding on_page are_small_on_page
small_at_front rules front small = small

pub IsSoFar-more : (rules : PageRules) (front : List Node) (node : Node) (old between new : SoFar) (d : Bool) → not (old.begun || not d) ≡ false → d ≡ is_discardable node → IsSoFar rules front old → IsOpened rules (without_top front) node between → new.begun ≡ true → new.firm ≡ not d → new.top ≡ between.top → AreSums (opened rules (without_top front) node ++ node ∷ []) new.sums → IsSoFar rules (front ++ node ∷ []) new
IsSoFar-more rules front node old between new d stays is so_far ready begun firm top sums =
    let left = left_more rules front node old d stays is so_far in
    record {
      begun = begun ∙ sym (some_left (without_top front) node) ∙ ap is_some_left (sym left);
      firm = firm ∙ ap not is ∙ sym (is_firm-push front node);
      top = top ∙ ready.top ∙ ap (first_width rules) (sym left);
      sums = subst (λ (ns : List Node). AreSums ns new.sums) (sym (on_page-opened rules front node left)) sums;
    }

small_is : (rules : PageRules) (front : List Node) (node : Node) (old : SoFar) (d : Bool) → not (old.begun || not d) ≡ false → d ≡ is_discardable node → IsSoFar rules front old → are_small_on_page rules (front ++ node ∷ []) ≡ (fronts_pass (are_small_totals rules) (opened rules (without_top front) node) && are_small_totals rules (opened rules (without_top front) node ++ node ∷ []))
unfolding are_small_on_page
small_is rules front node old d stays is so_far =
    ap (fronts_pass (are_small_totals rules)) (on_page-opened rules front node (left_more rules front node old d stays is so_far)) ∙ fronts_pass-push (are_small_totals rules) (opened rules (without_top front) node) node

pub small-not_opened : (rules : PageRules) (front : List Node) (node : Node) (old : SoFar) (d : Bool) → not (old.begun || not d) ≡ false → d ≡ is_discardable node → IsSoFar rules front old → false ≡ fronts_pass (are_small_totals rules) (opened rules (without_top front) node) → false ≡ are_small_on_page rules (front ++ node ∷ [])
small-not_opened rules front node old d stays is so_far large =
    ap (λ (b : Bool). b && are_small_totals rules (opened rules (without_top front) node ++ node ∷ [])) large ∙ sym (small_is rules front node old d stays is so_far)

pub small-more : (rules : PageRules) (front : List Node) (node : Node) (old : SoFar) (d small : Bool) (sums : Sums) → not (old.begun || not d) ≡ false → d ≡ is_discardable node → IsSoFar rules front old → true ≡ fronts_pass (are_small_totals rules) (opened rules (without_top front) node) → AreSums (opened rules (without_top front) node ++ node ∷ []) sums → small ≡ small_sums rules sums → small ≡ are_small_on_page rules (front ++ node ∷ [])
small-more rules front node old d small sums stays is so_far ready are value =
    value
    ∙ small_sums-are rules (opened rules (without_top front) node ++ node ∷ []) sums are
    ∙ ap (λ (b : Bool). b && are_small_totals rules (opened rules (without_top front) node ++ node ∷ [])) ready
    ∙ sym (small_is rules front node old d stays is so_far)
