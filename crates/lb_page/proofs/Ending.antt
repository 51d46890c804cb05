-- Where the page ends.
use Rattle.std.proofs.Common.{◌≡◌, ◌∙◌, ap, sym, subst, refl, ⊎_elim, inl, inr, ℕ, suc, zero, ◌+◌, ◌-◌, ◌<◌, ◌≤◌, ℤ, pos, Bool, true, false, ◌&&◌, List, [], ◌∷◌, ◌++◌, length, take, Option, None, Some, Ok, Err, if◌then◌else◌, append-nil, arith}
use Rattle.std.proofs.lemmas.Bool.{cases_lt}
use Rattle.std.proofs.lemmas.List.{take_all}
use Rattle.std.specs.Prelude.{option_map, slice_get}
use Rattle.lb_base.specs.declared.fault.Kind.TheVariants.{DimenTooLarge}
use Rattle.lb_base.specs.declared.node.Boxed.{Boxed}
use Rattle.lb_base.specs.declared.node.Discretionary.{Discretionary}
use Rattle.lb_base.specs.declared.node.HeadMark.{HeadMark}
use Rattle.lb_base.specs.declared.node.HeadMark.TheOpen.{Adjust, Boxed as InnerBox, Char, Disc, Glue, Ins, Kern, Lig, Mark, Note, Penalty, Rule}
use Rattle.lb_base.specs.declared.node.KernOrigin.TheVariants.{Explicit, Font}
use Rattle.lb_base.specs.declared.node.Node.{Node, Node-F, out-Node}
use Rattle.lb_model_paper.specs.Boxes.{fronts_pass}
use Rattle.lb_model_paper.specs.declared.pages.Cost.{Cost}
use Rattle.lb_model_paper.specs.declared.pages.PageRules.{PageRules}
use Rattle.lb_model_paper.specs.Pages.{are_small_on_page, are_small_totals, best_place, cost_at, ends_in, first_below, is_block, is_discardable, on_page, page_end, page_end_by, penalty_at, penalty_in, penalty_of, search_end, top_glue, with_top_glue, without_top}
use Rattle.lb_page.specs.declared.best.Cut.{Cut}
use Rattle.lb_page.specs.declared.search.Search.{Search}
use Rattle.lb_page.specs.Ends.{IsEnd}
use Rattle.lb_page.specs.Places.{IsCut, place_of_cut}
use Rattle.lb_page.specs.Searches.{IsEnded, IsGoing, IsJudged, IsLarge, IsLast, IsRight}
use Rattle.lb_page.specs.SoFar.{first_width, opened, opened_by}
use Rattle.lb_page.proofs.Opening.{opened-push}
use Rattle.lb_page.proofs.Standing.{fronts_pass-push, pushed, without_top-push}
use Rattle.lb_page.proofs.Stepping.{cost_at-none, take-next}
use Rattle.std.proofs.lemmas.Option.{none-some, slice_get_within}
use Rattle.std.specs.Prelude.{IfSome}

-- ---- the first number that passes

some_first : (test : ℕ → Bool) (n k : ℕ) → first_below test n ≡ Some k → first_below test (suc n) ≡ Some k
some_first test n k is = ap (λ (o : Option ℕ). elim o [ Some j ↦ Some j | None ↦ if test n then Some n else None ]) is

-- a number that passes stays the first
pub first-later : (test : ℕ → Bool) (m more k : ℕ) → first_below test m ≡ Some k → first_below test (m + more) ≡ Some k
first-later test m zero k is = let e : m + zero ≡ m = omega arith in ap (first_below test) e ∙ is
first-later test m (suc more) k is = let e : m + suc more ≡ suc (m + more) = omega arith in ap (first_below test) e ∙ some_first test (m + more) k (first-later test m more k is)

passes_at : (test : ℕ → Bool) (n k : ℕ) (o : Option ℕ) (b : Bool) → (o ≡ Some k → (k < n) × (test k ≡ true)) → test n ≡ b → (elim o [ Some j ↦ Some j | None ↦ if b then Some n else None ]) ≡ Some k → (k < suc n) × (test k ≡ true)
passes_at test n k (Some j) b before here is = let low = before is in (omega (arith, low.0), low.1)
passes_at test n k None true before here is = let same : n ≡ k = cc in (omega arith, ap test (sym same) ∙ here)
passes_at test n k None false before here is = absurd (cc)

pub first-passes : (test : ℕ → Bool) (n k : ℕ) → first_below test n ≡ Some k → (k < n) × (test k ≡ true)
first-passes test zero k is = absurd (cc)
first-passes test (suc n) k is = passes_at test n k (first_below test n) (test n) (first-passes test n k) refl is

fails_at : (test : ℕ → Bool) (n k : ℕ) (o : Option ℕ) (b : Bool) → (o ≡ None → k < n → test k ≡ false) → test n ≡ b → ◌≡◌ {A = Option ℕ} (elim o [ Some j ↦ Some j | None ↦ if b then Some n else None ]) None → k < suc n → test k ≡ false
fails_at test n k (Some j) b before here is less = absurd (cc)
fails_at test n k None true before here is less = absurd (cc)
fails_at test n k None false before here is less = ⊎_elim (λ (low : k < n). before refl low) (λ (high : n ≤ k). let same : n ≡ k = omega arith in ap test (sym same) ∙ here) (cases_lt k n)

pub first-fails : (test : ℕ → Bool) (n k : ℕ) → first_below test n ≡ None → k < n → test k ≡ false
first-fails test zero k is less = absurd (omega arith)
first-fails test (suc n) k is less = fails_at test n k (first_below test n) (test n) (first-fails test n k) refl is less

false_true : (b : Bool) → b ≡ false → b ≡ true → ⊥
false_true b f t = cc

pub first-from : (test : ℕ → Bool) (m n k : ℕ) → first_below test m ≡ None → first_below test n ≡ Some k → m ≤ k
first-from test m n k none some =
    let passes = first-passes test n k some in
    ⊎_elim (λ (low : k < m). absurd (false_true (test k) (first-fails test m k none low) passes.1)) (λ (high : m ≤ k). high) (cases_lt k m)

-- ---- sums that are too large stay so

and_left : (a b : Bool) → a ≡ false → (a && b) ≡ false
and_left true b is = absurd (cc)
and_left false b is = refl

large_opened : (rules : PageRules) (nodes : List Node) (node : Node) (o : Option ℤ) (b : Bool) → is_block node ≡ b → fronts_pass (are_small_totals rules) (with_top_glue rules nodes) ≡ false → fronts_pass (are_small_totals rules) (opened_by rules nodes node o) ≡ false
large_opened rules nodes node (Some width) b is large = large
large_opened rules nodes node None true is large =
    ap (λ (c : Bool). fronts_pass (are_small_totals rules) (if c then with_top_glue rules nodes ++ top_glue rules node ∷ [] else with_top_glue rules nodes)) is
    ∙ fronts_pass-push (are_small_totals rules) (with_top_glue rules nodes) (top_glue rules node) ∙ and_left _ _ large
large_opened rules nodes node None false is large =
    ap (λ (c : Bool). fronts_pass (are_small_totals rules) (if c then with_top_glue rules nodes ++ top_glue rules node ∷ [] else with_top_glue rules nodes)) is ∙ large

large_stays : (rules : PageRules) (xs : List Node) (node : Node) → fronts_pass (are_small_totals rules) (with_top_glue rules xs) ≡ false → fronts_pass (are_small_totals rules) (with_top_glue rules (xs ++ node ∷ [])) ≡ false
large_stays rules xs node large =
    ap (fronts_pass (are_small_totals rules)) (opened-push rules xs node) ∙ fronts_pass-push (are_small_totals rules) (opened rules xs node) node ∙ and_left _ _ (large_opened rules xs node (first_width rules xs) (is_block node) refl large)

large_pushed : (rules : PageRules) (xs : List Node) (node : Node) (b : Bool) → is_discardable node ≡ b → fronts_pass (are_small_totals rules) (with_top_glue rules xs) ≡ false → fronts_pass (are_small_totals rules) (with_top_glue rules (pushed xs node)) ≡ false
large_pushed rules [] node true is large = ap (λ (c : Bool). fronts_pass (are_small_totals rules) (with_top_glue rules (if c then [] else node ∷ []))) is ∙ large
large_pushed rules [] node false is large =
    ap (λ (c : Bool). fronts_pass (are_small_totals rules) (with_top_glue rules (if c then [] else node ∷ []))) is ∙ large_stays rules [] node large
large_pushed rules (x ∷ xs) node b is large = large_stays rules (x ∷ xs) node large

pub large-more : (rules : PageRules) (front : List Node) (node : Node) → are_small_on_page rules front ≡ false → are_small_on_page rules (front ++ node ∷ []) ≡ false
unfolding are_small_on_page on_page
large-more rules front node large = ap (λ (ns : List Node). fronts_pass (are_small_totals rules) (with_top_glue rules ns)) (without_top-push front node) ∙ large_pushed rules (without_top front) node (is_discardable node) refl large

take_suc : (nodes : List Node) (k : ℕ) → k < length nodes → (node : Node) × (take (suc k) nodes ≡ take k nodes ++ node ∷ [])
take_suc [] k less = absurd (omega arith)
take_suc (x ∷ xs) zero less = (x, refl)
take_suc (x ∷ xs) (suc k) less = let rest = take_suc xs k (omega arith) in (rest.0, ap (λ (ns : List Node). x ∷ ns) rest.1)

pub large-later : (rules : PageRules) (nodes : List Node) (m more : ℕ) → are_small_on_page rules (take m nodes) ≡ false → m + more ≤ length nodes → are_small_on_page rules (take (m + more) nodes) ≡ false
large-later rules nodes m zero large within = let e : m + zero ≡ m = omega arith in ap (λ (n : ℕ). are_small_on_page rules (take n nodes)) e ∙ large
large-later rules nodes m (suc more) large within =
    let e : m + suc more ≡ suc (m + more) = omega arith in
    let next = take_suc nodes (m + more) (omega arith) in
    ap (λ (n : ℕ). are_small_on_page rules (take n nodes)) e ∙ ap (are_small_on_page rules) next.1 ∙ large-more rules (take (m + more) nodes) next.0 (large-later rules nodes m more large (omega arith))

-- ---- where the page ends

page_end-is : (rules : PageRules) (nodes : List Node) (o : Option ℕ) → search_end rules nodes (length nodes) ≡ o → page_end rules nodes ≡ page_end_by rules nodes o
unfolding page_end
page_end-is rules nodes o is = ap (page_end_by rules nodes) is

pub page_end-none : (rules : PageRules) (nodes : List Node) (b : Bool) → search_end rules nodes (length nodes) ≡ None → are_small_on_page rules nodes ≡ b → page_end rules nodes ≡ (if b then Ok None else Err DimenTooLarge)
page_end-none rules nodes b none small = page_end-is rules nodes None none ∙ ap (λ (c : Bool). if c then Ok None else Err DimenTooLarge) small

search_end_suc_none : (rules : PageRules) (nodes : List Node) (k : ℕ) → search_end rules nodes k ≡ None → penalty_at nodes k ≡ None → search_end rules nodes (suc k) ≡ None
unfolding search_end
search_end_suc_none rules nodes k none place =
    ap (λ (o : Option ℕ). elim o [ Some j ↦ Some j | None ↦ if ends_in (cost_at rules nodes k) then Some k else None ]) none ∙ ap (λ (c : Option Cost). if ends_in c then Some k else None) (cost_at-none rules nodes k place)

pub going-none : (nodes : List Node) (search : Search) → IsGoing nodes search → IsLast nodes search.at → search_end search.rules nodes (length nodes) ≡ None
going-none nodes search going (inl past) = let e : length nodes ≡ search.at = omega (arith, going.within) in ap (search_end search.rules nodes) e ∙ going.none
going-none nodes search going (inr last) = ap (search_end search.rules nodes) (sym last.0) ∙ search_end_suc_none search.rules nodes search.at going.none last.1

large_end : (rules : PageRules) (nodes : List Node) (k at : ℕ) (o : Option ℕ) → search_end rules nodes (length nodes) ≡ o → at ≡ suc k → at ≤ length nodes → search_end rules nodes k ≡ None → are_small_on_page rules (take at nodes) ≡ false → page_end_by rules nodes o ≡ Err DimenTooLarge
unfolding search_end
large_end rules nodes k at None is end within none large =
    let most : at + (length nodes - at) ≡ length nodes = omega arith in
    let whole = large-later rules nodes at (length nodes - at) large (omega arith) in
    ap (λ (c : Bool). if c then Ok None else Err DimenTooLarge) (ap (are_small_on_page rules) (sym (ap (λ (n : ℕ). take n nodes) most ∙ take_all (length nodes) nodes (omega arith))) ∙ whole)
large_end rules nodes k at (Some e) is end within none large =
    let from = first-from (λ j. ends_in (cost_at rules nodes j)) k (length nodes) e none is in
    let low = first-passes (λ j. ends_in (cost_at rules nodes j)) (length nodes) e is in
    let most : at + (suc e - at) ≡ suc e = omega arith in
    let later = large-later rules nodes at (suc e - at) large (omega (arith, low.0)) in
    ap (λ (c : Bool). if c then Ok (best_place rules nodes (suc e)) else Err DimenTooLarge) (ap (λ (n : ℕ). are_small_on_page rules (take n nodes)) (sym most) ∙ later)

pub large-end : (nodes : List Node) (search : Search) → IsLarge nodes search → page_end search.rules nodes ≡ Err DimenTooLarge
large-end nodes search is = page_end-is search.rules nodes (search_end search.rules nodes (length nodes)) refl ∙ large_end search.rules nodes is.last.0 search.at (search_end search.rules nodes (length nodes)) refl is.last.1 is.within is.last.2 is.large

search_later : (rules : PageRules) (nodes : List Node) (m more k : ℕ) → search_end rules nodes m ≡ Some k → search_end rules nodes (m + more) ≡ Some k
unfolding search_end
search_later rules nodes m more k is = first-later (λ j. ends_in (cost_at rules nodes j)) m more k is

pub ended-end : (nodes : List Node) (search : Search) → IsEnded nodes search → page_end search.rules nodes ≡ Ok (option_map place_of_cut search.best)
ended-end nodes search is =
    let most : search.at + (length nodes - search.at) ≡ length nodes = omega (arith, is.within) in
    let end = ap (search_end search.rules nodes) (sym most) ∙ search_later search.rules nodes search.at (length nodes - search.at) is.last.0 is.last.2 in
    page_end-is search.rules nodes (Some is.last.0) end
    ∙ ap (λ (c : Bool). if c then Ok (best_place search.rules nodes (suc is.last.0)) else Err DimenTooLarge) (ap (λ (n : ℕ). are_small_on_page search.rules (take n nodes)) (sym is.last.1) ∙ is.small)
    ∙ ap (λ (n : ℕ). Ok (best_place search.rules nodes n)) (sym is.last.1)
    ∙ ap Ok is.best.place

-- a page has an item at least
and_no : (b : Bool) → (b && false) ≡ false
and_no true = refl
and_no false = refl

first_kern : (b : Bool) → (if b && (false && b) then Some (pos 0) else None) ≡ None
first_kern true = refl
first_kern false = refl

first_in : (layer : Node-F HeadMark Node Boxed Discretionary) (next : Option Node) → penalty_in [] layer next ≡ None
first_in (Kern width Explicit) next = refl
first_in (Kern width Font) next = refl
first_in (Glue glue) next = refl
first_in (Penalty penalty) next = refl
first_in (Char code metrics font) next = refl
first_in (Lig ligature) next = refl
first_in (Disc parts) next = refl
first_in (Rule size) next = refl
first_in (InnerBox box) next = refl
first_in (Note note) next = refl
first_in (Mark mark) next = refl
first_in (Ins box) next = refl
first_in (Adjust material) next = refl

first_of : (node next : Option Node) → penalty_of [] node next ≡ None
first_of None next = refl
first_of (Some node) next = first_in (out-Node node) next

first_at : (nodes : List Node) → penalty_at nodes zero ≡ None
unfolding penalty_at
first_at nodes = first_of (slice_get nodes zero) (slice_get nodes (suc zero))

not_first : (rules : PageRules) (nodes : List Node) (cost : Cost) (k : ℕ) → cost_at rules nodes k ≡ Some cost → 0 < k
not_first rules nodes cost zero is = absurd (let none = cost_at-none rules nodes zero (first_at nodes) in none-some cost (sym none ∙ is))
not_first rules nodes cost (suc k) is = omega arith

pub IsEnd-ended : (nodes : List Node) (search : Search) (best : Option Cut) → search.best ≡ best → IsEnded nodes search → IsEnd search.rules nodes (Ok best)
IsEnd-ended nodes search None is ended = ended-end nodes search ended ∙ ap (λ (o : Option Cut). Ok (option_map place_of_cut o)) is
IsEnd-ended nodes search (Some cut) is ended =
    let page : IsCut search.rules nodes cut = subst (λ (o : Option Cut). IfSome o (IsCut search.rules nodes)) is ended.best.cut in
    record {
      end = ended-end nodes search ended ∙ ap (λ (o : Option Cut). Ok (option_map place_of_cut o)) is;
      some = not_first search.rules nodes cut.cost cut.at page.cost;
      within = page.within;
      page = page.page;
    }

pub right-at : (nodes : List Node) (search : Search) → IsRight nodes search → IsJudged nodes search
right-at nodes search right = subst (λ (ns : List Node). IsJudged ns search) (append-nil nodes) (right [])

-- ---- the sums of all items

pub small-in_all : (nodes : List Node) (search : Search) → IsGoing nodes search → length nodes ≤ search.at → true ≡ are_small_on_page search.rules nodes
small-in_all nodes search going past = sym going.small ∙ ap (are_small_on_page search.rules) (take_all search.at nodes past)

pub small-last : (nodes : List Node) (search : Search) (node : Node) → slice_get nodes search.at ≡ Some node → IsLast nodes search.at → are_small_on_page search.rules (take search.at nodes ++ node ∷ []) ≡ are_small_on_page search.rules nodes
small-last nodes search node here (inl past) = absurd (let within = slice_get_within nodes search.at node here in omega (arith, within, past))
small-last nodes search node here (inr last) =
    ap (are_small_on_page search.rules) (sym (take-next nodes search.at node here) ∙ take_all (suc search.at) nodes (omega (arith, last.0)))
