-- Pages that are planned, one more.
use Rattle.std.proofs.Common.{◌≡◌, ◌∙◌, ap, sym, refl, ℕ, suc, zero, ◌+◌, ◌-◌, ◌<◌, List, [], ◌∷◌, ◌++◌, map, length, take, drop, Option, None, Some, Result, Ok, Err, append_assoc, length-append, arith}
use Rattle.lb_base.specs.Answers.{Answers}
use Rattle.lb_base.specs.declared.fault.Kind.{Kind}
use Rattle.lb_base.specs.declared.fault.Stop.{Stop}
use Rattle.lb_base.specs.declared.fault.Stop.TheVariants.{At, Fault, Memory}
use Rattle.lb_base.specs.declared.node.Node.{Node}
use Rattle.lb_model_paper.specs.declared.pages.PagePart.{PagePart}
use Rattle.lb_model_paper.specs.declared.pages.PageRules.{PageRules}
use Rattle.lb_model_paper.specs.Pages.{all_parts, are_small_on_page, closed_by, ends_from, fil_glue, forced_place, on_page, page_end, page_of, parts_by, parts_in, search_end, with_page}
use Rattle.lb_page.specs.declared.plan.Planned.{Planned}
use Rattle.lb_page.specs.Ends.{IsEnd}
use Rattle.lb_page.specs.Plans.{ArePlanned, IsPlanned, left_after, place_of, with_pages}

pub ArePlanned-push : (rules : PageRules) (nodes : List Node) (plan : List Planned) (planned : Planned) → ArePlanned rules nodes plan → IsPlanned rules (left_after plan nodes) planned → ArePlanned rules nodes (plan ++ planned ∷ [])
ArePlanned-push rules nodes [] planned are is = (is, tt)
ArePlanned-push rules nodes (first ∷ rest) planned are is = (are.0, ArePlanned-push rules (drop first.cut.at nodes) rest planned are.1 is)

pub left_after-push : (nodes : List Node) (plan : List Planned) (planned : Planned) → left_after (plan ++ planned ∷ []) nodes ≡ drop planned.cut.at (left_after plan nodes)
left_after-push nodes [] planned = refl
left_after-push nodes (first ∷ rest) planned = left_after-push (drop first.cut.at nodes) rest planned

map_push : (plan : List Planned) (planned : Planned) → map place_of (plan ++ planned ∷ []) ≡ map place_of plan ++ planned.cut.at ∷ []
map_push [] planned = refl
map_push (first ∷ rest) planned = ap (λ (ks : List ℕ). first.cut.at ∷ ks) (map_push rest planned)

pages_push : (before : List ℕ) (k : ℕ) (r : Result (List ℕ) Kind) → with_pages (before ++ k ∷ []) r ≡ with_pages before (with_page k r)
pages_push before k (Ok ends) = ap Ok (append_assoc before (k ∷ []) ends)
pages_push before k (Err kind) = refl

nothing_left : (n : ℕ) → ◌≡◌ {A = List Node} [] (drop n [])
nothing_left zero = refl
nothing_left (suc n) = refl

drop_drop : (xs : List Node) (m n : ℕ) → drop n (drop m xs) ≡ drop (m + n) xs
drop_drop xs zero n = let e : n ≡ zero + n = omega arith in ap (λ (k : ℕ). drop k xs) e
drop_drop [] (suc m) zero = nothing_left (suc m + zero)
drop_drop [] (suc m) (suc n) = nothing_left (suc m + suc n)
drop_drop (x ∷ xs) (suc m) n = let e : suc (m + n) ≡ suc m + n = omega arith in drop_drop xs m n ∙ ap (λ (k : ℕ). drop k (x ∷ xs)) e

pub drop-more : (nodes rest : List Node) (start at : ℕ) → drop start nodes ≡ rest → drop (start + at) nodes ≡ drop at rest
drop-more nodes rest start at is = sym (drop_drop nodes start at) ∙ ap (drop at) is

-- ---- where pages end

ends_suc : (end : List Node → Result (Option ℕ) Kind) (n : ℕ) (nodes : List Node) (k : ℕ) → end nodes ≡ Ok (Some k) → ends_from end (suc n) nodes ≡ with_page k (ends_from end n (drop k nodes))
ends_suc end n nodes k is = ap (λ (r : Result (Option ℕ) Kind). elim r [ Err kind ↦ Err kind | Ok place ↦ elim place [ None ↦ Ok [] | Some j ↦ with_page j (ends_from end n (drop j nodes)) ] ]) is

pub ends-none : (end : List Node → Result (Option ℕ) Kind) (n : ℕ) (nodes : List Node) → end nodes ≡ Ok None → ends_from end n nodes ≡ Ok []
ends-none end zero nodes is = refl
ends-none end (suc n) nodes is = ap (λ (r : Result (Option ℕ) Kind). elim r [ Err kind ↦ Err kind | Ok place ↦ elim place [ None ↦ Ok [] | Some j ↦ with_page j (ends_from end n (drop j nodes)) ] ]) is

ends_err : (end : List Node → Result (Option ℕ) Kind) (n : ℕ) (nodes : List Node) (kind : Kind) → end nodes ≡ Err kind → ends_from end (suc n) nodes ≡ Err kind
ends_err end n nodes kind is = ap (λ (r : Result (Option ℕ) Kind). elim r [ Err kind ↦ Err kind | Ok place ↦ elim place [ None ↦ Ok [] | Some j ↦ with_page j (ends_from end n (drop j nodes)) ] ]) is

pub ends-page : (end : List Node → Result (Option ℕ) Kind) (nodes : List Node) (plan : List Planned) (planned : Planned) (all : Result (List ℕ) Kind) → length plan < length nodes → end (left_after plan nodes) ≡ Ok (Some planned.cut.at) → with_pages (map place_of plan) (ends_from end (length nodes - length plan) (left_after plan nodes)) ≡ all → with_pages (map place_of (plan ++ planned ∷ [])) (ends_from end (length nodes - length (plan ++ planned ∷ [])) (left_after (plan ++ planned ∷ []) nodes)) ≡ all
ends-page end nodes plan planned all less is before =
    let fuel : length nodes - length plan ≡ suc (length nodes - length (plan ++ planned ∷ [])) = omega (arith, length-append plan (planned ∷ [])) in
    let n = length nodes - length (plan ++ planned ∷ []) in
    ap (λ (ns : List Node). with_pages (map place_of (plan ++ planned ∷ [])) (ends_from end n ns)) (left_after-push nodes plan planned)
    ∙ ap (λ (ks : List ℕ). with_pages ks (ends_from end n (drop planned.cut.at (left_after plan nodes)))) (map_push plan planned)
    ∙ pages_push (map place_of plan) planned.cut.at (ends_from end n (drop planned.cut.at (left_after plan nodes)))
    ∙ ap (with_pages (map place_of plan)) (sym (ends_suc end n (left_after plan nodes) planned.cut.at is))
    ∙ ap (λ (m : ℕ). with_pages (map place_of plan) (ends_from end m (left_after plan nodes))) (sym fuel)
    ∙ before

nil_after : (ks : List ℕ) → ks ++ [] ≡ ks
nil_after [] = refl
nil_after (k ∷ ks) = ap (λ (js : List ℕ). k ∷ js) (nil_after ks)

pub ends-last : (end : List Node → Result (Option ℕ) Kind) (n : ℕ) (nodes : List Node) (plan : List Planned) (all : Result (List ℕ) Kind) → end (left_after plan nodes) ≡ Ok None → with_pages (map place_of plan) (ends_from end n (left_after plan nodes)) ≡ all → all ≡ Ok (map place_of plan)
ends-last end n nodes plan all is before = sym before ∙ ap (with_pages (map place_of plan)) (ends-none end n (left_after plan nodes) is) ∙ ap Ok (nil_after (map place_of plan))

pub end-nothing : (rules : PageRules) → page_end rules [] ≡ Ok None
unfolding page_end search_end are_small_on_page on_page
end-nothing rules = refl

ok_err : (kind : Kind) → ◌≡◌ {A = Result (Option ℕ) Kind} (Ok None) (Err kind) → ⊥
ok_err kind is = cc

fault_at : (rules : PageRules) (n : ℕ) (left : List Node) (kind : Kind) → (n ≡ zero → left ≡ []) → page_end rules left ≡ Err kind → ends_from (page_end rules) n left ≡ Err kind
fault_at rules zero left kind none is = absurd (let nothing = sym (end-nothing rules) ∙ ap (page_end rules) (sym (none refl)) ∙ is in ok_err kind nothing)
fault_at rules (suc n) left kind none is = ends_err (page_end rules) n left kind is

pub ends-fault : (rules : PageRules) (nodes : List Node) (n : ℕ) (plan : List Planned) (all : Result (List ℕ) Kind) (stop : Stop) → (n ≡ zero → left_after plan nodes ≡ []) → IsEnd rules (left_after plan nodes) (Err stop) → with_pages (map place_of plan) (ends_from (page_end rules) n (left_after plan nodes)) ≡ all → Answers all (Err stop)
ends-fault rules nodes n plan all Memory none is before = tt
ends-fault rules nodes n plan all (Fault kind) none is before = sym before ∙ ap (with_pages (map place_of plan)) (fault_at rules n (left_after plan nodes) kind none is)
ends-fault rules nodes n plan all (At fault) none is before = absurd is

-- ---- pages that are given

pub parts-more : (rules : PageRules) (parts : List PagePart) (nodes : List Node) (planned : Planned) (rest : List Planned) (part : PagePart) (all : List PagePart) → parts ++ parts_by rules nodes (map place_of (planned ∷ rest)) ≡ all → part ≡ page_of rules (take planned.cut.at nodes) → (parts ++ part ∷ []) ++ parts_by rules (drop planned.cut.at nodes) (map place_of rest) ≡ all
parts-more rules parts nodes planned rest part all before is =
    append_assoc parts (part ∷ []) (parts_by rules (drop planned.cut.at nodes) (map place_of rest)) ∙ ap (λ (p : PagePart). parts ++ p ∷ parts_by rules (drop planned.cut.at nodes) (map place_of rest)) is ∙ before

pub ends-at : (end : List Node → Result (Option ℕ) Kind) (nodes : List Node) (plan : List Planned) (planned : Planned) (new : List Planned) (all : Result (List ℕ) Kind) → new ≡ plan ++ planned ∷ [] → length plan < length nodes → end (left_after plan nodes) ≡ Ok (Some planned.cut.at) → with_pages (map place_of plan) (ends_from end (length nodes - length plan) (left_after plan nodes)) ≡ all → with_pages (map place_of new) (ends_from end (length nodes - length new) (left_after new nodes)) ≡ all
ends-at end nodes plan planned new all more less is before =
    ap (λ (ps : List Planned). with_pages (map place_of ps) (ends_from end (length nodes - length ps) (left_after ps nodes))) more ∙ ends-page end nodes plan planned all less is before

-- ---- all pages

pub closed-is : (nodes more closed old : List Node) → more ≡ nodes ++ fil_glue ∷ [] → closed ≡ more ++ forced_place ∷ [] → nodes ≡ old → closed ≡ closed_by old
closed-is nodes more closed old first second same =
    second ∙ ap (λ (ns : List Node). ns ++ forced_place ∷ []) first ∙ append_assoc nodes (fil_glue ∷ []) (forced_place ∷ []) ∙ ap (λ (ns : List Node). ns ++ fil_glue ∷ forced_place ∷ []) same

pub all-parts : (rules : PageRules) (nodes closed : List Node) (ks : List ℕ) (parts : List PagePart) → closed ≡ closed_by nodes → ends_from (page_end rules) (length closed) closed ≡ Ok ks → parts ≡ parts_by rules closed ks → all_parts rules nodes ≡ Ok parts
unfolding all_parts
all-parts rules nodes closed ks parts is ends made =
    ap (λ (ns : List Node). parts_in rules ns (ends_from (page_end rules) (length ns) ns)) (sym is) ∙ ap (parts_in rules closed) ends ∙ ap Ok (sym made)

pub all-fault : (rules : PageRules) (nodes closed : List Node) (stop : Stop) → closed ≡ closed_by nodes → Answers (ends_from (page_end rules) (length closed) closed) (Err stop) → Answers (all_parts rules nodes) (Err stop)
unfolding all_parts
all-fault rules nodes closed Memory is ends = tt
all-fault rules nodes closed (Fault kind) is ends = ap (λ (ns : List Node). parts_in rules ns (ends_from (page_end rules) (length ns) ns)) (sym is) ∙ ap (parts_in rules closed) ends
all-fault rules nodes closed (At fault) is ends = absurd ends
