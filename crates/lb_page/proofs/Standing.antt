-- What stands on a page, one node more.
use Rattle.std.proofs.Common.{◌≡◌, ◌∙◌, ap, refl, Bool, true, false, not, ◌&&◌, ◌||◌, List, [], ◌∷◌, ◌++◌, take, length, Option, None, Some, ℕ, suc, zero, ◌+◌, ◌<◌, length-append, ℤ, if◌then◌else◌, arith}
use Rattle.std.proofs.lemmas.List.{take_all, take-append-le}
use Rattle.std.specs.List.{list_all, range_with_len}
use Rattle.lb_base.specs.declared.node.Node.{Node}
use Rattle.lb_model_paper.specs.Boxes.{fronts_pass}
use Rattle.lb_model_paper.specs.declared.pages.PageRules.{PageRules}
use Rattle.lb_model_paper.specs.Pages.{is_begun, is_block, is_discardable, is_some_left, on_page, top_glue, top_width, with_top_glue, without_top}
use Rattle.lb_page.specs.SoFar.{first_width}

-- a node behind others whose top is gone
abbrev pub pushed : List Node → Node → List Node
pushed [] node = if is_discardable node then [] else node ∷ []
pushed (first ∷ rest) node = (first ∷ rest) ++ node ∷ []

without_top_at : (b : Bool) (x : Node) (xs : List Node) (node : Node) → without_top (xs ++ node ∷ []) ≡ pushed (without_top xs) node → (if b then without_top (xs ++ node ∷ []) else x ∷ (xs ++ node ∷ [])) ≡ pushed (if b then without_top xs else x ∷ xs) node
without_top_at true x xs node rest = rest
without_top_at false x xs node rest = refl

pub without_top-push : (xs : List Node) (node : Node) → without_top (xs ++ node ∷ []) ≡ pushed (without_top xs) node
without_top-push [] node = refl
without_top-push (x ∷ xs) node = without_top_at (is_discardable x) x xs node (without_top-push xs node)

-- nothing stands there, and a discardable goes
pub pushed-top : (xs : List Node) (node : Node) → is_some_left xs ≡ false → is_discardable node ≡ true → pushed xs node ≡ xs
pushed-top [] node none goes = ap (λ (b : Bool). if b then [] else node ∷ []) goes
pushed-top (x ∷ xs) node none goes = absurd (cc)

keeps : (b : Bool) (node : Node) → (false || not b) ≡ true → (if b then [] else node ∷ []) ≡ node ∷ []
keeps true node stays = absurd (cc)
keeps false node stays = refl

pub pushed-more : (xs : List Node) (node : Node) → (is_some_left xs || not (is_discardable node)) ≡ true → pushed xs node ≡ xs ++ node ∷ []
pushed-more [] node stays = keeps (is_discardable node) node stays
pushed-more (x ∷ xs) node stays = refl

-- the glue before the first box or rule
push_first_at : (b : Bool) (rules : PageRules) (x : Node) (xs : List Node) (node : Node) → (if b then Some (top_width rules x) else first_width rules xs) ≡ None → (first_width rules xs ≡ None → with_top_glue rules (xs ++ node ∷ []) ≡ (with_top_glue rules xs ++ top_glue rules node ∷ []) ++ node ∷ []) → (if b then top_glue rules x ∷ x ∷ (xs ++ node ∷ []) else x ∷ with_top_glue rules (xs ++ node ∷ [])) ≡ ((if b then top_glue rules x ∷ x ∷ xs else x ∷ with_top_glue rules xs) ++ top_glue rules node ∷ []) ++ node ∷ []
push_first_at true rules x xs node none rest = absurd (cc)
push_first_at false rules x xs node none rest = ap (λ (ns : List Node). x ∷ ns) (rest none)

pub with_top_glue-push_first : (rules : PageRules) (xs : List Node) (node : Node) → first_width rules xs ≡ None → is_block node ≡ true → with_top_glue rules (xs ++ node ∷ []) ≡ (with_top_glue rules xs ++ top_glue rules node ∷ []) ++ node ∷ []
with_top_glue-push_first rules [] node none is = ap (λ (b : Bool). if b then top_glue rules node ∷ node ∷ [] else node ∷ []) is
with_top_glue-push_first rules (x ∷ xs) node none is = push_first_at (is_block x) rules x xs node none (λ n. with_top_glue-push_first rules xs node n is)

push_more_at : (b : Bool) (rules : PageRules) (x : Node) (xs : List Node) (node : Node) → with_top_glue rules (xs ++ node ∷ []) ≡ with_top_glue rules xs ++ node ∷ [] → (if b then top_glue rules x ∷ x ∷ (xs ++ node ∷ []) else x ∷ with_top_glue rules (xs ++ node ∷ [])) ≡ (if b then top_glue rules x ∷ x ∷ xs else x ∷ with_top_glue rules xs) ++ node ∷ []
push_more_at true rules x xs node rest = refl
push_more_at false rules x xs node rest = ap (λ (ns : List Node). x ∷ ns) rest

pub with_top_glue-push_more : (rules : PageRules) (xs : List Node) (node : Node) → is_block node ≡ false → with_top_glue rules (xs ++ node ∷ []) ≡ with_top_glue rules xs ++ node ∷ []
with_top_glue-push_more rules [] node is = ap (λ (b : Bool). if b then top_glue rules node ∷ node ∷ [] else node ∷ []) is
with_top_glue-push_more rules (x ∷ xs) node is = push_more_at (is_block x) rules x xs node (with_top_glue-push_more rules xs node is)

push_later_at : (b : Bool) (rules : PageRules) (x : Node) (xs : List Node) (node : Node) (width : ℤ) → (if b then Some (top_width rules x) else first_width rules xs) ≡ Some width → (first_width rules xs ≡ Some width → with_top_glue rules (xs ++ node ∷ []) ≡ with_top_glue rules xs ++ node ∷ []) → (if b then top_glue rules x ∷ x ∷ (xs ++ node ∷ []) else x ∷ with_top_glue rules (xs ++ node ∷ [])) ≡ (if b then top_glue rules x ∷ x ∷ xs else x ∷ with_top_glue rules xs) ++ node ∷ []
push_later_at true rules x xs node width there rest = refl
push_later_at false rules x xs node width there rest = ap (λ (ns : List Node). x ∷ ns) (rest there)

pub with_top_glue-push_later : (rules : PageRules) (xs : List Node) (node : Node) (width : ℤ) → first_width rules xs ≡ Some width → with_top_glue rules (xs ++ node ∷ []) ≡ with_top_glue rules xs ++ node ∷ []
with_top_glue-push_later rules [] node width there = absurd (cc)
with_top_glue-push_later rules (x ∷ xs) node width there = push_later_at (is_block x) rules x xs node width there (λ n. with_top_glue-push_later rules xs node width n)

-- how wide that glue is
width_first_at : (b : Bool) (rules : PageRules) (x : Node) (xs : List Node) (node : Node) → (if b then Some (top_width rules x) else first_width rules xs) ≡ None → (first_width rules xs ≡ None → first_width rules (xs ++ node ∷ []) ≡ Some (top_width rules node)) → (if b then Some (top_width rules x) else first_width rules (xs ++ node ∷ [])) ≡ Some (top_width rules node)
width_first_at true rules x xs node none rest = absurd (cc)
width_first_at false rules x xs node none rest = rest none

pub first_width-push_first : (rules : PageRules) (xs : List Node) (node : Node) → first_width rules xs ≡ None → is_block node ≡ true → first_width rules (xs ++ node ∷ []) ≡ Some (top_width rules node)
first_width-push_first rules [] node none is = ap (λ (b : Bool). if b then Some (top_width rules node) else None) is
first_width-push_first rules (x ∷ xs) node none is = width_first_at (is_block x) rules x xs node none (λ n. first_width-push_first rules xs node n is)

pub first_width-push_more : (rules : PageRules) (xs : List Node) (node : Node) → is_block node ≡ false → first_width rules (xs ++ node ∷ []) ≡ first_width rules xs
first_width-push_more rules [] node is = ap (λ (b : Bool). if b then Some (top_width rules node) else None) is
first_width-push_more rules (x ∷ xs) node is = ap (λ (o : Option ℤ). if is_block x then Some (top_width rules x) else o) (first_width-push_more rules xs node is)

width_later_at : (b : Bool) (rules : PageRules) (x : Node) (xs : List Node) (node : Node) (width : ℤ) → (if b then Some (top_width rules x) else first_width rules xs) ≡ Some width → (first_width rules xs ≡ Some width → first_width rules (xs ++ node ∷ []) ≡ first_width rules xs) → (if b then Some (top_width rules x) else first_width rules (xs ++ node ∷ [])) ≡ (if b then Some (top_width rules x) else first_width rules xs)
width_later_at true rules x xs node width there rest = refl
width_later_at false rules x xs node width there rest = rest there

pub first_width-push_later : (rules : PageRules) (xs : List Node) (node : Node) (width : ℤ) → first_width rules xs ≡ Some width → first_width rules (xs ++ node ∷ []) ≡ first_width rules xs
first_width-push_later rules [] node width there = absurd (cc)
first_width-push_later rules (x ∷ xs) node width there = width_later_at (is_block x) rules x xs node width there (λ n. first_width-push_later rules xs node width n)

-- ---- a page with one node more

pub on_page-top : (rules : PageRules) (front : List Node) (node : Node) → is_begun front ≡ false → is_discardable node ≡ true → on_page rules (front ++ node ∷ []) ≡ on_page rules front
unfolding on_page
on_page-top rules front node none goes = ap (with_top_glue rules) (without_top-push front node ∙ pushed-top (without_top front) node none goes)

pub on_page-first : (rules : PageRules) (front : List Node) (node : Node) → (is_begun front || not (is_discardable node)) ≡ true → first_width rules (without_top front) ≡ None → is_block node ≡ true → on_page rules (front ++ node ∷ []) ≡ (on_page rules front ++ top_glue rules node ∷ []) ++ node ∷ []
unfolding on_page
on_page-first rules front node stays none is = ap (with_top_glue rules) (without_top-push front node ∙ pushed-more (without_top front) node stays) ∙ with_top_glue-push_first rules (without_top front) node none is

pub on_page-more : (rules : PageRules) (front : List Node) (node : Node) → (is_begun front || not (is_discardable node)) ≡ true → is_block node ≡ false → on_page rules (front ++ node ∷ []) ≡ on_page rules front ++ node ∷ []
unfolding on_page
on_page-more rules front node stays is = ap (with_top_glue rules) (without_top-push front node ∙ pushed-more (without_top front) node stays) ∙ with_top_glue-push_more rules (without_top front) node is

pub on_page-later : (rules : PageRules) (front : List Node) (node : Node) (width : ℤ) → (is_begun front || not (is_discardable node)) ≡ true → first_width rules (without_top front) ≡ Some width → on_page rules (front ++ node ∷ []) ≡ on_page rules front ++ node ∷ []
unfolding on_page
on_page-later rules front node width stays there = ap (with_top_glue rules) (without_top-push front node ∙ pushed-more (without_top front) node stays) ∙ with_top_glue-push_later rules (without_top front) node width there

-- ---- fronts

and_true : (b : Bool) → (b && true) ≡ b
and_true true = refl
and_true false = refl

and_assoc : (a b c : Bool) → (a && (b && c)) ≡ ((a && b) && c)
and_assoc true b c = refl
and_assoc false b c = refl

all_below : (p q : ℕ → Bool) (a n : ℕ) → ((k : ℕ) → k < a + n → p k ≡ q k) → list_all p (range_with_len a n) ≡ list_all q (range_with_len a n)
all_below p q a zero same = refl
all_below p q a (suc n) same =
    let here : a < a + suc n = omega arith in
    ap (λ (b : Bool). b && list_all p (range_with_len (a + 1) n)) (same a here)
    ∙ ap (λ (b : Bool). q a && b) (all_below p q (a + 1) n (λ k less. same k (omega arith)))

all_more : (p : ℕ → Bool) (a n : ℕ) → list_all p (range_with_len a (suc n)) ≡ (list_all p (range_with_len a n) && p (a + n))
all_more p a zero = and_true (p a) ∙ ap p (omega arith)
all_more p a (suc n) =
    ap (λ (b : Bool). p a && b) (all_more p (a + 1) n) ∙ and_assoc (p a) (list_all p (range_with_len (a + 1) n)) (p (a + 1 + n)) ∙ ap (λ (k : ℕ). (p a && list_all p (range_with_len (a + 1) n)) && p k) (omega arith)

pub fronts_pass-push : (test : List Node → Bool) (nodes : List Node) (node : Node) → fronts_pass test (nodes ++ node ∷ []) ≡ (fronts_pass test nodes && test (nodes ++ node ∷ []))
fronts_pass-push test nodes node =
    let more = nodes ++ node ∷ [] in
    let long : length more ≡ suc (length nodes) = omega (arith, length-append nodes (node ∷ [])) in
    let whole : take (suc (length nodes)) more ≡ more = take_all (suc (length nodes)) more (omega arith) in
    let nothing : 0 + suc (length nodes) ≡ suc (length nodes) = omega arith in
    ap (λ (n : ℕ). list_all (λ k. test (take k more)) (range_with_len 0 (suc n))) long
    ∙ all_more (λ k. test (take k more)) 0 (suc (length nodes))
    ∙ ap (λ (k : ℕ). list_all (λ j. test (take j more)) (range_with_len 0 (suc (length nodes))) && test (take k more)) nothing
    ∙ ap (λ (b : Bool). b && test (take (suc (length nodes)) more)) (all_below (λ k. test (take k more)) (λ k. test (take k nodes)) 0 (suc (length nodes)) (λ k less. ap test (take-append-le k nodes (node ∷ []) (omega arith))))
    ∙ ap (λ (ns : List Node). fronts_pass test nodes && test ns) whole
