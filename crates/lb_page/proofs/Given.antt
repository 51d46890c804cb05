-- The page before a place, and what is left.
use Rattle.std.proofs.Common.{◌≡◌, ◌∙◌, ap, sym, refl, ℕ, suc, zero, ◌+◌, ◌<◌, Bool, true, false, List, [], ◌∷◌, ◌++◌, take, drop, Option, None, Some, Ok, Err, ℤ, if◌then◌else◌, filter, arith}
use Rattle.std.specs.Prelude.{option_map}
use Rattle.lb_base.specs.Answers.{Answers}
use Rattle.lb_base.specs.declared.fault.Stop.{Stop}
use Rattle.lb_base.specs.declared.fault.Stop.TheVariants.{At, Fault, Memory}
use Rattle.lb_base.specs.declared.node.Boxed.{Boxed}
use Rattle.lb_base.specs.declared.node.Discretionary.{Discretionary}
use Rattle.lb_base.specs.declared.node.HeadMark.{HeadMark}
use Rattle.lb_base.specs.declared.node.HeadMark.TheOpen.{Adjust, Boxed as InnerBox, Char, Disc, Glue, Ins, Kern, Lig, Mark, Note, Penalty, Rule}
use Rattle.lb_base.specs.declared.node.Node.{Node, Node-F, out-Node}
use Rattle.lb_model_paper.specs.declared.pages.PagePart.{PagePart}
use Rattle.lb_model_paper.specs.declared.pages.PageRules.{PageRules}
use Rattle.lb_model_paper.specs.Pages.{closing_kern, discards_in, is_block, is_block_in, is_discardable, is_foot, last_block_depth, left_in, next_part, nodes_left, on_page, page_end, page_in, page_of, top_width, without_top}
use Rattle.lb_page.specs.declared.best.Cut.{Cut}
use Rattle.lb_page.specs.declared.filling.Filling.{Filling}
use Rattle.lb_page.specs.Ends.{IsEnd}
use Rattle.lb_page.specs.Fillings.{IsFilling, kern_of, stays}
use Rattle.lb_page.specs.Places.{closing_width, IsPageOf}
use Rattle.lb_page.specs.SoFar.{first_width}

-- ---- the page

kern-is : (rules : PageRules) (depth : Option ℤ) → kern_of (option_map (closing_width rules) depth) ≡ closing_kern rules depth
kern-is rules None = refl
kern-is rules (Some depth) = refl

pub part-is : (rules : PageRules) (front : List Node) (filling : Filling) (cut : Cut) (items feet : List Node) (goal : ℤ) → IsFilling rules front filling → IsPageOf rules front cut → items ≡ filling.items.items ++ kern_of cut.closing → feet ≡ filling.feet.items → goal ≡ cut.goal → ◌≡◌ {A = PagePart} (record { items = items; feet = feet; goal = goal }) (page_of rules front)
unfolding page_of
part-is rules front filling cut items feet goal filled page is_items is_feet is_goal =
    let page_items = is_items ∙ ap (λ (ns : List Node). ns ++ kern_of cut.closing) filled.items ∙ ap (λ (ns : List Node). filter stays (on_page rules front) ++ ns) (ap kern_of page.closing ∙ kern-is rules (last_block_depth (on_page rules front))) in
    ap (λ (ns : List Node). record { items = ns; feet = feet; goal = goal }) page_items
    ∙ ap (λ (ns : List Node). record { items = filter stays (on_page rules front) ++ closing_kern rules (last_block_depth (on_page rules front)); feet = ns; goal = goal }) (is_feet ∙ filled.feet)
    ∙ ap (λ (z : ℤ). record { items = filter stays (on_page rules front) ++ closing_kern rules (last_block_depth (on_page rules front)); feet = filter is_foot (on_page rules front); goal = z }) (is_goal ∙ page.goal)

-- ---- the next node

-- what is behind some nodes of a list, the next one first
pub record IsSplit (xs : List Node) (k : ℕ) (node : Node) (rest : List Node) : Type 0 where
  pub front : take (k + 1) xs ≡ take k xs ++ node ∷ []
  pub left : rest ≡ drop (k + 1) xs
  pub more : (m : ℕ) → k < m → (after : List Node) × (take m xs ≡ take k xs ++ node ∷ after)

first_more : (x : Node) (xs : List Node) (node : Node) (m : ℕ) → x ≡ node → 0 < m → (after : List Node) × (take m (x ∷ xs) ≡ node ∷ after)
first_more x xs node zero same less = absurd (omega arith)
first_more x xs node (suc m) same less = (take m xs, ap (λ (n : Node). n ∷ take m xs) same)

split_first : (xs : List Node) (node : Node) (rest : List Node) → xs ≡ node ∷ rest → IsSplit xs zero node rest
split_first [] node rest is = absurd (cc)
split_first (x ∷ xs) node rest is =
    let same : x ≡ node = cc in
    let tail : xs ≡ rest = cc in
    record {
      front = ap (λ (n : Node). n ∷ []) same;
      left = sym tail;
      more = λ m less. first_more x xs node m same less;
    }

later_more : (x : Node) (xs : List Node) (k : ℕ) (node : Node) (rest : List Node) (m : ℕ) → IsSplit xs k node rest → suc k < m → (after : List Node) × (take m (x ∷ xs) ≡ (x ∷ take k xs) ++ node ∷ after)
later_more x xs k node rest zero split less = absurd (omega arith)
later_more x xs k node rest (suc m) split less = let more = split.more m (omega arith) in (more.0, ap (λ (ns : List Node). x ∷ ns) more.1)

split_later : (x : Node) (xs : List Node) (k : ℕ) (node : Node) (rest : List Node) → IsSplit xs k node rest → IsSplit (x ∷ xs) (suc k) node rest
split_later x xs k node rest split =
    let next : suc k + 1 ≡ suc (k + 1) = omega arith in
    record {
      front = ap (λ (n : ℕ). take n (x ∷ xs)) next ∙ ap (λ (ns : List Node). x ∷ ns) split.front;
      left = split.left ∙ sym (ap (λ (n : ℕ). drop n (x ∷ xs)) next);
      more = λ m less. later_more x xs k node rest m split less;
    }

pub split-at : (xs : List Node) (k : ℕ) (node : Node) (rest : List Node) → drop k xs ≡ node ∷ rest → IsSplit xs k node rest
split-at xs zero node rest is = split_first xs node rest is
split-at [] (suc k) node rest is = absurd (cc)
split-at (x ∷ xs) (suc k) node rest is = split_later x xs k node rest (split-at xs k node rest is)

-- ---- the glue before the first box or rule

block_in : (layer : Node-F HeadMark Node Boxed Discretionary) → is_block_in layer ≡ true → discards_in layer ≡ false
block_in (Kern width origin) is = absurd (cc)
block_in (Glue glue) is = absurd (cc)
block_in (Penalty penalty) is = absurd (cc)
block_in (Char code metrics font) is = refl
block_in (Lig ligature) is = refl
block_in (Disc parts) is = refl
block_in (Rule size) is = refl
block_in (InnerBox box) is = refl
block_in (Note note) is = refl
block_in (Mark mark) is = refl
block_in (Ins box) is = refl
block_in (Adjust material) is = refl

block_stays : (node : Node) → is_block node ≡ true → is_discardable node ≡ false
unfolding is_block is_discardable
block_stays node is = block_in (out-Node node) is

width_at : (rules : PageRules) (x : Node) (b : Bool) (o : Option ℤ) → (if b then Some (top_width rules x) else o) ≡ None → o ≡ None
width_at rules x true o none = absurd (cc)
width_at rules x false o none = none

not_block_at : (rules : PageRules) (x : Node) (b : Bool) (o : Option ℤ) → (if b then Some (top_width rules x) else o) ≡ None → b ≡ false
not_block_at rules x true o none = absurd (cc)
not_block_at rules x false o none = refl

width_in : (rules : PageRules) (xs : List Node) (node : Node) (rest : List Node) → first_width rules xs ≡ None → is_block node ≡ true → first_width rules (xs ++ node ∷ rest) ≡ Some (top_width rules node)
width_in rules [] node rest none is = ap (λ (b : Bool). if b then Some (top_width rules node) else first_width rules rest) is
width_in rules (x ∷ xs) node rest none is =
    ap (λ (b : Bool). if b then Some (top_width rules x) else first_width rules (xs ++ node ∷ rest)) (not_block_at rules x (is_block x) (first_width rules xs) none)
    ∙ width_in rules xs node rest (width_at rules x (is_block x) (first_width rules xs) none) is

top_first_at : (rules : PageRules) (x : Node) (xs : List Node) (node : Node) (rest : List Node) (b : Bool) → is_discardable x ≡ b → first_width rules (if b then without_top xs else x ∷ xs) ≡ None → is_block node ≡ true → (first_width rules (without_top xs) ≡ None → first_width rules (without_top (xs ++ node ∷ rest)) ≡ Some (top_width rules node)) → first_width rules (if b then without_top (xs ++ node ∷ rest) else x ∷ (xs ++ node ∷ rest)) ≡ Some (top_width rules node)
top_first_at rules x xs node rest true discards none is later = later none
top_first_at rules x xs node rest false discards none is later = width_in rules (x ∷ xs) node rest none is

pub top-first : (rules : PageRules) (front : List Node) (node : Node) (rest : List Node) → first_width rules (without_top front) ≡ None → is_block node ≡ true → first_width rules (without_top (front ++ node ∷ rest)) ≡ Some (top_width rules node)
top-first rules [] node rest none is =
    ap (λ (b : Bool). first_width rules (if b then without_top rest else node ∷ rest)) (block_stays node is) ∙ ap (λ (b : Bool). if b then Some (top_width rules node) else first_width rules rest) is
top-first rules (x ∷ xs) node rest none is = top_first_at rules x xs node rest (is_discardable x) refl none is (λ n. top-first rules xs node rest n is)

-- the glue of the page whose nodes are moved
pub top-of : (rules : PageRules) (xs : List Node) (k at : ℕ) (node : Node) (rest : List Node) (top : Option ℤ) → IsSplit xs k node rest → k < at → top ≡ first_width rules (without_top (take at xs)) → first_width rules (without_top (take k xs)) ≡ None → is_block node ≡ true → top ≡ Some (top_width rules node)
top-of rules xs k at node rest top split less is none block =
    let more = split.more at less in
    is ∙ ap (λ (ns : List Node). first_width rules (without_top ns)) more.1 ∙ top-first rules (take k xs) node more.0 none block

-- ---- what a call answers

pub part-none : (rules : PageRules) (nodes : List Node) → page_end rules nodes ≡ Ok None → next_part rules nodes ≡ Ok None
unfolding next_part
part-none rules nodes is = ap (page_in rules nodes) is

pub left-none : (rules : PageRules) (nodes : List Node) → page_end rules nodes ≡ Ok None → nodes ≡ nodes_left rules nodes
unfolding nodes_left
left-none rules nodes is = ap (left_in nodes) (sym is)

pub part-some : (rules : PageRules) (nodes : List Node) (k : ℕ) → page_end rules nodes ≡ Ok (Some k) → next_part rules nodes ≡ Ok (Some (page_of rules (take k nodes)))
unfolding next_part
part-some rules nodes k is = ap (page_in rules nodes) is

pub left-some : (rules : PageRules) (nodes : List Node) (k : ℕ) → page_end rules nodes ≡ Ok (Some k) → drop k nodes ≡ nodes_left rules nodes
unfolding nodes_left
left-some rules nodes k is = ap (left_in nodes) (sym is)

pub answers-err : (rules : PageRules) (nodes : List Node) (stop : Stop) → IsEnd rules nodes (Err stop) → Answers (next_part rules nodes) (Err stop)
unfolding next_part
answers-err rules nodes Memory is = absurd is
answers-err rules nodes (Fault kind) is = ap (page_in rules nodes) is
answers-err rules nodes (At fault) is = absurd is
