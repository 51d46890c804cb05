-- The items of a line as they are taken from a list.
use Rattle.std.proofs.Common.{◌≡◌, ℕ, zero, suc, ◌+◌, ◌-◌, ◌<◌, ◌≤◌, List, [], ◌∷◌, ◌++◌, length, take, drop, get_or, reverse, Bool, if◌then◌else◌, Option, None, Some, MatchOption, sym, ap, ◌∙◌, arith}
use Rattle.std.proofs.lemmas.Bool.{ne_eqb}
use Rattle.std.proofs.lemmas.List.{drop_all, drop_more, get_or_default, reverse-append}
use Rattle.lb_base.specs.declared.glue.Glue.{Glue as GlueSize}
use Rattle.lb_base.specs.declared.node.Node as made
use Rattle.lb_base.specs.declared.node.Node.{Node, out-Node}
use Rattle.lb_base.specs.declared.node.Node.TheVariants.{outs-Glue, rolls-Glue}
use Rattle.lb_model_paper.specs.Breaks.{glue_node, items_between, line_items, parts_at, parts_at_item, parts_of, post_at, pre_at, trimmed}
use Rattle.lb_model_paper.specs.Nodes.{shown, unbroken_parts, unbroken_parts_in}
use Rattle.lb_model_paper.specs.declared.paragraph.Shape.{Shape}
use Rattle.lb_measure.proofs.Measures.{parts_at_is}
use Rattle.lb_nodes.proofs.ShownLaws.{shown-joined}
use Rattle.lb_model_paper.proofs.ShownLists.{shown-nil, shown-other}
use Rattle.lb_lines.specs.Cuts.{IsSkipped}

drop_none : (n : ℕ) → ◌≡◌ {A = List Node} (drop n []) []
drop_none n = let none : List Node = [] in let le : length none ≤ n = omega arith in drop_all n none le

drop-drop : (i n : ℕ) (nodes : List Node) → drop n (drop i nodes) ≡ drop (i + n) nodes
drop-drop zero n nodes = ap (λ (k : ℕ). drop k nodes) (let e : n ≡ zero + n = omega arith in e)
drop-drop (suc i) n [] = drop_none n ∙ sym (drop_none (suc i + n))
drop-drop (suc i) n (node ∷ nodes) = drop-drop i n nodes ∙ ap (λ (k : ℕ). drop k (node ∷ nodes)) (let e : suc (i + n) ≡ suc i + n = omega arith in e)

-- ---- the items between two breaks

pub between_is : (nodes old new : List Node) (i item left : ℕ) → old ≡ drop i nodes → IsSkipped i (item - i) old left new → take left new ≡ items_between nodes i (item + 1)
between_is nodes old new zero item left is skipped =
    let count : item - zero ≡ item + 1 - 1 = omega arith in
    skipped.line ∙ ap (λ (ns : List Node). take (item - zero) ns) is ∙ ap (λ (n : ℕ). take n nodes) count
between_is nodes old new (suc i) item left is skipped =
    let count : item - suc i ≡ item + 1 - 1 - suc i = omega arith in
    skipped.line ∙ ap (λ (b : Bool). if b then take (item - suc i) old else trimmed (take (item - suc i) old)) (ne_eqb (suc i) 0 (λ (e : suc i ≡ 0). omega arith))
    ∙ ap (λ (ns : List Node). trimmed (take (item - suc i) ns)) is ∙ ap (λ (n : ℕ). trimmed (take n (drop (suc i) nodes))) count

pub rest_is : (nodes old new : List Node) (i item left : ℕ) → i ≤ item → old ≡ drop i nodes → IsSkipped i (item - i) old left new → drop left new ≡ drop item nodes
rest_is nodes old new i item left rises is skipped =
    let whole : i + (item - i) ≡ item = omega arith in
    skipped.rest ∙ ap (λ (ns : List Node). drop (item - i) ns) is ∙ drop-drop i (item - i) nodes ∙ ap (λ (n : ℕ). drop n nodes) whole

-- ---- the item at a break

-- what is taken from the end of a list that is turned round
abbrev pub IsPopped : List Node → List Node → Option Node → Type 0
IsPopped old new item = MatchOption item ((old ≡ []) × (new ≡ [])) (λ last. old ≡ new ++ last ∷ [])

pub record IsItem (nodes : List Node) (k : ℕ) (new : List Node) (item : Option Node) : Type 0 where
  pub parts : parts_at_item item ≡ parts_at nodes (k + 1)
  pub rest : reverse new ≡ drop (k + 1) nodes

some_item : (nodes old new : List Node) (k : ℕ) (last node : Node) → k < length nodes → node ≡ get_or nodes k node → old ≡ new ++ last ∷ [] → reverse old ≡ drop k nodes → drop k nodes ≡ node ∷ drop (k + 1) nodes → IsItem nodes k new (Some last)
some_item nodes old new k last node within is popped turned next =
    let both : last ∷ reverse new ≡ node ∷ drop (k + 1) nodes = sym (ap reverse popped ∙ reverse-append new (last ∷ [])) ∙ turned ∙ next in
    let same : last ≡ node = cc in
    let rest : reverse new ≡ drop (k + 1) nodes = cc in
    record { parts = ap parts_of same ∙ sym (parts_at_is nodes k node within is); rest = rest }

pub item_is : (nodes old new : List Node) (k : ℕ) (item : Option Node) (d : Node) → k < length nodes → IsPopped old new item → reverse old ≡ drop k nodes → IsItem nodes k new item
item_is nodes old new k None d within popped turned =
    let none : [] ≡ get_or nodes k d ∷ drop (k + 1) nodes = sym (ap reverse popped.0) ∙ turned ∙ drop_more nodes k d within in
    absurd (cc)
item_is nodes old new k (Some last) d within popped turned =
    some_item nodes old new k last (get_or nodes k d) within (get_or_default nodes k d (get_or nodes k d) within) popped turned (drop_more nodes k d within)

-- ---- the whole line

shows_itself : (glue : GlueSize) → unbroken_parts (made.Glue glue) ≡ None
shows_itself glue = ap unbroken_parts_in (outs-Glue glue)

shown_line : (shape : Shape) (inner : List Node) → shown (made.Glue shape.left ∷ (inner ++ made.Glue shape.right ∷ [])) ≡ glue_node shape.left ∷ shown inner ++ glue_node shape.right ∷ []
shown_line shape inner =
    let R : Node = made.Glue shape.right in
    shown-other (made.Glue shape.left) (inner ++ R ∷ []) (shows_itself shape.left)
    ∙ ap (λ (ns : List Node). made.Glue shape.left ∷ ns) (shown-joined inner (R ∷ []) ∙ ap (λ (ns : List Node). shown inner ++ ns) (shown-other R [] (shows_itself shape.right) ∙ ap (λ (ns : List Node). R ∷ ns) shown-nil))
    ∙ ap (λ (n : Node). n ∷ (shown inner ++ R ∷ [])) (sym (rolls-Glue shape.left))
    ∙ ap (λ (n : Node). glue_node shape.left ∷ (shown inner ++ n ∷ [])) (sym (rolls-Glue shape.right))

pub line_is : (shape : Shape) (nodes : List Node) (i j : ℕ) (line post between pre : List Node) → line ≡ (((made.Glue shape.left ∷ post) ++ between) ++ pre) ++ made.Glue shape.right ∷ []
    → post ≡ post_at nodes i → between ≡ items_between nodes i j → pre ≡ pre_at nodes j → shown line ≡ line_items shape nodes i j
line_is shape nodes i j line post between pre is post_is between_is pre_is =
    ap shown is ∙ shown_line shape ((post ++ between) ++ pre)
    ∙ ap (λ (ns : List Node). glue_node shape.left ∷ shown ((ns ++ between) ++ pre) ++ glue_node shape.right ∷ []) post_is
    ∙ ap (λ (ns : List Node). glue_node shape.left ∷ shown ((post_at nodes i ++ ns) ++ pre) ++ glue_node shape.right ∷ []) between_is
    ∙ ap (λ (ns : List Node). glue_node shape.left ∷ shown ((post_at nodes i ++ items_between nodes i j) ++ ns) ++ glue_node shape.right ∷ []) pre_is
