-- The sums of what stands on a page, one node more.
use Rattle.std.proofs.Common.{◌≡◌, ◌≤ℤ◌, refl, arith, Bool, true, false, ◌||◌, List, [], ◌∷◌, ◌++◌, Option, None, Some, ℤ, pos, ◌+ℤ◌, sym, ap, ◌∙◌, if◌then◌else◌, ◌&&◌, w32, to_z, of_z, FitsSigned}
use Rattle.std.specs.Bool.{OnTrue}
use Rattle.lb_model_paper.specs.Dvi.{is_small}
use Rattle.lb_page.specs.declared.amounts.Amounts.{Amounts}
use Rattle.std.proofs.lemmas.List.Sums.{fold_push}
use Rattle.std.proofs.lemmas.Int.{ints, to_z-of_z}
use Rattle.std.specs.Int.{int_max}
use Rattle.std.specs.List.{fold}
use Rattle.lb_base.specs.declared.glue.Glue.{Glue}
use Rattle.lb_base.specs.declared.glue.Order.{Order}
use Rattle.lb_base.specs.declared.glue.Order.TheVariants.{Finite, Fil, Fill, Filll}
use Rattle.lb_base.specs.declared.node.Axis.TheVariants.{Vertical}
use Rattle.lb_base.specs.declared.node.Node.{Node, Glue as GlueNode}
use Rattle.lb_base.specs.declared.node.Node.TheVariants.{outs-Glue}
use Rattle.lb_model_paper.specs.Nodes.{along, given, largest, reach_right, same_order, shift_in, shift_of, shrink_in, shrink_of, size_in, size_of, space_in, space_of, stretch_in, stretch_of, total}
use Rattle.lb_model_paper.specs.Pages.{foot_size, foot_size_in, is_block, is_block_in, is_foot, is_foot_in, top_glue, top_width, are_small_totals}
use Rattle.lb_model_paper.specs.declared.pages.PageRules.{PageRules}
use Rattle.lb_page.specs.declared.sums.Sums.{Sums}
use Rattle.lb_page.specs.Sums.{amount_in, AreSums, small_sums}

pub total_push : (f : Node → ℤ) (nodes : List Node) (node : Node) → total f (nodes ++ node ∷ []) ≡ total f nodes +ℤ f node
total_push f nodes node = fold_push (λ (so_far : ℤ) (n : Node). so_far +ℤ f n) (pos 0) nodes node

-- what has to hold of the sums behind one node more
pub record AreMore (node : Node) (old new : Sums) : Type 0 where
  pub room : new.room ≡ old.room +ℤ along Vertical node
  pub hanging : new.hanging ≡ (if is_block node then Some (size_of node).depth else old.hanging)
  pub right : new.right ≡ int_max old.right (reach_right node)
  pub stretch : (order : Order) → amount_in new.stretch order ≡ amount_in old.stretch order +ℤ stretch_of order node
  pub shrink : (order : Order) → amount_in new.shrink order ≡ amount_in old.shrink order +ℤ shrink_of order node
  pub has_foot : new.has_foot ≡ (old.has_foot || is_foot node)
  pub feet_size : new.feet_size ≡ old.feet_size +ℤ foot_size node

pub AreSums-push : (page : List Node) (node : Node) (old new : Sums) → AreSums page old → AreMore node old new → AreSums (page ++ node ∷ []) new
AreSums-push page node old new are more = record {
  room = more.room ∙ ap (λ (z : ℤ). z +ℤ along Vertical node) are.room ∙ sym (total_push (along Vertical) page node);
  hanging = more.hanging ∙ ap (λ (d : Option ℤ). if is_block node then Some (size_of node).depth else d) are.hanging ∙ sym (fold_push (λ (d : Option ℤ) (n : Node). if is_block n then Some (size_of n).depth else d) None page node);
  right = more.right ∙ ap (λ (z : ℤ). int_max z (reach_right node)) are.right ∙ sym (fold_push (λ (z : ℤ) (n : Node). int_max z (reach_right n)) (pos 0) page node);
  stretch = λ order. more.stretch order ∙ ap (λ (z : ℤ). z +ℤ stretch_of order node) (are.stretch order) ∙ sym (total_push (stretch_of order) page node);
  shrink = λ order. more.shrink order ∙ ap (λ (z : ℤ). z +ℤ shrink_of order node) (are.shrink order) ∙ sym (total_push (shrink_of order) page node);
  has_foot = more.has_foot ∙ ap (λ (b : Bool). b || is_foot node) are.has_foot ∙ sym (fold_push (λ (b : Bool) (n : Node). b || is_foot n) false page node);
  feet_size = more.feet_size ∙ ap (λ (z : ℤ). z +ℤ foot_size node) are.feet_size ∙ sym (total_push foot_size page node);
}

plus_none : (z : ℤ) → z ≡ z +ℤ pos 0
plus_none z = omega (arith, ints)

plus_nothing : (z : ℤ) → z +ℤ (pos 0 +ℤ pos 0) ≡ z
plus_nothing z = omega (arith, ints)

largest-at_least : (f : Node → ℤ) (a : ℤ) (nodes : List Node) → a ≤ℤ fold (λ (so_far : ℤ) (n : Node). int_max so_far (f n)) a nodes
largest-at_least f a [] = omega (arith, ints)
largest-at_least f a (node ∷ nodes) =
    let more : a ≤ℤ int_max a (f node) = grind (arith, ints) in
    let rest = largest-at_least f (int_max a (f node)) nodes in
    omega (arith, ints)

-- the glue before the first box or rule stands behind some sums
pub record AreTopped (width : ℤ) (topskip : Glue) (old new : Sums) : Type 0 where
  pub room : new.room ≡ old.room +ℤ width
  pub hanging : new.hanging ≡ old.hanging
  pub right : new.right ≡ old.right
  pub stretch : (order : Order) → amount_in new.stretch order ≡ amount_in old.stretch order +ℤ (if same_order topskip.stretch_order order then topskip.stretch else pos 0)
  pub shrink : (order : Order) → amount_in new.shrink order ≡ amount_in old.shrink order +ℤ (if same_order topskip.shrink_order order then topskip.shrink else pos 0)
  pub has_foot : new.has_foot ≡ old.has_foot
  pub feet_size : new.feet_size ≡ old.feet_size

glue_reaches : (glue : Glue) → reach_right (GlueNode glue) ≡ pos 0
unfolding size_of shift_of
glue_reaches glue = ap (λ layer. (size_in layer).width +ℤ shift_in layer) (outs-Glue glue)

glue_takes : (glue : Glue) → along Vertical (GlueNode glue) ≡ glue.width
unfolding along space_of size_of
glue_takes glue = ap (λ layer. given (space_in layer) +ℤ ((size_in layer).height +ℤ (size_in layer).depth)) (outs-Glue glue) ∙ plus_nothing glue.width

glue_stretches : (glue : Glue) (order : Order) → stretch_of order (GlueNode glue) ≡ (if same_order glue.stretch_order order then glue.stretch else pos 0)
unfolding stretch_of
glue_stretches glue order = ap (stretch_in order) (outs-Glue glue)

glue_shrinks : (glue : Glue) (order : Order) → shrink_of order (GlueNode glue) ≡ (if same_order glue.shrink_order order then glue.shrink else pos 0)
unfolding shrink_of
glue_shrinks glue order = ap (shrink_in order) (outs-Glue glue)

glue_no_block : (glue : Glue) → is_block (GlueNode glue) ≡ false
unfolding is_block
glue_no_block glue = ap is_block_in (outs-Glue glue)

pub glue_no_foot : (glue : Glue) → is_foot (GlueNode glue) ≡ false
unfolding is_foot
glue_no_foot glue = ap is_foot_in (outs-Glue glue)

glue_no_foot_size : (glue : Glue) → foot_size (GlueNode glue) ≡ pos 0
unfolding foot_size
glue_no_foot_size glue = ap foot_size_in (outs-Glue glue)

or_false : (b : Bool) → b ≡ (b || false)
or_false true = refl
or_false false = refl

glue_at_most : (a : ℤ) → pos 0 ≤ℤ a → a ≡ int_max a (pos 0)
glue_at_most a least = grind (arith, ints)

pub AreSums-top : (page : List Node) (rules : PageRules) (node : Node) (width : ℤ) (topskip : Glue) (old new : Sums) → topskip ≡ rules.topskip → width ≡ top_width rules node → AreSums page old → AreTopped width topskip old new → AreSums (page ++ top_glue rules node ∷ []) new
AreSums-top page rules node width topskip old new is wide are topped =
    let glue : Glue = record { width = top_width rules node; stretch = rules.topskip.stretch; stretch_order = rules.topskip.stretch_order; shrink = rules.topskip.shrink; shrink_order = rules.topskip.shrink_order } in
    let least : pos 0 ≤ℤ largest reach_right page = largest-at_least reach_right (pos 0) page in
    let positive : pos 0 ≤ℤ old.right = omega (arith, ints, are.right) in
    AreSums-push page (GlueNode glue) old new are (record {
      room = topped.room ∙ ap (λ (z : ℤ). old.room +ℤ z) (wide ∙ sym (glue_takes glue));
      hanging = topped.hanging ∙ ap (λ (b : Bool). if b then Some (size_of (GlueNode glue)).depth else old.hanging) (sym (glue_no_block glue));
      right = topped.right ∙ glue_at_most old.right positive ∙ ap (λ (z : ℤ). int_max old.right z) (sym (glue_reaches glue));
      stretch = λ order. topped.stretch order ∙ ap (λ (g : Glue). amount_in old.stretch order +ℤ (if same_order g.stretch_order order then g.stretch else pos 0)) is ∙ ap (λ (z : ℤ). amount_in old.stretch order +ℤ z) (sym (glue_stretches glue order));
      shrink = λ order. topped.shrink order ∙ ap (λ (g : Glue). amount_in old.shrink order +ℤ (if same_order g.shrink_order order then g.shrink else pos 0)) is ∙ ap (λ (z : ℤ). amount_in old.shrink order +ℤ z) (sym (glue_shrinks glue order));
      has_foot = topped.has_foot ∙ or_false old.has_foot ∙ ap (λ (b : Bool). old.has_foot || b) (sym (glue_no_foot glue));
      feet_size = topped.feet_size ∙ plus_none old.feet_size ∙ ap (λ (z : ℤ). old.feet_size +ℤ z) (sym (glue_no_foot_size glue));
    })

-- an amount as 32 bits hold it
pub amount_in-held : (amounts : Amounts) (order other : Order) (amount sum : ℤ) → FitsSigned w32 amount → sum ≡ amount_in amounts other +ℤ (if same_order order other then to_z w32 (of_z w32 amount) else pos 0) → sum ≡ amount_in amounts other +ℤ (if same_order order other then amount else pos 0)
amount_in-held amounts order other amount sum fits is = is ∙ ap (λ (z : ℤ). amount_in amounts other +ℤ (if same_order order other then z else pos 0)) (to_z-of_z w32 amount fits)

-- ---- small sums

pub are_all_small-at : (a b c d w x y z : ℤ) (r : Bool) → r ≡ (is_small a && (is_small b && (is_small c && is_small d))) → a ≡ w → b ≡ x → c ≡ y → d ≡ z → r ≡ (is_small w && (is_small x && (is_small y && is_small z)))
are_all_small-at a b c d w x y z r is p q s t = cc

pub OnTrue-then : {P Q : Type 0} (b : Bool) → OnTrue b P → (P → Q) → OnTrue b Q
OnTrue-then true p f = f p
OnTrue-then false p f = tt

-- the sums are those of the page, and so they are small where the page's are
pub small_sums-are : (rules : PageRules) (page : List Node) (sums : Sums) → AreSums page sums → small_sums rules sums ≡ are_small_totals rules page
small_sums-are rules page sums are =
    cc (are.room, are.hanging, are.right, are.feet_size, are.stretch Finite, are.stretch Fil, are.stretch Fill, are.stretch Filll, are.shrink Finite, are.shrink Fil, are.shrink Fill, are.shrink Filll)

pub int_max-most : (a b m : ℤ) → a ≤ℤ m → b ≤ℤ m → int_max a b ≤ℤ m
int_max-most a b m x y = grind (arith, ints)
