-- Places of breaks, and discardables in a row.
use Rattle.std.proofs.Common.{◌≡◌, ℕ, suc, ◌+◌, ◌-◌, ◌<◌, ◌≤◌, ◌⊎◌, inl, inr, List, [], ◌∷◌, ◌++◌, length, take, drop, set, get_or, Option, None, Some, slice_get, Bool, true, false, if◌then◌else◌, ℤ, pos, refl, sym, ap, ◌∙◌, subst, add-one, arith}
use Rattle.std.proofs.lemmas.Int.{ints}
use Rattle.std.proofs.lemmas.List.{drop_more, drop_all, length-drop, get_or_append_left, get_or-append-add, get_or-set_same, get_or-set_other}
use Rattle.std.proofs.lemmas.Option.{slice_get-get_or}
use Rattle.lb_base.specs.declared.node.Boxed.{Boxed}
use Rattle.lb_base.specs.declared.node.Discretionary.{Discretionary, out-Discretionary}
use Rattle.lb_base.specs.declared.node.HeadMark.{HeadMark}
use Rattle.lb_base.specs.declared.node.HeadMark.TheOpen.{Char, Lig, Kern, Glue, Penalty, Disc, Rule, Boxed as InnerBox, Note, Mark, Ins, Adjust}
use Rattle.lb_base.specs.declared.node.Node as made
use Rattle.lb_base.specs.declared.node.Node.{Node, Node-F, out-Node, roll-Node, roll-out-Node}
use Rattle.lb_base.specs.declared.node.Node.TheVariants.{outs-Disc, rolls-Disc}
use Rattle.lb_model_paper.specs.Breaks.{is_discardable, is_there, parts_at, parts_at_item, parts_in, parts_of, penalty_at, post_in, pre_in, sums_of}
use Rattle.lb_model_paper.specs.Nodes.{shown}
use Rattle.lb_model_paper.specs.declared.paragraph.BreakRules.{BreakRules}
use Rattle.lb_model_paper.specs.declared.paragraph.LineSums.{LineSums}
use Rattle.lb_measure.specs.Amounts.{AreNear, IsNear, nothing}
use Rattle.lb_measure.specs.Measures.{AreLeads, ArePlaces, IsPlace, blank, lead_at, leading, place_at}
use Rattle.lb_measure.specs.declared.places.Place.{Place}
use Rattle.lb_measure.proofs.Sums.{sums_of-nil}
use Rattle.lb_model_paper.proofs.ShownLists.{shown-nil}

-- ---- the discretionary at a break

pub slice_get_is : (nodes : List Node) (k : ℕ) (node : Node) → k < length nodes → node ≡ get_or nodes k node → slice_get nodes k ≡ Some node
slice_get_is nodes k node within is = slice_get-get_or nodes k node within ∙ ap (λ (n : Node). Some n) (sym is)

pub parts_at_is : (nodes : List Node) (k : ℕ) (node : Node) → k < length nodes → node ≡ get_or nodes k node → parts_at nodes (k + 1) ≡ parts_of node
parts_at_is nodes k node within is = ap (parts_at nodes) (add-one k) ∙ ap parts_at_item (slice_get_is nodes k node within is)

pub parts_of-disc : (node : Node) (parts : Discretionary) → node ≡ made.Disc parts → parts_of node ≡ Some parts
unfolding parts_of
parts_of-disc node parts is = ap parts_in (ap out-Node is ∙ outs-Disc parts)

no_parts_in : (node : Node) (layer : Node-F HeadMark Node Boxed Discretionary) → out-Node node ≡ layer → ((parts : Discretionary) → node ≡ made.Disc parts → ⊥) → parts_in layer ≡ None
no_parts_in node (Disc parts) is other = absurd (other parts (sym (roll-out-Node node) ∙ ap roll-Node is ∙ rolls-Disc parts))
no_parts_in node (Char code metrics font) is other = refl
no_parts_in node (Lig ligature) is other = refl
no_parts_in node (Kern width origin) is other = refl
no_parts_in node (Glue glue) is other = refl
no_parts_in node (Penalty penalty) is other = refl
no_parts_in node (Rule size) is other = refl
no_parts_in node (InnerBox box) is other = refl
no_parts_in node (Note note) is other = refl
no_parts_in node (Mark mark) is other = refl
no_parts_in node (Ins footnote) is other = refl
no_parts_in node (Adjust material) is other = refl

pub parts_of-other : (node : Node) → ((parts : Discretionary) → node ≡ made.Disc parts → ⊥) → parts_of node ≡ None
unfolding parts_of
parts_of-other node other = no_parts_in node (out-Node node) refl other

-- ---- places

near-nothing : (n : ℕ) → AreNear n nothing
near-nothing n =
    let none : IsNear n (pos 0) = record { low = omega (arith, ints); high = omega (arith, ints) } in
    record { width = none; finite = none; fil = none; fill = none; filll = none; shrink = none }

pub nothing_is : nothing ≡ sums_of (shown [])
nothing_is = sym (ap sums_of shown-nil ∙ sums_of-nil)

place-start : (rules : BreakRules) (nodes : List Node) → IsPlace rules nodes 0 blank
place-start rules nodes = record {
  sums = nothing_is;
  pre = nothing_is;
  post = nothing_is;
  penalty = refl;
  is_disc = refl;
  near = near-nothing 65536;
  near_pre = near-nothing 65536;
  near_post = near-nothing 65536;
}

-- the break at a node that is no discretionary
pub place-other : (rules : BreakRules) (nodes : List Node) (k : ℕ) (node : Node) (sums : LineSums) (penalty : Option ℤ) → k < length nodes → node ≡ get_or nodes k node
    → ((parts : Discretionary) → node ≡ made.Disc parts → ⊥) → sums ≡ sums_of (shown (take (k + 1) nodes)) → AreNear 65536 sums → penalty ≡ penalty_at rules nodes (k + 1)
    → IsPlace rules nodes (k + 1) (record { sums = sums; pre = nothing; post = nothing; penalty = penalty; is_disc = false })
place-other rules nodes k node sums penalty within is other sums_is near penalty_is =
    let none : parts_at nodes (k + 1) ≡ None = parts_at_is nodes k node within is ∙ parts_of-other node other in
    record {
      sums = sums_is;
      pre = nothing_is ∙ ap (λ (o : Option Discretionary). sums_of (shown (pre_in o))) (sym none);
      post = nothing_is ∙ ap (λ (o : Option Discretionary). sums_of (shown (post_in o))) (sym none);
      penalty = penalty_is;
      is_disc = sym (ap is_there none);
      near = near;
      near_pre = near-nothing 65536;
      near_post = near-nothing 65536;
    }

-- the break at a discretionary
pub record IsDiscPlace (parts : Discretionary) (sums_so_far : LineSums) (penalty_there : Option ℤ) (place : Place) : Type 0 where
  pub sums : place.sums ≡ sums_so_far
  pub pre : place.pre ≡ sums_of (shown (out-Discretionary parts).pre_break)
  pub post : place.post ≡ sums_of (shown (out-Discretionary parts).post_break)
  pub penalty : place.penalty ≡ penalty_there
  pub is_disc : place.is_disc ≡ true
  pub near_pre : AreNear 65536 place.pre
  pub near_post : AreNear 65536 place.post

pub place-disc : (rules : BreakRules) (nodes : List Node) (k : ℕ) (node : Node) (parts : Discretionary) (sums : LineSums) (penalty : Option ℤ) (place : Place) → k < length nodes → node ≡ get_or nodes k node
    → node ≡ made.Disc parts → sums ≡ sums_of (shown (take (k + 1) nodes)) → AreNear 65536 sums → penalty ≡ penalty_at rules nodes (k + 1) → IsDiscPlace parts sums penalty place
    → IsPlace rules nodes (k + 1) place
place-disc rules nodes k node parts sums penalty place within is disc sums_is near penalty_is place_is =
    let some : parts_at nodes (k + 1) ≡ Some parts = parts_at_is nodes k node within is ∙ parts_of-disc node parts disc in
    record {
      sums = place_is.sums ∙ sums_is;
      pre = place_is.pre ∙ ap (λ (o : Option Discretionary). sums_of (shown (pre_in o))) (sym some);
      post = place_is.post ∙ ap (λ (o : Option Discretionary). sums_of (shown (post_in o))) (sym some);
      penalty = place_is.penalty ∙ penalty_is;
      is_disc = place_is.is_disc ∙ sym (ap is_there some);
      near = subst (λ (s : LineSums). AreNear 65536 s) (sym place_is.sums) near;
      near_pre = place_is.near_pre;
      near_post = place_is.near_post;
    }

below_or_last : (j k : ℕ) → j < k + 1 → (j < k) ⊎ (k ≡ j)
below_or_last j k h = grind arith

pub places-start : (rules : BreakRules) (nodes : List Node) (places : List Place) → places ≡ blank ∷ [] → ArePlaces rules nodes places 1
places-start rules nodes places is j h =
    let first : 0 ≡ j = omega arith in
    subst (λ (i : ℕ). IsPlace rules nodes i (place_at places i)) first (subst (λ (ps : List Place). IsPlace rules nodes 0 (place_at ps 0)) (sym is) (place-start rules nodes))

pub places-more : (rules : BreakRules) (nodes : List Node) (places more : List Place) (k : ℕ) (place : Place) → length places ≡ k → more ≡ places ++ place ∷ [] → IsPlace rules nodes k place → ArePlaces rules nodes places k → ArePlaces rules nodes more (k + 1)
places-more rules nodes places more k place long is here below j h =
    let P : List Place → Type 0 = λ ps. IsPlace rules nodes j (place_at ps j) in
    subst P (sym is) (elim (below_or_last j k h) [
      | inl l ↦ let within : j < length places = omega arith in
          subst (IsPlace rules nodes j) (sym (get_or_append_left places (place ∷ []) blank j within)) (below j l)
      | inr e ↦ let at : length places + 0 ≡ j = omega arith in
          let last : place ≡ place_at (places ++ place ∷ []) j = sym (get_or-append-add places (place ∷ []) 0 blank) ∙ ap (place_at (places ++ place ∷ [])) at in
          subst (IsPlace rules nodes j) last (subst (λ (i : ℕ). IsPlace rules nodes i place) e here)
    ])

-- ---- discardables in a row

leading-drop : (nodes : List Node) (k : ℕ) (node : Node) → k < length nodes → node ≡ get_or nodes k node → leading (drop k nodes) ≡ (if is_discardable node then leading (drop (k + 1) nodes) + 1 else 0)
leading-drop nodes k node within is =
    ap leading (drop_more nodes k node within ∙ ap (λ (n : Node). n ∷ drop (k + 1) nodes) (sym is))
    ∙ ap (λ (n : ℕ). if is_discardable node then n else 0) (sym (add-one (leading (drop (k + 1) nodes))))

at_most : (b : Bool) (nodes : List Node) → leading nodes ≤ length nodes → (if b then suc (leading nodes) else 0) ≤ suc (length nodes)
at_most true nodes le = omega arith
at_most false nodes le = omega arith

leading-most : (nodes : List Node) → leading nodes ≤ length nodes
leading-most [] = omega arith
leading-most (node ∷ nodes) = at_most (is_discardable node) nodes (leading-most nodes)

pub leads-start : (nodes : List Node) (leads : List ℕ) → lead_at leads (length nodes) ≡ 0 → AreLeads nodes leads (length nodes)
leads-start nodes leads none i from to =
    let last : length nodes ≡ i = omega arith in
    let end : leading (drop i nodes) ≡ 0 = ap leading (drop_all i nodes from) in
    ap (lead_at leads) (sym last) ∙ none ∙ sym end

is_or_not : (a b : ℕ) → (a ≡ b) ⊎ (a ≡ b → ⊥)
is_or_not a b = grind arith

pub leads-more : (nodes : List Node) (leads : List ℕ) (next value : ℕ) → 0 < next → next ≤ length nodes → length leads ≡ length nodes + 1 → AreLeads nodes leads next
    → value ≡ leading (drop (next - 1) nodes) → AreLeads nodes (set leads (next - 1) value) (next - 1)
leads-more nodes leads next value some within long are value_is i from to =
    elim (is_or_not i (next - 1)) [
      | inl e ↦ let room : next - 1 < length leads = omega arith in
          ap (lead_at (set leads (next - 1) value)) e ∙ get_or-set_same leads (next - 1) value 0 room ∙ value_is ∙ ap (λ (n : ℕ). leading (drop n nodes)) (sym e)
      | inr ne ↦ get_or-set_other leads (next - 1) i value 0 ne ∙ are i (omega arith) to
    ]

-- the row from one item more
pub leading-more : (nodes : List Node) (next row value : ℕ) (node : Node) → 0 < next → next ≤ length nodes → node ≡ get_or nodes (next - 1) node → row ≡ leading (drop next nodes)
    → value ≡ (if is_discardable node then row + 1 else 0) → value ≡ leading (drop (next - 1) nodes)
leading-more nodes next row value node some within is row_is value_is =
    let back : next - 1 + 1 ≡ next = omega arith in
    let inside : next - 1 < length nodes = omega arith in
    value_is ∙ ap (λ (n : ℕ). if is_discardable node then n + 1 else 0) (row_is ∙ ap (λ (n : ℕ). leading (drop n nodes)) (sym back)) ∙ sym (leading-drop nodes (next - 1) node inside is)

pub leading-none : (nodes : List Node) → 0 ≡ leading (drop (length nodes) nodes)
leading-none nodes = let le : length nodes ≤ length nodes = omega arith in sym (ap leading (drop_all (length nodes) nodes le))

pub leading-below : (nodes : List Node) (k : ℕ) → leading (drop k nodes) ≤ length nodes
leading-below nodes k = omega (arith, leading-most (drop k nodes), length-drop k nodes)
