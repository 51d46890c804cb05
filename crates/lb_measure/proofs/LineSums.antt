-- The sums of a line by those up to its ends, and what it adds.
use Rattle.std.proofs.Common.{◌≡◌, ℕ, zero, suc, ◌+◌, ◌-◌, ◌<◌, ◌≤◌, ◌&&◌, ◌||◌, min, List, [], ◌∷◌, ◌++◌, length, take, drop, get_or, Bool, true, false, nat_eq, if◌then◌else◌, Option, None, Some, is_some, slice_get, ℤ, pos, neg_ℤ, int_lt, int_le, ◌+ℤ◌, ◌-ℤ◌, ◌<ℤ◌, refl, sym, ap, ◌∙◌, subst, arith}
use Rattle.std.proofs.lemmas.Int.{ints}
use Rattle.std.proofs.lemmas.List.{append_assoc, get_or_default, take-append-drop, take-take}
use Rattle.std.proofs.Math.Seq.{take-add}
use Rattle.lb_base.specs.declared.node.Boxed.{Boxed}
use Rattle.lb_base.specs.declared.node.Discretionary.{Discretionary}
use Rattle.lb_base.specs.declared.node.HeadMark.{HeadMark}
use Rattle.lb_base.specs.declared.node.HeadMark.TheOpen.{Char, Lig, Kern, Glue, Penalty, Disc, Rule, Boxed as InnerBox, Note, Mark, Ins, Adjust}
use Rattle.lb_base.specs.declared.node.Node.{Node, Node-F, out-Node}
use Rattle.lb_model_paper.specs.Breaks.{Pass, break_penalty, break_penalty_in, disc_penalty, free_where, glue_node, inner_items, is_disc_at, is_discardable, is_explicit, is_forcing, is_overfull_line, is_solid_before, is_some_glue, is_stop, is_there_penalty, items_between, judged_line, line_at, line_from, line_items, paragraph_of, penalty_at, penalty_at_item, post_at, pre_at, sums_of, trimmed, unbarred}
use Rattle.lb_model_paper.specs.Nodes.{shown}
use Rattle.lb_model_paper.specs.declared.paragraph.BreakRules.{BreakRules}
use Rattle.lb_model_paper.specs.declared.paragraph.LineSums.{LineSums}
use Rattle.lb_model_paper.specs.declared.paragraph.Shape.{Shape}
use Rattle.lb_measure.specs.Amounts.{added, less, nothing}
use Rattle.lb_measure.specs.Measures.{IsMeasured, IsPlace, blank, leading, skipped_to}
use Rattle.lb_measure.specs.declared.measured.Measured.{Measured}
use Rattle.lb_measure.specs.declared.places.Place.{Place}
use Rattle.lb_measure.proofs.Measures.{nothing_is}
use Rattle.lb_measure.proofs.Sums.{less-added, shown_sums-append, sums-same, sums_of-append}

-- ---- the list without the discardables at its start

min_none : (k : ℕ) → min 0 k ≡ 0
min_none k = omega arith

min_of_none : (n : ℕ) → min n 0 ≡ 0
min_of_none n = omega arith

min_sucs : (a b : ℕ) → min (suc a) (suc b) ≡ suc (min a b)
min_sucs a b = omega arith

trimmed-turn : (b : Bool) (k : ℕ) (node : Node) (nodes : List Node) → trimmed (take k nodes) ≡ drop (min (leading nodes) k) (take k nodes)
    → (if b then trimmed (take k nodes) else node ∷ take k nodes) ≡ drop (min (if b then suc (leading nodes) else 0) (suc k)) (node ∷ take k nodes)
trimmed-turn true k node nodes rest = rest ∙ sym (ap (λ (n : ℕ). drop n (node ∷ take k nodes)) (min_sucs (leading nodes) k))
trimmed-turn false k node nodes rest = sym (ap (λ (n : ℕ). drop n (node ∷ take k nodes)) (min_none (suc k)))

trimmed-take : (k : ℕ) (nodes : List Node) → trimmed (take k nodes) ≡ drop (min (leading nodes) k) (take k nodes)
trimmed-take zero nodes = sym (ap (λ (n : ℕ). drop n (take zero nodes)) (min_of_none (leading nodes)))
trimmed-take (suc k) [] = sym (ap (λ (n : ℕ). drop n (take (suc k) [])) (min_none (suc k)))
trimmed-take (suc k) (node ∷ nodes) = trimmed-turn (is_discardable node) k node nodes (trimmed-take k nodes)

-- the items up to a break are those that go at the start of a line, and those of the line
split_items : (nodes : List Node) (start k : ℕ) → take (start + k) nodes ≡ take (start + min (leading (drop start nodes)) k) nodes ++ trimmed (take k (drop start nodes))
split_items nodes start k =
    let rest : List Node = drop start nodes in
    let m : ℕ = min (leading rest) k in
    let le : min (leading (drop start nodes)) k ≤ k = omega arith in
    take-add start k nodes
    ∙ ap (λ (zs : List Node). take start nodes ++ zs) (sym (take-append-drop m (take k rest)))
    ∙ sym (append_assoc (take start nodes) (take m (take k rest)) (drop m (take k rest)))
    ∙ ap (λ (zs : List Node). (take start nodes ++ zs) ++ drop m (take k rest)) (take-take m k rest le)
    ∙ ap (λ (zs : List Node). zs ++ drop m (take k rest)) (sym (take-add start m nodes))
    ∙ ap (λ (zs : List Node). take (start + m) nodes ++ zs) (sym (trimmed-take k rest))

minus_none : (z : ℤ) → z -ℤ pos 0 ≡ z
minus_none z = omega (arith, ints)

less-nothing : (a : LineSums) → less a nothing ≡ a
less-nothing a = sums-same (less a nothing) a (minus_none a.width) (minus_none a.finite) (minus_none a.fil) (minus_none a.fill) (minus_none a.filll) (minus_none a.shrink)

between_sums : (nodes : List Node) (i j : ℕ) → i < j → less (sums_of (shown (take (j - 1) nodes))) (sums_of (shown (take (skipped_to nodes i j) nodes))) ≡ sums_of (shown (items_between nodes i j))
between_sums nodes zero j h = ap (λ (s : LineSums). less (sums_of (shown (take (j - 1) nodes))) s) (sym nothing_is) ∙ less-nothing (sums_of (shown (take (j - 1) nodes)))
between_sums nodes (suc i) j h =
    let k : ℕ = j - 1 - suc i in
    let whole : suc i + (j - 1 - suc i) ≡ j - 1 = omega arith in
    let first : List Node = take (skipped_to nodes (suc i) j) nodes in
    let rest : List Node = items_between nodes (suc i) j in
    ap (λ (zs : List Node). less (sums_of (shown zs)) (sums_of (shown first))) (ap (λ (n : ℕ). take n nodes) (sym whole) ∙ split_items nodes (suc i) k)
    ∙ ap (λ (s : LineSums). less s (sums_of (shown first))) (shown_sums-append first rest)
    ∙ less-added (sums_of (shown first)) (sums_of (shown rest))

-- ---- the sums of a line

swap_last : (a b c : ℤ) → (a +ℤ b) +ℤ c ≡ (a +ℤ c) +ℤ b
swap_last a b c = omega (arith, ints)

added-swap : (a b c : LineSums) → added (added a b) c ≡ added (added a c) b
added-swap a b c = sums-same (added (added a b) c) (added (added a c) b) (swap_last a.width b.width c.width) (swap_last a.finite b.finite c.finite) (swap_last a.fil b.fil c.fil) (swap_last a.fill b.fill c.fill) (swap_last a.filll b.filll c.filll) (swap_last a.shrink b.shrink c.shrink)

outer_sums : (left right : Node) (inner : List Node) → sums_of (left ∷ inner ++ right ∷ []) ≡ added (sums_of (left ∷ right ∷ [])) (sums_of inner)
outer_sums left right inner =
    let L : LineSums = sums_of (left ∷ []) in
    let R : LineSums = sums_of (right ∷ []) in
    sums_of-append (left ∷ inner) (right ∷ []) ∙ ap (λ (s : LineSums). added s R) (sums_of-append (left ∷ []) inner) ∙ added-swap L (sums_of inner) R
    ∙ ap (λ (s : LineSums). added s (sums_of inner)) (sym (sums_of-append (left ∷ []) (right ∷ [])))

inner_sums : (nodes : List Node) (i j : ℕ) → sums_of (shown (inner_items nodes i j)) ≡ added (added (sums_of (shown (post_at nodes i))) (sums_of (shown (items_between nodes i j)))) (sums_of (shown (pre_at nodes j)))
inner_sums nodes i j =
    shown_sums-append (post_at nodes i ++ items_between nodes i j) (pre_at nodes j)
    ∙ ap (λ (s : LineSums). added s (sums_of (shown (pre_at nodes j)))) (shown_sums-append (post_at nodes i) (items_between nodes i j))

pub line_sums : (shape : Shape) (nodes : List Node) (i j : ℕ) (ends post before skipped pre : LineSums) → i < j
    → ends ≡ sums_of (glue_node shape.left ∷ glue_node shape.right ∷ []) → post ≡ sums_of (shown (post_at nodes i)) → before ≡ sums_of (shown (take (j - 1) nodes))
    → skipped ≡ sums_of (shown (take (skipped_to nodes i j) nodes)) → pre ≡ sums_of (shown (pre_at nodes j))
    → added ends (added (added post (less before skipped)) pre) ≡ sums_of (line_items shape nodes i j)
line_sums shape nodes i j ends post before skipped pre h ends_is post_is before_is skipped_is pre_is =
    let E : LineSums = sums_of (glue_node shape.left ∷ glue_node shape.right ∷ []) in
    let P : LineSums = sums_of (shown (post_at nodes i)) in
    let B : LineSums = sums_of (shown (take (j - 1) nodes)) in
    ap (λ (s : LineSums). added s (added (added post (less before skipped)) pre)) ends_is
    ∙ ap (λ (s : LineSums). added E (added (added s (less before skipped)) pre)) post_is
    ∙ ap (λ (s : LineSums). added E (added (added P (less s skipped)) pre)) before_is
    ∙ ap (λ (s : LineSums). added E (added (added P (less B s)) pre)) skipped_is
    ∙ ap (λ (s : LineSums). added E (added (added P s) pre)) (between_sums nodes i j h)
    ∙ ap (λ (s : LineSums). added E (added (added P (sums_of (shown (items_between nodes i j)))) s)) pre_is
    ∙ ap (λ (s : LineSums). added E s) (sym (inner_sums nodes i j))
    ∙ sym (outer_sums (glue_node shape.left) (glue_node shape.right) (shown (inner_items nodes i j)))

-- ---- the penalty of a legal break

unbarred_by : (z p : ℤ) (b : Bool) → int_lt z (pos 10000) ≡ b → (if b then Some z else None) ≡ Some p → p <ℤ pos 10000
unbarred_by z p true small e = let same : z ≡ p = cc in let le : z <ℤ pos 10000 = grind (arith, ints) in subst (λ (q : ℤ). q <ℤ pos 10000) same le
unbarred_by z p false small e = absurd (cc)

unbarred_small : (z p : ℤ) → unbarred z ≡ Some p → p <ℤ pos 10000
unbarred_small z p is = unbarred_by z p (int_lt z (pos 10000)) refl is

free_small : (b : Bool) (p : ℤ) → free_where b ≡ Some p → p <ℤ pos 10000
free_small true p is = let same : pos 0 ≡ p = cc in subst (λ (q : ℤ). q <ℤ pos 10000) same (omega (arith, ints))
free_small false p is = absurd (cc)

break_small_in : (rules : BreakRules) (solid glue : Bool) (layer : Node-F HeadMark Node Boxed Discretionary) (p : ℤ) → break_penalty_in rules solid glue layer ≡ Some p → p <ℤ pos 10000
break_small_in rules solid glue (Glue g) p is = free_small solid p is
break_small_in rules solid glue (Kern width origin) p is = free_small (is_explicit origin && glue) p is
break_small_in rules solid glue (Penalty penalty) p is = unbarred_small penalty p is
break_small_in rules solid glue (Disc parts) p is = unbarred_small (disc_penalty rules parts) p is
break_small_in rules solid glue (Char code metrics font) p is = absurd (cc)
break_small_in rules solid glue (Lig ligature) p is = absurd (cc)
break_small_in rules solid glue (Rule size) p is = absurd (cc)
break_small_in rules solid glue (InnerBox box) p is = absurd (cc)
break_small_in rules solid glue (Note note) p is = absurd (cc)
break_small_in rules solid glue (Mark mark) p is = absurd (cc)
break_small_in rules solid glue (Ins footnote) p is = absurd (cc)
break_small_in rules solid glue (Adjust material) p is = absurd (cc)

break_small : (rules : BreakRules) (solid glue : Bool) (node : Node) (p : ℤ) → break_penalty rules solid glue node ≡ Some p → p <ℤ pos 10000
unfolding break_penalty
break_small rules solid glue node p is = break_small_in rules solid glue (out-Node node) p is

small_at_item : (rules : BreakRules) (nodes : List Node) (k : ℕ) (item : Option Node) (p : ℤ) → penalty_at_item rules nodes k item ≡ Some p → p <ℤ pos 10000
small_at_item rules nodes k None p is = absurd (cc)
small_at_item rules nodes k (Some node) p is = break_small rules (is_solid_before nodes k) (is_some_glue (slice_get nodes (k + 1))) node p is

pub penalty_small : (rules : BreakRules) (nodes : List Node) (j : ℕ) (p : ℤ) → penalty_at rules nodes j ≡ Some p → p <ℤ pos 10000
penalty_small rules nodes zero p is = absurd (cc)
penalty_small rules nodes (suc k) p is = small_at_item rules nodes k (slice_get nodes k) p is

-- ---- a paragraph

pub line_of_paragraph : (shape : Shape) (pass : Pass) (nodes : List Node) (k i j : ℕ) → line_from shape pass nodes i j ≡ (paragraph_of shape pass nodes).line k i j
unfolding paragraph_of
line_of_paragraph shape pass nodes k i j = refl

pub stop_of_paragraph : (shape : Shape) (pass : Pass) (nodes : List Node) (k i j : ℕ) → is_stop shape nodes i j ≡ (paragraph_of shape pass nodes).stops k i j
unfolding paragraph_of
stop_of_paragraph shape pass nodes k i j = refl

pub no_break : (shape : Shape) (pass : Pass) (nodes : List Node) (i j : ℕ) → penalty_at shape.rules nodes j ≡ None → None ≡ line_from shape pass nodes i j
unfolding line_from
no_break shape pass nodes i j none = sym (ap (line_at shape pass nodes i j) none)

pub some_break : (shape : Shape) (pass : Pass) (nodes : List Node) (i j : ℕ) (p : ℤ) → penalty_at shape.rules nodes j ≡ Some p
    → judged_line shape pass p (is_disc_at nodes i) (is_disc_at nodes j) (nat_eq j (length nodes)) (sums_of (line_items shape nodes i j)) ≡ line_from shape pass nodes i j
unfolding line_from
some_break shape pass nodes i j p some = sym (ap (line_at shape pass nodes i j) some)

pub no_stop : (shape : Shape) (nodes : List Node) (i j : ℕ) → penalty_at shape.rules nodes j ≡ None → false ≡ is_stop shape nodes i j
unfolding is_stop
no_stop shape nodes i j none = sym (ap (λ (o : Option ℤ). is_there_penalty o && (is_forcing o || is_overfull_line shape (sums_of (line_items shape nodes i j)))) none)

pub some_stop : (shape : Shape) (nodes : List Node) (i j : ℕ) (p : ℤ) → penalty_at shape.rules nodes j ≡ Some p
    → (int_le p (neg_ℤ (pos 10000)) || is_overfull_line shape (sums_of (line_items shape nodes i j))) ≡ is_stop shape nodes i j
unfolding is_stop
some_stop shape nodes i j p some = sym (ap (λ (o : Option ℤ). is_there_penalty o && (is_forcing o || is_overfull_line shape (sums_of (line_items shape nodes i j)))) some)

-- ---- places of a measured paragraph

pub place_here : (m : Measured) (k : ℕ) (place : Place) → IsMeasured m → k ≤ length m.list.now → place ≡ get_or m.places.items k place → IsPlace m.shape.rules m.list.now k place
place_here m k place measured within is =
    let inside : k < length m.places.items = omega (arith, measured.long) in
    let below : k < length m.list.now + 1 = omega arith in
    subst (λ (p : Place). IsPlace m.shape.rules m.list.now k p) (get_or_default m.places.items k blank place inside ∙ sym is) (measured.places k below)

-- where no penalty is there, there is none
pub none_there : (o : Option ℤ) → is_there_penalty o ≡ false → o ≡ None
none_there None is = refl
none_there (Some p) is = absurd (cc)

-- the same test as the code has it
pub there_is : (o : Option ℤ) → is_some o ≡ false → o ≡ None
there_is None is = refl
there_is (Some p) is = absurd (cc)
