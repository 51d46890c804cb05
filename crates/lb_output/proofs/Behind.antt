-- Sums of lengths, one behind the other.
use Rattle.std.proofs.Common.{◌≡◌, ◌∙◌, ◌+◌, ◌<◌, length, take, drop, get_or, ap, sym, refl, Bool, true, false, ◌&&◌, List, [], ◌∷◌, ◌++◌, map, Option, ℕ, zero, suc, ℤ, pos, ◌+ℤ◌, arith}
use Rattle.std.proofs.lemmas.Int.{ints}
use Rattle.std.proofs.lemmas.List.Sums.{fold_more}
use Rattle.std.specs.List.{fold}
use Rattle.std.specs.Option.{is_some}
use Rattle.lb_base.specs.declared.node.Node.{Node}
use Rattle.lb_model_paper.specs.declared.pages.PageLengths.{PageLengths}
use Rattle.lb_model_paper.specs.Dvi.{is_small}
use Rattle.lb_model_paper.specs.Nodes.{total}
use Rattle.lb_model_paper.specs.Pages.{foot_size}
use Rattle.lb_model_paper.specs.PageBoxes.{are_small_behind, are_small_heights, feet_lengths, page_height}
use Rattle.lb_output.specs.Heights.{above, feet_room, lengths_above}

pub small-at : (r : Option ℤ) (s l a b : ℤ) → is_some r ≡ is_small (s +ℤ l) → s ≡ a → l ≡ b → is_some r ≡ is_small (a +ℤ b)
small-at r s l a b is p q = is ∙ ap (λ (z : ℤ). is_small (z +ℤ l)) p ∙ ap (λ (z : ℤ). is_small (a +ℤ z)) q

and_true : (b : Bool) → (b && true) ≡ b
and_true true = refl
and_true false = refl

and_assoc : (a b c : Bool) → ((a && b) && c) ≡ (a && (b && c))
and_assoc true b c = refl
and_assoc false b c = refl

pub three : (r a b c : Bool) → a ≡ true → b ≡ true → r ≡ c → r ≡ (a && (b && (c && true)))
three r a b c p q is = is ∙ sym (and_true c) ∙ ap (λ (x : Bool). x && (c && true)) (sym q) ∙ ap (λ (x : Bool). x && (b && (c && true))) (sym p)

-- the sum behind some lengths
abbrev behind : ℤ → List ℤ → ℤ
behind sum [] = sum
behind sum (length ∷ lengths) = behind (sum +ℤ length) lengths

behind-append : (sum : ℤ) (xs : List ℤ) (y : ℤ) → are_small_behind sum (xs ++ y ∷ []) ≡ (are_small_behind sum xs && is_small (behind sum xs +ℤ y))
behind-append sum [] y = and_true (is_small (sum +ℤ y))
behind-append sum (x ∷ xs) y = ap (λ (b : Bool). is_small (sum +ℤ x) && b) (behind-append (sum +ℤ x) xs y) ∙ sym (and_assoc (is_small (sum +ℤ x)) (are_small_behind (sum +ℤ x) xs) (is_small (behind (sum +ℤ x) xs +ℤ y)))

total_from : (a b : ℤ) (nodes : List Node) → fold (λ (z : ℤ) (n : Node). z +ℤ foot_size n) (a +ℤ b) nodes ≡ a +ℤ fold (λ (z : ℤ) (n : Node). z +ℤ foot_size n) b nodes
total_from a b [] = refl
total_from a b (node ∷ nodes) =
    let e : (a +ℤ b) +ℤ foot_size node ≡ a +ℤ (b +ℤ foot_size node) = omega (arith, ints) in
    ap (λ (z : ℤ). fold (λ (s : ℤ) (n : Node). s +ℤ foot_size n) z nodes) e ∙ total_from a (b +ℤ foot_size node) nodes

behind_feet : (sum : ℤ) (nodes : List Node) → behind sum (map foot_size nodes) ≡ fold (λ (z : ℤ) (n : Node). z +ℤ foot_size n) sum nodes
behind_feet sum [] = refl
behind_feet sum (node ∷ nodes) = behind_feet (sum +ℤ foot_size node) nodes

behind_room : (sum : ℤ) (feet : List Node) → behind sum (feet_lengths feet) ≡ sum +ℤ feet_room feet
behind_room sum [] = omega (arith, ints)
behind_room sum (first ∷ rest) =
    let e : sum +ℤ pos 589824 ≡ (sum +ℤ pos 589824) +ℤ pos 0 = omega (arith, ints) in
    let t = total foot_size (first ∷ rest) in
    let f : (sum +ℤ pos 589824) +ℤ t ≡ sum +ℤ (pos 589824 +ℤ t) = omega (arith, ints) in
    behind_feet (sum +ℤ pos 589824) (first ∷ rest) ∙ ap (λ (z : ℤ). fold (λ (s : ℤ) (n : Node). s +ℤ foot_size n) z (first ∷ rest)) e ∙ total_from (sum +ℤ pos 589824) (pos 0) (first ∷ rest) ∙ f

regroup : (a b c d e f : Bool) → ((a && (b && (c && (d && (e && f))))) ≡ ((a && (b && (c && true))) && (d && (e && f))))
regroup true true true d e f = refl
regroup true true false d e f = refl
regroup true false c d e f = refl
regroup false b c d e f = refl

last_two : (a b c d e : Bool) → ((a && (b && (c && d))) && e) ≡ (a && (b && (c && (d && e))))
last_two true true true d e = refl
last_two true true false d e = refl
last_two true false c d e = refl
last_two false b c d e = refl

-- the tests in the order in which they are made
pub heights-small : (lengths : PageLengths) (goal : ℤ) (feet : List Node) → are_small_heights lengths goal feet ≡ (are_small_behind (pos 0) (lengths_above lengths) && (is_small (above lengths +ℤ goal) && (are_small_behind (above lengths +ℤ goal) (feet_lengths feet) && (is_small (((above lengths +ℤ goal) +ℤ feet_room feet) +ℤ lengths.footskip) && is_small (page_height lengths)))))
unfolding are_small_heights
heights-small lengths goal feet =
    let body = above lengths +ℤ goal in
    let first = is_small (pos 0 +ℤ lengths.topmargin) in
    let second = is_small ((pos 0 +ℤ lengths.topmargin) +ℤ lengths.headheight) in
    let third = is_small (above lengths) in
    let page = is_small (page_height lengths) in
    ap (λ (b : Bool). (first && (second && (third && (is_small body && b)))) && page) (behind-append body (feet_lengths feet) lengths.footskip ∙ ap (λ (z : ℤ). are_small_behind body (feet_lengths feet) && is_small (z +ℤ lengths.footskip)) (behind_room body feet))
    ∙ ap (λ (b : Bool). b && page) (regroup first second third (is_small body) (are_small_behind body (feet_lengths feet)) (is_small ((body +ℤ feet_room feet) +ℤ lengths.footskip)))
    ∙ last_two (first && (second && (third && true))) (is_small body) (are_small_behind body (feet_lengths feet)) (is_small ((body +ℤ feet_room feet) +ℤ lengths.footskip)) page

-- the first that fails, or all pass
pub fails_1 : (a b c d e : Bool) → a ≡ false → false ≡ (a && (b && (c && (d && e))))
fails_1 a b c d e p = ap (λ (x : Bool). x && (b && (c && (d && e)))) (sym p)

pub fails_2 : (a b c d e : Bool) → a ≡ true → b ≡ false → false ≡ (a && (b && (c && (d && e))))
fails_2 a b c d e p q = ap (λ (x : Bool). x && (c && (d && e))) (sym q) ∙ ap (λ (x : Bool). x && (b && (c && (d && e)))) (sym p)

pub fails_3 : (a b c d e : Bool) → a ≡ true → b ≡ true → c ≡ false → false ≡ (a && (b && (c && (d && e))))
fails_3 a b c d e p q r = ap (λ (x : Bool). x && (d && e)) (sym r) ∙ ap (λ (x : Bool). x && (c && (d && e))) (sym q) ∙ ap (λ (x : Bool). x && (b && (c && (d && e)))) (sym p)

pub fails_4 : (a b c d e : Bool) → a ≡ true → b ≡ true → c ≡ true → d ≡ false → false ≡ (a && (b && (c && (d && e))))
fails_4 a b c d e p q r s = ap (λ (x : Bool). x && e) (sym s) ∙ ap (λ (x : Bool). x && (d && e)) (sym r) ∙ ap (λ (x : Bool). x && (c && (d && e))) (sym q) ∙ ap (λ (x : Bool). x && (b && (c && (d && e)))) (sym p)

pub last_is : (a b c d e r : Bool) → a ≡ true → b ≡ true → c ≡ true → d ≡ true → r ≡ e → r ≡ (a && (b && (c && (d && e))))
last_is a b c d e r p q s t is = is ∙ ap (λ (x : Bool). x && e) (sym t) ∙ ap (λ (x : Bool). x && (d && e)) (sym s) ∙ ap (λ (x : Bool). x && (c && (d && e))) (sym q) ∙ ap (λ (x : Bool). x && (b && (c && (d && e)))) (sym p)

-- one footnote more
pub total-more : (nodes : List Node) (k : ℕ) (node : Node) → k < length nodes → node ≡ get_or nodes k node → total foot_size (take (k + 1) nodes) ≡ total foot_size (take k nodes) +ℤ foot_size node
total-more nodes k node within is = fold_more (λ (z : ℤ) (n : Node). z +ℤ foot_size n) (pos 0) nodes k node within ∙ ap (λ (n : Node). total foot_size (take k nodes) +ℤ foot_size n) (sym is)

pub behind-more : (sum : ℤ) (nodes : List Node) (k : ℕ) (node : Node) → k < length nodes → node ≡ get_or nodes k node → is_small (sum +ℤ foot_size node) ≡ true → are_small_behind sum (map foot_size (drop k nodes)) ≡ are_small_behind (sum +ℤ foot_size node) (map foot_size (drop (k + 1) nodes))
behind-more sum [] k node within is small = absurd (omega arith)
behind-more sum (x ∷ xs) zero node within is small =
    let e : x ≡ node = sym is in
    ap (λ (n : Node). is_small (sum +ℤ foot_size n) && are_small_behind (sum +ℤ foot_size n) (map foot_size xs)) e ∙ ap (λ (b : Bool). b && are_small_behind (sum +ℤ foot_size node) (map foot_size xs)) small
behind-more sum (x ∷ xs) (suc k) node within is small =
    let next : suc k + 1 ≡ suc (k + 1) = omega arith in
    behind-more sum xs k node (omega arith) is small ∙ ap (λ (n : ℕ). are_small_behind (sum +ℤ foot_size node) (map foot_size (drop n (x ∷ xs)))) (sym next)
