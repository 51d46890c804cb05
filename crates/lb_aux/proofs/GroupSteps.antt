-- A byte of groups.
use Rattle.std.proofs.Common.{◌≡◌, ◌∙◌, ◌++◌, ◌+◌, ◌<◌, ◌≤◌, ◌∷◌, [], Bool, true, false, ℕ, zero, suc, List, Option, Some, None, refl, ap, sym, take, drop, length, get_or, arith, append_assoc, append-nil}
use Rattle.std.specs.Prelude.{◌==◌, ◌&&◌, nat_eq, if◌then◌else◌}
use Rattle.std.proofs.lemmas.Bool.{eqb-true}
use Rattle.std.proofs.lemmas.List.{drop_more, drop_all, take_more}
use Rattle.lb_model_aux.specs.Groups.{are_groups, behind_byte, ends_or, one_less, to_close, turned}
use Rattle.lb_model_aux.proofs.GroupReading.{prefixed}

-- what is cut off behind one byte more
pub close-more : (text : List ℕ) (at level : ℕ) (behind next : Bool) (after : ℕ) → at < length text
    → to_close false 1 text ≡ prefixed (take at text) (to_close behind level (drop at text)) → (next, after) ≡ turned behind level (get_or text at 0) → 0 < after
    → to_close false 1 text ≡ prefixed (take (at + 1) text) (to_close next after (drop (at + 1) text))
unfolding to_close
close-more text at level behind next zero h same t s = absurd (omega arith)
close-more text at level behind next (suc after) h same t s =
    let c = get_or text at 0 in
    let rest = drop (at + 1) text in
    same
    ∙ ap (λ l. prefixed (take at text) (to_close behind level l)) (drop_more text at 0 h)
    ∙ ap (λ (n : Bool × ℕ). prefixed (take at text) (ends_or c n.1 rest (to_close n.0 n.1 rest))) (sym t)
    ∙ push (take at text) c (to_close next (suc after) rest)
    ∙ ap (λ l. prefixed l (to_close next (suc after) rest)) (sym (take_more text at 0 h))
  where
    push : (x : List ℕ) (c : ℕ) (o : Option (List ℕ × List ℕ)) → prefixed x (behind_byte c o) ≡ prefixed (x ++ c ∷ []) o
    push x c None = refl
    push x c (Some p) = ap (λ (l : List ℕ). Some (l, p.1)) (sym (append_assoc x (c ∷ []) p.0))

-- and where that byte closes
pub close-here : (text : List ℕ) (at level : ℕ) (behind next : Bool) → at < length text
    → to_close false 1 text ≡ prefixed (take at text) (to_close behind level (drop at text)) → (next, 0) ≡ turned behind level (get_or text at 0)
    → to_close false 1 text ≡ Some (take at text, drop (at + 1) text)
unfolding to_close
close-here text at level behind next h same t =
    let c = get_or text at 0 in
    let rest = drop (at + 1) text in
    same
    ∙ ap (λ l. prefixed (take at text) (to_close behind level l)) (drop_more text at 0 h)
    ∙ ap (λ (n : Bool × ℕ). prefixed (take at text) (ends_or c n.1 rest (to_close n.0 n.1 rest))) (sym t)
    ∙ ap (λ (l : List ℕ). Some (l, rest)) (append-nil (take at text))

pub close-none : (text : List ℕ) (at level : ℕ) (behind : Bool) → length text ≤ at
    → to_close false 1 text ≡ prefixed (take at text) (to_close behind level (drop at text)) → to_close false 1 text ≡ None
unfolding to_close
close-none text at level behind h same = same ∙ ap (λ l. prefixed (take at text) (to_close behind level l)) (drop_all at text h)

-- groups: outside of all of them, and inside of one
pub groups-outside : (text : List ℕ) (at level : ℕ) (behind : Bool) → at < length text → level ≡ 0
    → are_groups behind level (drop at text) ≡ (get_or text at 0 == 123 && are_groups behind 1 (drop (at + 1) text))
unfolding are_groups
groups-outside text at level behind h e = ap (λ n. are_groups behind n (drop at text)) e ∙ ap (are_groups behind 0) (drop_more text at 0 h)

pub groups-inside : (text : List ℕ) (at level : ℕ) (behind next : Bool) (after : ℕ) → at < length text → 0 < level → (next, after) ≡ turned behind level (get_or text at 0)
    → are_groups behind level (drop at text) ≡ are_groups next after (drop (at + 1) text)
unfolding are_groups
groups-inside text at zero behind next after h s t = absurd (omega arith)
groups-inside text at (suc level) behind next after h s t =
    ap (are_groups behind (suc level)) (drop_more text at 0 h) ∙ ap (λ (n : Bool × ℕ). are_groups n.0 n.1 (drop (at + 1) text)) (sym t)

not-none : (n : ℕ) → nat_eq (suc n) 0 ≡ false
not-none n = by (nat_eq (suc n) 0) refl where
  by : (b : Bool) → nat_eq (suc n) 0 ≡ b → b ≡ false
  by false e = refl
  by true e = let q : suc n ≡ 0 = eqb-true (suc n) 0 e in absurd (omega (arith, q))

pub groups-end : (text : List ℕ) (at level : ℕ) (behind : Bool) → length text ≤ at → are_groups behind level (drop at text) ≡ nat_eq level 0
unfolding are_groups
groups-end text at zero behind h = ap (are_groups behind 0) (drop_all at text h)
groups-end text at (suc level) behind h = ap (are_groups behind (suc level)) (drop_all at text h) ∙ sym (not-none level)

pub other-byte : (c : ℕ) (b : Bool) → (c ≡ 123 → ⊥) → (c == 123 && b) ≡ false
other-byte c b n = by (c == 123) refl where
  by : (a : Bool) → (c == 123) ≡ a → (a && b) ≡ false
  by false e = refl
  by true e = absurd (n (eqb-true c 123 e))

pub same-byte : (c : ℕ) (b : Bool) → c ≡ 123 → (c == 123 && b) ≡ b
same-byte c b e = ap (λ (x : ℕ). x == 123 && b) e

-- a byte opens one group at most
less-most : (level : ℕ) → one_less level ≤ level + 1
less-most zero = omega arith
less-most (suc level) = omega arith

abbrev chosen : Bool → Bool → Bool → ℕ → Bool × ℕ
chosen a b d level = if a then (true, level) else (if b then (false, suc level) else (if d then (false, one_less level) else (false, level)))

chosen-most : (a b d : Bool) (level : ℕ) → (chosen a b d level).1 ≤ level + 1
chosen-most true b d level = omega arith
chosen-most false true d level = omega arith
chosen-most false false true level = less-most level
chosen-most false false false level = omega arith

pub turned-most : (behind : Bool) (level c : ℕ) → (turned behind level c).1 ≤ level + 1
turned-most true level c = omega arith
turned-most false level c = chosen-most (c == 92) (c == 123) (c == 125) level
