-- The parts of the rule, one view at a time.
use Rattle.std.proofs.Common.{◌≡◌, ℕ, ◌+◌, ◌*◌, ◌<◌, ◌≤◌, ◌≢◌, Bool, true, false, cond, List, length, set, get_or, sym, refl, ◌∙◌, subst, ⊎_elim, arith, get_or-set_same, get_or-set_other}
use Rattle.std.specs.Prelude.{Some, ◌||◌}
use mathlib.Core.Option.{some}
use lib.ListN.{get_elem?}
use Rattle.atomic_table.proofs.Lists.{at_set}
use Rattle.lb_board.specs.declared.view.View.{View}
use Rattle.lb_board.specs.Rules.{ViewRules, mark_in}
use Rattle.lb_board.specs.Totals.{bit}

-- what holds of each place after a write at one
pub put : {A : Type 0} (views : List A) (id : ℕ) (w : A) (F : ℕ → A → Type 0) → F id w → ((j : ℕ) (u : A) → j ≢ id → get_elem? views j ≡ some u → F j u)
    → (j : ℕ) (u : A) → get_elem? (set views id w) j ≡ some u → F j u
put views id w F mine others j u e = ⊎_elim
    (λ (t : (j ≡ id) × (w ≡ u)). subst (λ (y : ℕ). F y u) (sym t.0) (subst (F id) t.1 mine))
    (λ (t : (j ≢ id) × (get_elem? views j ≡ some u)). others j u t.0 t.1)
    (at_set views id j w u e)

pub flat : (b : Bool) (z : ℕ) → z ≡ 0 → cond b 0 z ≡ 0
flat true z e = refl
flat false z e = e

pub either_bit : (a b : Bool) → bit (a || b) ≤ bit a + bit b
either_bit true true = omega arith
either_bit true false = omega arith
either_bit false true = omega arith
either_bit false false = omega arith

pub bit_either : (a b : Bool) → bit a + bit b ≤ 2 * bit (a || b)
bit_either true true = omega arith
bit_either true false = omega arith
bit_either false true = omega arith
bit_either false false = omega arith

pub either_true : (a b : Bool) (F : Type 0) → (a ≡ true → F) → (b ≡ true → F) → (a || b) ≡ true → F
either_true true b F f g e = f refl
either_true false b F f g e = g e

pub going_join : (a b c d : Bool) (x y : ℕ) → cond (a || b) 0 (cond (c || d) 0 (x + y)) ≤ cond a 0 (cond c 0 x) + cond b 0 (cond d 0 y)
going_join true b c d x y = omega arith
going_join false true c d x y = omega arith
going_join false false true d x y = omega arith
going_join false false false true x y = omega arith
going_join false false false false x y = omega arith

pub going_split : (a c : Bool) (x y z : ℕ) → x + y ≡ z → cond a 0 (cond c 0 x) + cond a 0 (cond c 0 y) ≡ cond a 0 (cond c 0 z)
going_split true c x y z e = refl
going_split false true x y z e = refl
going_split false false x y z e = e

module _ {P : Type 0} (plan : P) (n : ℕ) where
  -- a view that no step touched
  pub stays : (d d' : ℕ) (mark mark' : ℕ → ℕ) (u : View P) → ViewRules plan n d mark u → d ≤ d'
      → ((c : ℕ) → u.held ≡ Some c → mark' c ≡ mark c) → ((c : ℕ) → u.taking ≡ Some c → mark' c ≡ mark c) → ((c : ℕ) → c < n → mark c ≤ mark' c) → ((c : ℕ) → c < n → mark c ≡ 3 → mark' c ≡ 3)
      → ViewRules plan n d' mark' u
  stays d d' mark mark' u s up held taking above last = record {
    planned = s.planned;
    below = λ c h. let b = s.below c h in (omega arith, b.1);
    holds = λ c e. let h = s.holds c e in (h.0, held c e ∙ h.1);
    takes = λ c e. let h = s.takes c e in (taking c e ∙ h.0, h.1);
    spent = s.spent;
    ended = λ e. let h = s.ended e in (omega arith, h.1);
    marked = λ c h apart. omega (arith, above c (s.below c h).1, s.marked c h apart);
    had = λ c h. let b = s.had c h in let a = above c b.1 in (omega arith, b.1);
    done = λ c h free. last c (s.had c h).1 (s.done c h free);
  }

-- one view at most is taking a chapter
abbrev pub Apart : {P : Type 0} → List (View P) → Type 0
Apart {P} views = (i j : ℕ) (v w : View P) (c : ℕ) → get_elem? views i ≡ some v → get_elem? views j ≡ some w → v.taking ≡ Some c → w.taking ≡ Some c → i ≡ j

pub takers : {P : Type 0} (views : List (View P)) (id : ℕ) (w : View P) → Apart views → ((c : ℕ) → w.taking ≡ Some c → (j : ℕ) (u : View P) → j ≢ id → get_elem? views j ≡ some u → u.taking ≢ Some c)
    → Apart (set views id w)
takers {P} views id w apart free i j a b c at bt ta tb =
    put views id w (λ i' a'. a'.taking ≡ Some c → i' ≡ j)
    (λ ta'. sym (put views id w (λ j' b'. b'.taking ≡ Some c → j' ≡ id) (λ tb'. refl) (λ j' b' ne e tb'. absurd (free c ta' j' b' ne e tb')) j b bt tb))
    (λ i' a' ne e ta'. sym (put views id w (λ j' b'. b'.taking ≡ Some c → j' ≡ i') (λ tb'. absurd (free c tb' i' a' ne e ta')) (λ j' b' ne' e' tb'. apart j' i' b' a' c e' e tb' ta') j b bt tb))
    i a at ta

-- the same where the new view takes nothing that the old one did not
pub takers_same : {P : Type 0} (views : List (View P)) (id : ℕ) (v w : View P) → get_elem? views id ≡ some v → Apart views → ((c : ℕ) → w.taking ≡ Some c → v.taking ≡ Some c) → Apart (set views id w)
takers_same views id v w at apart sub = takers views id w apart (λ c e j u ne d t. ne (apart j id u v c d at t (sub c e)))

-- the words after a write
pub marks_after_low : (ws : List ℕ) (i x : ℕ) → i < 2 → (c : ℕ) → mark_in (set ws i x) c ≡ mark_in ws c
marks_after_low ws i x low c = get_or-set_other ws i (c + 2) x 0 (λ e. omega arith)

pub mark_here : (ws : List ℕ) (c x n : ℕ) → length ws ≡ n + 2 → c < n → mark_in (set ws (c + 2) x) c ≡ x
mark_here ws c x n wide low = get_or-set_same ws (c + 2) x 0 (omega arith)

pub mark_else : (ws : List ℕ) (c d x : ℕ) → d ≢ c → mark_in (set ws (c + 2) x) d ≡ mark_in ws d
mark_else ws c d x ne = get_or-set_other ws (c + 2) (d + 2) x 0 (λ e. ne (omega arith))

pub low_word : (ws : List ℕ) (c i x : ℕ) → i < 2 → get_or (set ws (c + 2) x) i 0 ≡ get_or ws i 0
low_word ws c i x low = get_or-set_other ws (c + 2) i x 0 (λ e. omega arith)
