-- How a board starts, how seats are cut and joined, and what is learned after a join.
use Rattle.std.proofs.Common.{◌≡◌, ℕ, zero, suc, ◌+◌, ◌-◌, ◌/◌, ◌<◌, ◌≤◌, ◌≢◌, Bool, true, false, List, [], ◌∷◌, ◌++◌, map, length, set, get_or, replicate, sym, refl, ap, ◌∙◌, subst, ⊎_elim, arith}
use Rattle.std.specs.Prelude.{Option, Some, None}
use mathlib.Core.Option.{some, none, some-injective, some-ne-none}
use lib.ListN.{get_elem?, length-replicate}
use lib.Seq.{set-get_or}
use Rattle.atomic_table.specs.Table.{State, Me, step, keeps, Allows, Splits, Joins, opening}
use Rattle.atomic_table.proofs.Lists.{at_snoc, set_else, set_again}
use Rattle.lb_board.specs.declared.view.View.{View}
use Rattle.lb_board.specs.Rules.{Rules, ViewRules, mark_in}
use Rattle.lb_board.specs.Steps.{learned}
use Rattle.lb_board.specs.Totals.{bit, same, total}
use Rattle.lb_board.specs.Views.{allowed, both, calls, drawings, first_view, going, left_half, right_half, spent_view, takings}
use Rattle.lb_board.proofs.Sums.{total-append, total-set, term_le, terms_le, total_only}
use Rattle.lb_board.proofs.Parts.{put, bit_either, either_bit, either_true, going_join, going_split, Apart, takers_same}

blank : {A : Type 0} (n i : ℕ) (a : A) → i < n → get_elem? (map some (replicate n a)) i ≡ some (some a)
blank zero i a near = absurd (omega arith)
blank (suc n) zero a near = refl
blank (suc n) (suc i) a near = blank n i a (omega arith)

zeros : (k i z : ℕ) → get_or (replicate k z) i z ≡ z
zeros zero i z = refl
zeros (suc k) zero z = refl
zeros (suc k) (suc i) z = zeros k i z

by_parts : (a b : ℕ) (F : Type 0) → 0 < a + b → (0 < a → F) → (0 < b → F) → F
by_parts zero b F h f g = g (omega arith)
by_parts (suc a) b F h f g = f (omega arith)

lone : {A : Type 0} (a b : A) (i : ℕ) → get_elem? (a ∷ []) i ≡ some b → a ≡ b
lone a b zero e = some-injective a b e
lone a b (suc i) e = absurd (some-ne-none b (sym e))

one_place : {A : Type 0} (a b : A) (i : ℕ) → get_elem? (a ∷ []) i ≡ some b → i ≡ 0
one_place a b zero e = refl
one_place a b (suc i) e = absurd (some-ne-none b (sym e))

some_bit : (b : Bool) → 0 < bit b → b ≡ true
some_bit true h = refl
some_bit false h = absurd (omega arith)

-- what holds of each place after a write at one, with one more at the end
put_snoc : {A : Type 0} (views : List A) (id : ℕ) (w x : A) (F : ℕ → A → Type 0) → F id w → ((j : ℕ) → F j x) → ((j : ℕ) (u : A) → j ≢ id → get_elem? views j ≡ some u → F j u)
    → (j : ℕ) (u : A) → get_elem? (set views id w ++ x ∷ []) j ≡ some u → F j u
put_snoc views id w x F mine new others j u e = ⊎_elim (λ t. put views id w F mine others j u t) (λ (t : x ≡ u). subst (F j) t (new j)) (at_snoc (set views id w) x u j e)

takers_snoc : {P : Type 0} (views : List (View P)) (x : View P) → Apart views → x.taking ≡ None → Apart (views ++ x ∷ [])
takers_snoc views x apart free i j a b c at bt ta tb = ⊎_elim
    (λ at'. ⊎_elim (λ bt'. apart i j a b c at' bt' ta tb) (λ (t : x ≡ b). let bad : None ≡ Some c = sym free ∙ ap (λ u. u.taking) t ∙ tb in absurd (cc)) (at_snoc views x b j bt))
    (λ (t : x ≡ a). let bad : None ≡ Some c = sym free ∙ ap (λ u. u.taking) t ∙ ta in absurd (cc))
    (at_snoc views x a i at)

module _ {T P : Type 0} (fits : P → ℕ → T → Type 0) (plan : P) (n : ℕ) where
  abbrev St : Type 0
  St = State (Option T) (View P)

  abbrev H : St → Type 0
  H = Rules fits plan n

  pub opens : (ws : List ℕ) → ws ≡ replicate (n + 2) 0 → H (opening ws (replicate n None) (first_view plan))
  opens ws is =
      let nil : (i : ℕ) → get_or ws i 0 ≡ 0 = λ i. ap (λ l. get_or l i 0) is ∙ zeros (n + 2) i 0 in
      let first : View P = first_view plan in
      let fact : ViewRules plan n (get_or ws 0 0) (mark_in ws) first = record {
        planned = refl;
        below = λ c h. absurd (omega arith);
        holds = λ c e. absurd (cc);
        takes = λ c e. absurd (cc);
        spent = λ e. absurd (omega arith);
        ended = λ e. absurd (cc);
        marked = λ c h apart. absurd (omega arith);
        had = λ c h. absurd (omega arith);
        done = λ c h free. absurd (omega arith);
      } in record {
        wide = ap length is ∙ length-replicate (n + 2) 0;
        each = λ i v e. subst (λ u. ViewRules plan n (get_or ws 0 0) (mark_in ws) u) (lone first v i e) fact;
        once = λ c. omega arith;
        within = let z = nil 0 in omega arith;
        halt_bit = omega (arith, nil 1);
        halt_called = λ e. absurd (omega (arith, nil 1));
        halt_set = λ e. absurd (omega arith);
        halted_called = λ i v e h. let bad : false ≡ true = ap (λ u. u.halted) (lone first v i e) ∙ h in absurd (cc);
        fresh = λ c up low. (nil (c + 2), blank n c None low);
        ready = λ c low e. absurd (omega (arith, nil (c + 2)));
        one_taker = λ i j v w c e d tv tw. one_place first v i e ∙ sym (one_place first w j d);
        allowances = refl;
        drawn = λ c up low. absurd (omega (arith, nil 0));
        taken = λ c low h. absurd (omega (arith, nil (c + 2)));
        taken_once = λ c. omega arith;
      }

  pub splits : (id : ℕ) (v : View P) → 2 ≤ v.allowance → Splits H id v (left_half v) (right_half v)
  splits id v room s r at =
      let w : View P = left_half v in let x : View P = right_half v in let vs : List (View P) = set s.views id w in
      let d : ℕ = get_or s.words 0 0 in let m = r.each id v at in
      let ends = total-append calls vs (x ∷ []) in let calls_now = total-set calls s.views id v w at in
      record {
        wide = r.wide;
        each = put_snoc s.views id w x (λ j u. ViewRules plan n d (mark_in s.words) u)
            (record { planned = m.planned; below = m.below; holds = m.holds; takes = m.takes; spent = λ e. absurd (omega arith); ended = m.ended; marked = m.marked; had = m.had; done = m.done })
            (λ j. record {
              planned = m.planned;
              below = λ c h. absurd (omega arith);
              holds = λ c e. absurd (cc);
              takes = λ c e. absurd (cc);
              spent = λ e. absurd (omega arith);
              ended = λ e. ((m.ended e).0, refl);
              marked = λ c h apart. absurd (omega arith);
              had = λ c h. absurd (omega arith);
              done = λ c h free. absurd (omega arith);
            })
            (λ j u ne e. r.each j u e);
        once = λ c. omega (arith, total-append (drawings c) vs (x ∷ []), total-set (drawings c) s.views id v w at, r.once c);
        within = let b = r.within in let k = total-append going vs (x ∷ []) in let y = total-set going s.views id v w at in
            let z = going_split v.no_more v.halted (v.allowance - v.allowance / 2) (v.allowance / 2) v.allowance (omega arith) in omega arith;
        halt_bit = r.halt_bit;
        halt_called = λ e. let b = r.halt_called e in omega arith;
        halt_set = λ e. r.halt_set (omega arith);
        halted_called = put_snoc s.views id w x (λ j u. u.halted ≡ true → 0 < total calls (vs ++ x ∷ [])) (λ e. let b = r.halted_called id v at e in omega arith) (λ j e. let b = r.halted_called id v at e in omega arith)
            (λ j u ne q e. let b = r.halted_called j u q e in omega arith);
        fresh = r.fresh;
        ready = r.ready;
        one_taker = takers_snoc vs x (takers_same s.views id v w at r.one_taker (λ c e. e)) refl;
        allowances = let b = r.allowances in let k = total-append allowed vs (x ∷ []) in let y = total-set allowed s.views id v w at in omega arith;
        drawn = λ c up low. let b = r.drawn c up low in omega (arith, total-append (drawings c) vs (x ∷ []), total-set (drawings c) s.views id v w at);
        taken = λ c low h. let b = r.taken c low h in omega (arith, total-append (takings c) vs (x ∷ []), total-set (takings c) s.views id v w at);
        taken_once = λ c. omega (arith, total-append (takings c) vs (x ∷ []), total-set (takings c) s.views id v w at, r.taken_once c);
      }

  pub joins : (id : ℕ) (v : View P) (other : ℕ) (w : View P) → 0 < v.allowance → v.held ≡ None → w.held ≡ None → w.taking ≡ None → Joins H id v other w (both v w) (spent_view plan)
  joins id v other w has v_free w_free w_idle s r at apart there =
      let b : View P = both v w in let sp : View P = spent_view plan in let vs : List (View P) = set s.views id b in let vs' : List (View P) = set vs other sp in
      let d : ℕ = get_or s.words 0 0 in let m = r.each id v at in
      let there' : get_elem? s.views other ≡ some w = sym (set_else s.views id other b apart) ∙ there in
      let o = r.each other w there' in
      let sums : (c : ℕ) → total (drawings c) vs' ≡ total (drawings c) s.views = λ c. let x = total-append (same c) v.drawn w.drawn in let y = total-set (drawings c) s.views id v b at in let z = total-set (drawings c) vs other w sp there in omega arith in
      let taken_sums : (c : ℕ) → total (takings c) vs' ≡ total (takings c) s.views = λ c. let x = total-append (same c) v.taken w.taken in let y = total-set (takings c) s.views id v b at in let z = total-set (takings c) vs other w sp there in omega arith in
      let calls_now = total-set calls s.views id v b at in let calls_then = total-set calls vs other w sp there in let bits = bit_either v.called w.called in let parts = terms_le calls s.views id other v w apart at there' in
      let called : 0 < total calls s.views → 0 < total calls vs' = λ h. omega arith in
      record {
        wide = r.wide;
        each = put vs other sp (λ j u. ViewRules plan n d (mark_in s.words) u)
            (record {
              planned = refl;
              below = λ c h. absurd (omega arith);
              holds = λ c e. absurd (cc);
              takes = λ c e. absurd (cc);
              spent = λ e. refl;
              ended = λ e. absurd (cc);
              marked = λ c h no_one. absurd (omega arith);
              had = λ c h. absurd (omega arith);
              done = λ c h free. absurd (omega arith);
            })
            (λ j u ne e. put s.views id b (λ j' u'. ViewRules plan n d (mark_in s.words) u')
            (record {
              planned = m.planned;
              below = λ c h. let x = total-append (same c) v.drawn w.drawn in by_parts (drawings c v) (drawings c w) ((c < d) × (c < n)) (omega arith) (m.below c) (o.below c);
              holds = λ c z. let x = total-append (same c) v.drawn w.drawn in let q = m.holds c z in (omega (arith, q.0), q.1);
              takes = m.takes;
              spent = λ z. absurd (omega arith);
              ended = λ z. (either_true v.no_more w.no_more (n ≤ d) (λ y. (m.ended y).0) (λ y. (o.ended y).0) z, v_free);
              marked = λ c h no_one. let x = total-append (same c) v.drawn w.drawn in by_parts (drawings c v) (drawings c w) (1 ≤ mark_in s.words c) (omega arith) (λ y. m.marked c y no_one)
                  (λ y. o.marked c y (λ z. let bad : None ≡ Some c = sym w_free ∙ z in cc));
              had = λ c h. let x = total-append (same c) v.taken w.taken in by_parts (takings c v) (takings c w) ((1 < mark_in s.words c) × (c < n)) (omega arith) (m.had c) (o.had c);
              done = λ c h free. let x = total-append (same c) v.taken w.taken in by_parts (takings c v) (takings c w) (mark_in s.words c ≡ 3) (omega arith) (λ y. m.done c y free)
                  (λ y. o.done c y (λ z. let bad : None ≡ Some c = sym w_idle ∙ z in cc));
            })
            (λ j' u' ne' e'. r.each j' u' e') j u e);
        once = λ c. omega (arith, sums c, r.once c);
        within = let x = r.within in let y = total-set going s.views id v b at in let z = total-set going vs other w sp there in let k = going_join v.no_more w.no_more v.halted w.halted v.allowance w.allowance in
            let parts' = terms_le going s.views id other v w apart at there' in omega arith;
        halt_bit = r.halt_bit;
        halt_called = λ e. called (r.halt_called e);
        halt_set = let top = either_bit v.called w.called in λ e. r.halt_set (omega arith);
        halted_called = put vs other sp (λ j u. u.halted ≡ true → 0 < total calls vs') (λ e. absurd (cc))
            (λ j u ne q. put s.views id b (λ j' u'. u'.halted ≡ true → 0 < total calls vs')
            (λ e. called (either_true v.halted w.halted (0 < total calls s.views) (λ y. r.halted_called id v at y) (λ y. r.halted_called other w there' y) e))
            (λ j' u' ne' q' e. called (r.halted_called j' u' q' e)) j u q);
        fresh = r.fresh;
        ready = r.ready;
        one_taker = takers_same vs other w sp there (takers_same s.views id v b at r.one_taker (λ c e. e)) (λ c e. absurd (cc));
        allowances = let x = r.allowances in let y = total-set allowed s.views id v b at in let z = total-set allowed vs other w sp there in omega arith;
        drawn = λ c up low. omega (arith, sums c, r.drawn c up low);
        taken = λ c low h. omega (arith, taken_sums c, r.taken c low h);
        taken_once = λ c. omega (arith, taken_sums c, r.taken_once c);
      }

  pub learns : (slots id : ℕ) (m : Me (Option T) (View P)) → Allows H slots id m 0 (λ x. x) (learned (step slots 0 0 0 none) m)
  learns slots id m s r long at fits64 = let v : View P = m.0 in (
    v,
    keeps,
    tt,
    subst (λ (z : List ℕ × List (View P)). H (record { words = z.0; homes = s.homes; views = z.1 })) (λ i. (sym (set-get_or s.words 0 0) i, sym (set_again s.views id v at) i)) r,
    (
      refl,
      (λ c. omega (arith, term_le (drawings c) s.views id v at, r.once c)),
      (λ c. omega (arith, term_le (takings c) s.views id v at, r.taken_once c)),
      omega (arith, term_le allowed s.views id v at, r.allowances),
      (λ whole halted. some_bit v.called (let sum = r.allowances in let k = r.halted_called id v at halted in
          let all = total_only calls s.views id v at (λ j u ne e. ap calls ((r.each j u e).spent (let two = terms_le allowed s.views id j v u ne at e in omega arith))) in omega arith)),
    ),
  )
