-- The steps on the draw word and on the halt mark.
use Rattle.std.proofs.Common.{◌≡◌, ℕ, zero, suc, ◌+◌, ◌%◌, ◌^◌, ◌<◌, ◌≤◌, Bool, true, false, true≢false, cond, List, length, set, get_or, sym, refl, ap, ◌∙◌, subst, arith, length-set, get_or-set_same, get_or-set_other}
use Rattle.std.specs.Prelude.{Option, Some, None, bit_or}
use mathlib.Core.Option.{some, none}
use mathlib.Core.Option as maybe
use mathlib.Core.Logic.{dite}
use native.Mathlib.Decide.{ℕ_discrete, dec_le}
use lib.ListN.{get_elem?}
use lib.Seq.{set-get_or}
use Rattle.atomic_table.specs.Table.{State, Me, step, keeps, takes, Allows}
use Rattle.atomic_table.proofs.Lists.{set_else}
use Rattle.lb_board.specs.declared.view.View.{View}
use Rattle.lb_board.specs.Rules.{Rules, ViewRules, mark_in}
use Rattle.lb_board.specs.Steps.{called, drew, saw_halt}
use Rattle.lb_board.specs.Totals.{bit, total}
use Rattle.lb_board.specs.Views.{allowed, calls, drawings, going, takings, with_called, with_drawn, with_halted, with_no_more}
use Rattle.lb_board.proofs.Sums.{total-set, total_same, term_le, total_zero, same_yes, same_no}
use Rattle.lb_board.proofs.Parts.{put, flat, stays, takers_same, marks_after_low}

module _ {T P : Type 0} (fits : P → ℕ → T → Type 0) (plan : P) (n : ℕ) where
  abbrev St : Type 0
  St = State (Option T) (View P)

  abbrev H : St → Type 0
  H = Rules fits plan n

  abbrev at_words : List ℕ → List (maybe.Option (Option T)) → List (View P) → St
  at_words ws hs vs = record { words = ws; homes = hs; views = vs }

  -- after a load
  pub loaded : (s : St) (i : ℕ) (vs : List (View P)) → H (at_words s.words s.homes vs) → H (at_words (set s.words i (get_or s.words i 0)) s.homes vs)
  loaded s i vs r = subst (λ ws. H (at_words ws s.homes vs)) (sym (set-get_or s.words i 0)) r

  -- a view of which only what it found changes, and whether it halted the board, over words of which only the halt word changes
  flagged : (s : St) (r : H s) (id : ℕ) (v : View P) (ws : List ℕ) (halted calls_now : Bool) (l : List ℕ) → get_elem? s.views id ≡ some v → 0 < v.allowance
      → length ws ≡ length s.words → get_or ws 0 0 ≡ get_or s.words 0 0 → ((c : ℕ) → c < n → mark_in ws c ≡ mark_in s.words c)
      → get_or ws 1 0 ≤ 1
      → going (record v { halted = halted }) ≤ going v → bit v.called ≤ bit calls_now
      → (get_or ws 1 0 ≡ 1 → 0 < total calls (set s.views id (record v { halted = halted; called = calls_now; missed = l })))
      → (0 < total calls (set s.views id (record v { halted = halted; called = calls_now; missed = l })) → get_or ws 1 0 ≡ 1)
      → (halted ≡ true → 0 < total calls (set s.views id (record v { halted = halted; called = calls_now; missed = l })))
      → H (at_words ws s.homes (set s.views id (record v { halted = halted; called = calls_now; missed = l })))
  flagged s r id v ws halted calls_now l at has long same_draws same_marks low less more bit_called called_bit halt_called =
      let w : View P = record v { halted = halted; called = calls_now; missed = l } in
      let d : ℕ = get_or s.words 0 0 in let d' : ℕ = get_or ws 0 0 in
      record {
        wide = long ∙ r.wide;
        each = put s.views id w (λ j u. ViewRules plan n d' (mark_in ws) u)
            (let m = r.each id v at in record {
              planned = m.planned;
              below = λ c h. let b = m.below c h in (omega arith, b.1);
              holds = λ c e. let b = m.holds c e in (b.0, same_marks c (m.below c b.0).1 ∙ b.1);
              takes = λ c e. let b = m.takes c e in (same_marks c b.1 ∙ b.0, b.1);
              spent = λ e. absurd (omega arith);
              ended = λ e. let b = m.ended e in (omega arith, b.1);
              marked = λ c h apart. omega (arith, m.marked c h apart, same_marks c (m.below c h).1);
              had = λ c h. let b = m.had c h in let a = same_marks c b.1 in (omega arith, b.1);
              done = λ c h free. same_marks c (m.had c h).1 ∙ m.done c h free;
            })
            (λ j u ne e. let q = r.each j u e in stays plan n d d' (mark_in s.words) (mark_in ws) u q (omega arith) (λ c h. same_marks c (q.below c (q.holds c h).0).1) (λ c h. same_marks c (q.takes c h).1) (λ c low'. omega (arith, same_marks c low')) (λ c low' e. same_marks c low' ∙ e));
        once = λ c. omega (arith, total_same (drawings c) s.views id v w at refl, r.once c);
        within = let t = total-set going s.views id v w at in let b = r.within in omega arith;
        halt_bit = low;
        halt_called = bit_called;
        halt_set = called_bit;
        halted_called = put s.views id w (λ j u. u.halted ≡ true → 0 < total calls (set s.views id w)) halt_called
            (λ j u ne e h. let t = total-set calls s.views id v w at in let b = r.halted_called j u e h in omega arith);
        fresh = λ c up low'. let f = r.fresh c (omega arith) low' in (same_marks c low' ∙ f.0, f.1);
        ready = λ c low' is. r.ready c low' (sym (same_marks c low') ∙ is);
        one_taker = takers_same s.views id v w at r.one_taker (λ c e. e);
        allowances = total_same allowed s.views id v w at refl ∙ r.allowances;
        drawn = λ c up low'. omega (arith, total_same (drawings c) s.views id v w at refl, r.drawn c (omega arith) low');
        taken = λ c low' is. omega (arith, total_same (takings c) s.views id v w at refl, r.taken c low' (omega (arith, same_marks c low')));
        taken_once = λ c. omega (arith, total_same (takings c) s.views id v w at refl, r.taken_once c);
      }

  -- a view of which only what it missed changes
  pub noted : (s : St) (r : H s) (id : ℕ) (v : View P) (l : List ℕ) → get_elem? s.views id ≡ some v → 0 < v.allowance → H (at_words s.words s.homes (set s.views id (record v { missed = l })))
  noted s r id v l at has = let w : View P = record v { missed = l } in let t = total_same calls s.views id v w at refl in
      flagged s r id v s.words v.halted v.called l at has refl refl (λ c low. refl) r.halt_bit (omega arith) (omega arith)
      (λ is. let b = r.halt_called is in omega arith) (λ is. r.halt_set (omega arith)) (λ is. let b = r.halted_called id v at is in omega arith)

  not_called : (b : Bool) → (b ≡ true → ⊥) → b ≡ false
  not_called true f = absurd (f refl)
  not_called false f = refl

  pub sees_halt : (slots id : ℕ) (m : Me (Option T) (View P)) → 0 < m.0.allowance → Allows H slots id m 1 (λ x. x) (saw_halt (step slots 1 0 0 none) m)
  sees_halt slots id m has s r long at fits64 = let v : View P = m.0 in let x : ℕ = get_or s.words 1 0 in dite (ℕ_discrete x 1)
      (λ set_. let w : View P = with_halted v in let t = total-set calls s.views id v w at in let b = r.halt_called set_ in
      let enough : 0 < total calls (set s.views id w) = omega arith in (
        w,
        keeps,
        tt,
        loaded s 1 (set s.views id w) (flagged s r id v s.words true v.called v.missed at has refl refl (λ c low. refl) r.halt_bit
            (let z = flat v.no_more 0 refl in omega arith) (omega arith) (λ _. enough) (λ _. set_) (λ _. enough)),
        ((λ _. refl), (λ no. absurd (no set_))),
      ))
      (λ unset. (
        v,
        keeps,
        tt,
        loaded s 1 (set s.views id v) (noted s r id v v.missed at has),
        ((λ is. absurd (unset is)), (λ _. (refl, not_called v.called (λ is. let part = term_le calls s.views id v at in let one = ap bit is in unset (r.halt_set (omega arith)))))),
      ))

  -- the next chapter is drawn
  draws_one : (s : St) (r : H s) (id : ℕ) (v : View P) → get_elem? s.views id ≡ some v → 0 < v.allowance → v.held ≡ None → v.no_more ≡ false → get_or s.words 0 0 < n
      → H (at_words (set s.words 0 (get_or s.words 0 0 + 1)) (set s.homes (get_or s.words 0 0) none) (set s.views id (with_drawn (get_or s.words 0 0) v)))
  draws_one s r id v at has free open_ low =
      let c : ℕ = get_or s.words 0 0 in let ws : List ℕ = set s.words 0 (c + 1) in let w : View P = with_drawn c v in
      let wide : length s.words ≡ n + 2 = r.wide in
      let here : get_or ws 0 0 ≡ c + 1 = get_or-set_same s.words 0 (c + 1) 0 (omega arith) in
      let one : get_or ws 1 0 ≡ get_or s.words 1 0 = get_or-set_other s.words 0 1 (c + 1) 0 (λ e. omega arith) in
      let marks : (x : ℕ) → mark_in ws x ≡ mark_in s.words x = marks_after_low s.words 0 (c + 1) (omega arith) in
      let f = r.fresh c (omega arith) low in
      let nobody : total (drawings c) s.views ≡ 0 = total_zero (drawings c) s.views (λ j u e. dite (ℕ_discrete (drawings c u) 0) (λ z. z) (λ z. let b = (r.each j u e).below c (omega arith) in absurd (omega arith))) in
      let m = r.each id v at in
      record {
        wide = length-set s.words 0 (c + 1) ∙ r.wide;
        each = put s.views id w (λ j u. ViewRules plan n (get_or ws 0 0) (mark_in ws) u)
            (record {
              planned = m.planned;
              below = λ x h. dite (ℕ_discrete c x) (λ e. (omega arith, omega arith)) (λ ne. let z = same_no x c ne in let b = m.below x (omega arith) in (omega arith, b.1));
              holds = λ x e. let is : c ≡ x = cc in let z = same_yes x c is in (omega arith, marks x ∙ ap (mark_in s.words) (sym is) ∙ f.0);
              takes = λ x e. let b = m.takes x e in (marks x ∙ b.0, b.1);
              had = λ x h. let b = m.had x h in let y = marks x in (omega arith, b.1);
              done = λ x h free'. marks x ∙ m.done x h free';
              spent = λ e. absurd (omega arith);
              ended = λ e. absurd (true≢false (sym e ∙ open_));
              marked = λ x h apart. dite (ℕ_discrete c x) (λ e. absurd (apart (ap Some e))) (λ ne. let z = same_no x c ne in omega (arith, marks x, m.marked x (omega arith) (λ e. let bad : None ≡ Some x = sym free ∙ e in cc)));
            })
            (λ j u ne e. stays plan n c (get_or ws 0 0) (mark_in s.words) (mark_in ws) u (r.each j u e) (omega arith) (λ x h. marks x) (λ x h. marks x) (λ x low'. omega (arith, marks x)) (λ x low' e. marks x ∙ e));
        once = λ x. let t = total-set (drawings x) s.views id v w at in let b = r.once x in
            dite (ℕ_discrete c x) (λ e. let z = same_yes x c e in let y : total (drawings x) s.views ≡ 0 = subst (λ k. total (drawings k) s.views ≡ 0) e nobody in omega arith) (λ ne. let z = same_no x c ne in omega arith);
        within = let t = total_same going s.views id v w at refl in let b = r.within in omega arith;
        halt_bit = omega (arith, r.halt_bit);
        halt_called = λ e. let t = total_same calls s.views id v w at refl in let b = r.halt_called (sym one ∙ e) in omega arith;
        halt_set = λ e. let t = total_same calls s.views id v w at refl in one ∙ r.halt_set (omega arith);
        halted_called = let t = total_same calls s.views id v w at refl in put s.views id w (λ j u. u.halted ≡ true → 0 < total calls (set s.views id w)) (λ h. let b = r.halted_called id v at h in omega arith)
            (λ j u ne e h. let b = r.halted_called j u e h in omega arith);
        fresh = λ x up low'. let g = r.fresh x (omega arith) low' in (marks x ∙ g.0, set_else s.homes c x none (λ e. omega arith) ∙ g.1);
        ready = λ x low' is. let g = r.ready x low' (sym (marks x) ∙ is) in
            (g.0, set_else s.homes c x none (λ e. let z : mark_in s.words x ≡ 0 = ap (mark_in s.words) e ∙ f.0 in let y = marks x in omega arith) ∙ g.1, g.2);
        one_taker = takers_same s.views id v w at r.one_taker (λ x e. e);
        allowances = total_same allowed s.views id v w at refl ∙ r.allowances;
        drawn = λ x up low'. let t = total-set (drawings x) s.views id v w at in
            dite (ℕ_discrete c x) (λ e. let z = same_yes x c e in omega arith) (λ ne. let b = r.drawn x (omega arith) low' in omega arith);
        taken = λ x low' is. omega (arith, total_same (takings x) s.views id v w at refl, r.taken x low' (omega (arith, marks x)));
        taken_once = λ x. omega (arith, total_same (takings x) s.views id v w at refl, r.taken_once x);
      }

  -- no chapter is left
  draws_none : (s : St) (r : H s) (id : ℕ) (v : View P) → get_elem? s.views id ≡ some v → 0 < v.allowance → v.held ≡ None → v.no_more ≡ false → v.halted ≡ false → n ≤ get_or s.words 0 0
      → H (at_words (set s.words 0 (get_or s.words 0 0 + 1)) s.homes (set s.views id (with_no_more v)))
  draws_none s r id v at has free open_ runs high =
      let c : ℕ = get_or s.words 0 0 in let ws : List ℕ = set s.words 0 (c + 1) in let w : View P = with_no_more v in
      let wide : length s.words ≡ n + 2 = r.wide in
      let here : get_or ws 0 0 ≡ c + 1 = get_or-set_same s.words 0 (c + 1) 0 (omega arith) in
      let one : get_or ws 1 0 ≡ get_or s.words 1 0 = get_or-set_other s.words 0 1 (c + 1) 0 (λ e. omega arith) in
      let marks : (x : ℕ) → mark_in ws x ≡ mark_in s.words x = marks_after_low s.words 0 (c + 1) (omega arith) in
      let m = r.each id v at in
      let goes : going v ≡ v.allowance = ap (λ b. cond b 0 (cond v.halted 0 v.allowance)) open_ ∙ ap (λ b. cond b 0 v.allowance) runs in
      record {
        wide = length-set s.words 0 (c + 1) ∙ r.wide;
        each = put s.views id w (λ j u. ViewRules plan n (get_or ws 0 0) (mark_in ws) u)
            (record {
              planned = m.planned;
              below = λ x h. let b = m.below x h in (omega arith, b.1);
              holds = λ x e. let bad : None ≡ Some x = sym free ∙ e in absurd (cc);
              takes = λ x e. let b = m.takes x e in (marks x ∙ b.0, b.1);
              had = λ x h. let b = m.had x h in let y = marks x in (omega arith, b.1);
              done = λ x h free'. marks x ∙ m.done x h free';
              spent = λ e. absurd (omega arith);
              ended = λ e. (omega arith, free);
              marked = λ x h apart. omega (arith, marks x, m.marked x h apart);
            })
            (λ j u ne e. stays plan n c (get_or ws 0 0) (mark_in s.words) (mark_in ws) u (r.each j u e) (omega arith) (λ x h. marks x) (λ x h. marks x) (λ x low'. omega (arith, marks x)) (λ x low' e. marks x ∙ e));
        once = λ x. omega (arith, total_same (drawings x) s.views id v w at refl, r.once x);
        within = let t = total-set going s.views id v w at in let b = r.within in omega arith;
        halt_bit = omega (arith, r.halt_bit);
        halt_called = λ e. let t = total_same calls s.views id v w at refl in let b = r.halt_called (sym one ∙ e) in omega arith;
        halt_set = λ e. let t = total_same calls s.views id v w at refl in one ∙ r.halt_set (omega arith);
        halted_called = let t = total_same calls s.views id v w at refl in put s.views id w (λ j u. u.halted ≡ true → 0 < total calls (set s.views id w)) (λ h. let b = r.halted_called id v at h in omega arith)
            (λ j u ne e h. let b = r.halted_called j u e h in omega arith);
        fresh = λ x up low'. absurd (omega arith);
        ready = λ x low' is. r.ready x low' (sym (marks x) ∙ is);
        one_taker = takers_same s.views id v w at r.one_taker (λ x e. e);
        allowances = total_same allowed s.views id v w at refl ∙ r.allowances;
        drawn = λ x up low'. omega (arith, total_same (drawings x) s.views id v w at refl, r.drawn x (omega arith) low');
        taken = λ x low' is. omega (arith, total_same (takings x) s.views id v w at refl, r.taken x low' (omega (arith, marks x)));
        taken_once = λ x. omega (arith, total_same (takings x) s.views id v w at refl, r.taken_once x);
      }

  pub draws : (slots id : ℕ) (m : Me (Option T) (View P)) → slots ≡ n → n < 2 ^ 32 → 0 < m.0.allowance → m.0.held ≡ None → m.0.no_more ≡ false → m.0.halted ≡ false
      → Allows H slots id m 0 (λ x. (x + 1) % 2 ^ 64) (drew (step slots 0 1 0 none) m)
  draws slots id m is small has free open_ runs s r long at fits64 =
      let v : View P = m.0 in let c : ℕ = get_or s.words 0 0 in let b = r.within in
      let next : (c + 1) % 2 ^ 64 ≡ c + 1 = omega arith in
      dite (dec_le n c)
      (λ high. (
        with_no_more v,
        keeps,
        tt,
        subst (λ k. H (at_words (set s.words 0 k) s.homes (set s.views id (with_no_more v)))) (sym next) (draws_none s r id v at has free open_ runs high),
        ((λ low. absurd (omega arith)), (λ _. refl)),
      ))
      (λ low. let f = r.fresh c (omega arith) (omega arith) in (
        with_drawn c v,
        takes c None,
        f.1,
        subst (λ k. H (at_words (set s.words 0 k) (set s.homes c none) (set s.views id (with_drawn c v)))) (sym next) (draws_one s r id v at has free open_ (omega arith)),
        ((λ _. (refl, λ x h. ((r.each id v at).below x h).0)), (λ high. absurd (omega arith))),
      ))

  bit_one : (x : ℕ) → x ≤ 1 → bit_or x 1 ≡ 1
  bit_one zero h = refl
  bit_one (suc zero) h = refl
  bit_one (suc (suc x)) h = absurd (omega arith)

  pub halts : (slots id : ℕ) (m : Me (Option T) (View P)) → 0 < m.0.allowance → Allows H slots id m 1 (λ x. bit_or x 1) (called (step slots 1 1 0 none) m)
  halts slots id m has s r long at fits64 = let v : View P = m.0 in let w : View P = with_called v in let wide = r.wide in
      let ws : List ℕ = set s.words 1 1 in
      let t = total-set calls s.views id v w at in let part = term_le calls s.views id v at in
      let enough : 0 < total calls (set s.views id w) = omega arith in
      let here : get_or ws 1 0 ≡ 1 = get_or-set_same s.words 1 1 0 (omega arith) in
      let new = bit_one (get_or s.words 1 0) r.halt_bit in (
        w,
        keeps,
        tt,
        subst (λ k. H (at_words (set s.words 1 k) s.homes (set s.views id w))) (sym new)
            (flagged s r id v ws v.halted true v.missed at has (length-set s.words 1 1) (get_or-set_other s.words 1 0 1 0 (λ e. omega arith)) (λ c low. marks_after_low s.words 1 1 (omega arith) c) (omega arith)
            (omega arith) (bit_top v.called) (λ _. enough) (λ _. here) (λ _. enough)),
        refl,
      )
    where
      bit_top : (b : Bool) → bit b ≤ 1
      bit_top true = omega arith
      bit_top false = omega arith
