-- The steps on a chapter's mark.
use Rattle.std.proofs.Common.{◌≡◌, ℕ, ◌+◌, ◌-◌, ◌<◌, ◌≤◌, ◌≢◌, true, List, ◌∷◌, length, set, get_or, sym, refl, ap, ◌∙◌, subst, inl, inr, ◌⊎◌, ⊎_elim, arith, eqb, length-set}
use Rattle.std.specs.Prelude.{Option, Some, None}
use mathlib.Core.Option.{some, none}
use mathlib.Core.Option as maybe
use mathlib.Core.Logic.{dite}
use native.Mathlib.Decide.{ℕ_discrete, dec_le}
use lib.ListN.{get_elem?}
use prog.Atomic.{either}
use Rattle.atomic_table.specs.Table.{State, Me, step, keeps, takes, gives, rest, put_back, Valid, stepped, carried_after, Allows}
use Rattle.atomic_table.proofs.Lists.{set_here, set_else, exchanged}
use Rattle.lb_board.specs.declared.view.View.{View}
use Rattle.lb_board.specs.Rules.{Ready, Rules, ViewRules, mark_in}
use Rattle.lb_board.specs.Steps.{emptied, posted, took}
use Rattle.lb_board.specs.Totals.{times, total}
use Rattle.lb_board.specs.Views.{IsLast, allowed, calls, drawings, going, spent_view, takings, with_missed, with_nothing, with_posted, with_taking}
use Rattle.lb_board.proofs.Sums.{same_no, same_yes, term_le, terms_le, total-set, total_only, total_same, total_zero}
use Rattle.lb_board.proofs.Parts.{put, stays, takers, mark_here, mark_else, low_word}
use Rattle.lb_board.proofs.Draws.{loaded, noted}

-- a slot that was taken last is the first that is out
pub first_out : {A V : Type 0} (m : Me A V) (v : V) (c d : ℕ) (x : A) (l : List (ℕ × A)) → m ≡ (v, (d, x) ∷ l) → d ≡ c → m.1 ≡ (c, x) ∷ rest m.1
first_out m v c d x l now back = subst (λ k. k.1 ≡ (c, x) ∷ rest k.1) (sym now) (λ i. (back i, x) ∷ l)

pub is_taking : {A P : Type 0} (m : Me A (View P)) (v : View P) (c d : ℕ) (l : List (ℕ × A)) → m ≡ (with_taking d v, l) → d ≡ c → 0 < v.allowance → (0 < m.0.allowance) × (m.0.taking ≡ Some c)
is_taking m v c d l now back has = subst (λ k. (0 < k.0.allowance) × (k.0.taking ≡ Some c)) (sym now) (has, ap Some back)

module _ {T P : Type 0} (fits : P → ℕ → T → Type 0) (plan : P) (n : ℕ) where
  abbrev St : Type 0
  St = State (Option T) (View P)

  abbrev H : St → Type 0
  H = Rules fits plan n

  abbrev at_words : List ℕ → List (maybe.Option (Option T)) → List (View P) → St
  at_words ws hs vs = record { words = ws; homes = hs; views = vs }

  -- the mark of a drawn chapter changes, and its slot, and of the view what it holds, is taking and has taken
  marked_step : (s : St) (r : H s) (id : ℕ) (v : View P) (c x : ℕ) (home : maybe.Option (Option T)) (h t : Option ℕ) (l : List ℕ) → get_elem? s.views id ≡ some v → 0 < v.allowance
      → c < n → 0 < x → mark_in s.words c ≤ x → mark_in s.words c < 3 → 0 < mark_in s.words c + drawings c v → length s.homes ≡ n
      → ((d : ℕ) → h ≡ Some d → (v.held ≡ Some d) × (d ≢ c)) → ((d : ℕ) → d ≢ c → v.held ≡ Some d → h ≡ Some d) → (v.no_more ≡ true → h ≡ None)
      → ((d : ℕ) → t ≡ Some d → ((v.taking ≡ Some d) × (d ≢ c)) ⊎ ((d ≡ c) × (x ≡ 2)))
      → ((j : ℕ) (u : View P) → j ≢ id → get_elem? s.views j ≡ some u → (u.held ≢ Some c) × (u.taking ≢ Some c))
      → (x ≡ 1 → (y : T) × (home ≡ some (Some y)) × fits plan c y)
      → ((d : ℕ) → d ≢ c → times d l ≡ times d v.taken) → (0 < times c l → (1 < x) × (t ≢ Some c → x ≡ 3)) → ((d : ℕ) → d ≢ c → v.taking ≡ Some d → t ≡ Some d) → (1 < x → 0 < total (takings c) (set s.views id (record v { held = h; taking = t; taken = l })))
      → total (takings c) (set s.views id (record v { held = h; taking = t; taken = l })) ≤ 1
      → H (at_words (set s.words (c + 2) x) (set s.homes c home) (set s.views id (record v { held = h; taking = t; taken = l })))
  marked_step s r id v c x home h t l at has low pos up under met long held_old held_new held_ended taking_new others full same_taken first kept now one =
      let w : View P = record v { held = h; taking = t; taken = l } in let ws : List ℕ = set s.words (c + 2) x in
      let d : ℕ = get_or s.words 0 0 in
      let m = r.each id v at in
      let zero_same : get_or ws 0 0 ≡ d = low_word s.words c 0 x (omega arith) in
      let one_same : get_or ws 1 0 ≡ get_or s.words 1 0 = low_word s.words c 1 x (omega arith) in
      let here : mark_in ws c ≡ x = mark_here s.words c x n r.wide low in
      let else_ : (k : ℕ) → k ≢ c → mark_in ws k ≡ mark_in s.words k = λ k ne. mark_else s.words c k x ne in
      let begun : c < d = dite (dec_le d c) (λ high. let f = r.fresh c high low in let f₀ = f.0 in let b = m.below c (omega arith) in absurd (omega arith)) (λ no. omega arith) in
      let goes = total_same going s.views id v w at refl in
      let called = total_same calls s.views id v w at refl in
      record {
        wide = length-set s.words (c + 2) x ∙ r.wide;
        each = put s.views id w (λ j u. ViewRules plan n (get_or ws 0 0) (mark_in ws) u)
            (record {
              planned = m.planned;
              below = λ k e. let b = m.below k e in (omega arith, b.1);
              holds = λ k e. let o = held_old k e in let b = m.holds k o.0 in (b.0, else_ k o.1 ∙ b.1);
              takes = λ k e. ⊎_elim (λ (o : (v.taking ≡ Some k) × (k ≢ c)). let b = m.takes k o.0 in (else_ k o.1 ∙ b.0, b.1)) (λ (o : (k ≡ c) × (x ≡ 2)). (ap (mark_in ws) o.0 ∙ here ∙ o.1, omega arith)) (taking_new k e);
              spent = λ e. absurd (omega arith);
              ended = λ e. let b = m.ended e in (omega arith, held_ended e);
              marked = λ k e apart. dite (ℕ_discrete k c) (λ is. let y = ap (mark_in ws) is in omega arith) (λ ne. let y = else_ k ne in let z = m.marked k e (λ q. apart (held_new k ne q)) in omega arith);
              had = λ k e. dite (ℕ_discrete k c) (λ is. (let y = ap (mark_in ws) is in let z = (first (subst (λ q. 0 < times q l) is e)).0 in omega arith, omega arith))
                  (λ ne. let b = m.had k (omega (arith, same_taken k ne)) in let y = else_ k ne in (omega arith, b.1));
              done = λ k e free. dite (ℕ_discrete k c) (λ is. ap (mark_in ws) is ∙ here ∙ (first (subst (λ q. 0 < times q l) is e)).1 (λ q. free (q ∙ ap Some (sym is))))
                  (λ ne. else_ k ne ∙ m.done k (omega (arith, same_taken k ne)) (λ q. free (kept k ne q)));
            })
            (λ j u ne e. let o = others j u ne e in let q = r.each j u e in
            stays plan n d (get_or ws 0 0) (mark_in s.words) (mark_in ws) u q (omega arith) (λ k y. else_ k (λ is. o.0 (subst (λ z. u.held ≡ Some z) is y))) (λ k y. else_ k (λ is. o.1 (subst (λ z. u.taking ≡ Some z) is y)))
            (λ k low'. dite (ℕ_discrete k c) (λ is. let z = ap (mark_in ws) is in let y = ap (mark_in s.words) is in omega arith) (λ ne'. omega (arith, else_ k ne')))
            (λ k low' e3. dite (ℕ_discrete k c) (λ is. let z = ap (mark_in s.words) is in absurd (omega arith)) (λ ne'. else_ k ne' ∙ e3)));
        once = λ k. omega (arith, total_same (drawings k) s.views id v w at refl, r.once k);
        within = let b = r.within in omega arith;
        halt_bit = omega (arith, r.halt_bit);
        halt_called = λ e. let b = r.halt_called (sym one_same ∙ e) in omega arith;
        halt_set = λ e. one_same ∙ r.halt_set (omega arith);
        halted_called = put s.views id w (λ j u. u.halted ≡ true → 0 < total calls (set s.views id w)) (λ e. let b = r.halted_called id v at e in omega arith) (λ j u ne e q. let b = r.halted_called j u e q in omega arith);
        fresh = λ k over low'. let f = r.fresh k (omega arith) low' in let ne : k ≢ c = λ e. omega arith in (else_ k ne ∙ f.0, set_else s.homes c k home ne ∙ f.1);
        ready = λ k low' is. dite (ℕ_discrete k c)
            (λ e. let y = full (sym here ∙ ap (mark_in ws) (sym e) ∙ is) in subst (λ z. Ready fits plan (set s.homes c home) z) (sym e) (y.0, set_here s.homes c home (omega arith) ∙ ap some y.1, y.2))
            (λ ne. let f = r.ready k low' (sym (else_ k ne) ∙ is) in (f.0, set_else s.homes c k home ne ∙ f.1, f.2));
        one_taker = takers s.views id w r.one_taker (λ k e j u ne q tk. ⊎_elim (λ (o : (v.taking ≡ Some k) × (k ≢ c)). ne (r.one_taker j id u v k q at tk o.0)) (λ (o : (k ≡ c) × (x ≡ 2)). (others j u ne q).1 (subst (λ z. u.taking ≡ Some z) o.0 tk)) (taking_new k e));
        allowances = total_same allowed s.views id v w at refl ∙ r.allowances;
        drawn = λ k under low'. omega (arith, total_same (drawings k) s.views id v w at refl, r.drawn k (omega arith) low');
        taken = λ k low' is. dite (ℕ_discrete k c) (λ e. subst (λ z. 0 < total (takings z) (set s.views id w)) (sym e) (now (let y = ap (mark_in ws) e in omega arith)))
            (λ ne. let y = else_ k ne in let z = total-set (takings k) s.views id v w at in let b = r.taken k low' (omega arith) in let g = same_taken k ne in omega arith);
        taken_once = λ k. dite (ℕ_discrete k c) (λ e. subst (λ z. total (takings z) (set s.views id w) ≤ 1) (sym e) one)
            (λ ne. let z = total-set (takings k) s.views id v w at in let b = r.taken_once k in let g = same_taken k ne in omega arith);
      }

  posts_one : (slots id : ℕ) (v : View P) (c : ℕ) (y : T) (l : List (ℕ × Option T)) → slots ≡ n → c < n → 0 < v.allowance → v.held ≡ Some c → fits plan c y
      → Allows H slots id (v, (c, Some y) ∷ l) (c + 2) (λ _. 1) (posted (step slots (c + 2) 1 0 none) (v, (c, Some y) ∷ l))
  posts_one slots id v c y l is low has held fit s r long at fits64 =
      let m = r.each id v at in let mine = m.holds c held in let mine₀ = mine.0 in let mine₁ = mine.1 in (
        with_posted v,
        gives,
        tt,
        marked_step s r id v c 1 (some (Some y)) None v.taking v.taken at has low (omega arith) (omega arith) (omega arith) (omega arith) (long ∙ is) (λ d e. absurd (cc)) (λ d ne e. let same_d : c ≡ d = cc in absurd (ne (sym same_d))) (λ e. refl)
            (λ d e. inl (e, λ q. let b = m.takes d e in let b₀ = b.0 in let z = ap (mark_in s.words) q in absurd (omega arith)))
            (λ j u ne e. (
              (λ q. let b = (r.each j u e).holds c q in let b₀ = b.0 in let o = r.once c in let two = terms_le (drawings c) s.views id j v u ne at e in absurd (omega arith)),
              (λ q. let b = (r.each j u e).takes c q in let b₀ = b.0 in absurd (omega arith)),
            ))
            (λ _. (y, refl, fit)) (λ d ne. refl) (λ e. let b = (m.had c e).0 in absurd (omega arith)) (λ d ne e. e) (λ bad. absurd (omega arith)) (let z = total_same (takings c) s.views id v (with_posted v) at refl in let b = r.taken_once c in omega arith),
        refl,
      )

  pub posts : (slots id : ℕ) (m : Me (Option T) (View P)) (v : View P) (c : ℕ) (y : T) (l : List (ℕ × Option T)) → m ≡ (v, (c, Some y) ∷ l) → slots ≡ n → c < n → 0 < v.allowance
      → v.held ≡ Some c → fits plan c y → Allows H slots id m (c + 2) (λ _. 1) (posted (step slots (c + 2) 1 0 none) m)
  posts slots id m v c y l now is low has held fit = subst (λ k. Allows H slots id k (c + 2) (λ _. 1) (posted (step slots (c + 2) 1 0 none) k)) (sym now) (posts_one slots id v c y l is low has held fit)

  empties_one : (slots id : ℕ) (v : View P) (c : ℕ) (l : List (ℕ × Option T)) → slots ≡ n → c < n → 0 < v.allowance → v.taking ≡ Some c
      → Allows H slots id (v, (c, None) ∷ l) (c + 2) (λ _. 3) (emptied (step slots (c + 2) 3 0 none) (v, (c, None) ∷ l))
  empties_one slots id v c l is low has taking s r long at fits64 =
      let m = r.each id v at in let mine = (m.takes c taking).0 in let w : View P = with_nothing v in (
        w,
        gives,
        tt,
        marked_step s r id v c 3 (some None) v.held None v.taken at has low (omega arith) (omega arith) (omega arith) (omega arith) (long ∙ is)
            (λ d e. (e, λ q. let b = (m.holds d e).1 in let z = ap (mark_in s.words) q in absurd (omega arith))) (λ d ne e. e) (λ e. (m.ended e).1)
            (λ d e. absurd (cc))
            (λ j u ne e. ((λ q. let b = ((r.each j u e).holds c q).1 in absurd (omega arith)), (λ q. ne (r.one_taker j id u v c e at q taking))))
            (λ bad. absurd (omega arith)) (λ d ne. refl) (λ _. (omega arith, λ _. refl)) (λ d ne e. let same_d : c ≡ d = cc in absurd (ne (sym same_d))) (λ _. let z = total_same (takings c) s.views id v w at refl in let b = r.taken c low (omega arith) in omega arith)
            (let z = total_same (takings c) s.views id v w at refl in let b = r.taken_once c in omega arith),
        refl,
      )

  pub empties : (slots id : ℕ) (m : Me (Option T) (View P)) (v : View P) (c : ℕ) (l : List (ℕ × Option T)) → m ≡ (v, (c, None) ∷ l) → slots ≡ n → c < n → 0 < v.allowance → v.taking ≡ Some c
      → Allows H slots id m (c + 2) (λ _. 3) (emptied (step slots (c + 2) 3 0 none) m)
  empties slots id m v c l now is low has taking = subst (λ k. Allows H slots id k (c + 2) (λ _. 3) (emptied (step slots (c + 2) 3 0 none) k)) (sym now) (empties_one slots id v c l is low has taking)

  -- where no other seat is left, what the rule knows of the whole is what this seat knows
  last_has : (s : St) (r : H s) (id : ℕ) (v : View P) (c : ℕ) → get_elem? s.views id ≡ some v → IsLast v → c < n → mark_in s.words c ≢ 1 → 0 < times c v.taken
  last_has s r id v c at last low free =
      let sum = r.allowances in let whole = last.0 in
      let idle : (j : ℕ) (u : View P) → j ≢ id → get_elem? s.views j ≡ some u → u ≡ spent_view plan =
      λ j u ne e. (r.each j u e).spent (let two = terms_le allowed s.views id j v u ne at e in omega arith) in
      let drew = total_only (drawings c) s.views id v at (λ j u ne e. ap (drawings c) (idle j u ne e)) in
      let took = total_only (takings c) s.views id v at (λ j u ne e. ap (takings c) (idle j u ne e)) in
      let m = r.each id v at in let end = m.ended last.1 in let end₀ = end.0 in
      let some_drawn = r.drawn c (omega arith) low in
      let marked = m.marked c (omega arith) (λ e. let bad : None ≡ Some c = sym end.1 ∙ e in cc) in
      let some_taken = r.taken c low (omega arith) in omega arith

  -- nobody took a chapter that is posted
  nobody : (s : St) (r : H s) (c : ℕ) → mark_in s.words c ≡ 1 → total (takings c) s.views ≡ 0
  nobody s r c posted_ = total_zero (takings c) s.views (λ j u e. dite (ℕ_discrete (takings c u) 0) (λ z. z) (λ z. let b = ((r.each j u e).had c (omega arith)).0 in absurd (omega arith)))

  pub takes_one : (slots id : ℕ) (m : Me (Option T) (View P)) (c : ℕ) → slots ≡ n → c < n → 0 < m.0.allowance → m.0.taking ≡ None
      → Allows H slots id m (c + 2) (λ x. either (eqb x 1) 2 x) (took fits plan (step slots (c + 2) 1 2 none) m)
  takes_one slots id m c is low has free s r long at fits64 =
      let v : View P = m.0 in let x : ℕ = mark_in s.words c in let e : c ≡ (c + 2) - 2 = omega arith in
      exchanged x 1 2 (λ k. (w : View P) × (a : Rattle.atomic_table.specs.Table.Act (Option T)) × Valid s.homes m.1 a × H (stepped s (c + 2) k id m.1 w a) × took fits plan (step slots (c + 2) 1 2 none) m x (w, carried_after m.1 a))
      (λ hit. let f = r.ready c low hit in let w : View P = with_taking c v in let q = r.each id v at in (
        w,
        takes c (Some f.0),
        f.1,
        marked_step s r id v c 2 none v.held (Some c) (c ∷ v.taken) at has low (omega arith) (omega arith) (omega arith) (omega arith) (long ∙ is)
            (λ d e. (e, λ z. let b = (q.holds d e).1 in let y = ap (mark_in s.words) z in absurd (omega arith))) (λ d ne e. e) (λ e. (q.ended e).1)
            (λ d e. let same_d : c ≡ d = cc in inr (sym same_d, refl))
            (λ j u ne e. ((λ z. let b = ((r.each j u e).holds c z).1 in absurd (omega arith)), (λ z. let b = ((r.each j u e).takes c z).0 in absurd (omega arith))))
            (λ bad. absurd (omega arith)) (λ d ne. let y = same_no d c (λ z. ne (sym z)) in omega arith) (λ _. (omega arith, λ ne. absurd (ne refl))) (λ d ne e. let bad : None ≡ Some d = sym free ∙ e in absurd (cc))
            (λ _. let z = total-set (takings c) s.views id v w at in let y = same_yes c c refl in omega arith)
            (let z = total-set (takings c) s.views id v w at in let y = same_yes c c refl in let b = nobody s r c hit in omega arith),
        (
          (λ _. (f.0, (λ i. (with_taking (e i) v, (e i, Some f.0) ∷ m.1)), subst (λ z. fits plan z f.0) e f.2, subst (λ z. times z v.taken ≡ 0) e (let b = nobody s r c hit in let z = term_le (takings c) s.views id v at in omega arith))),
          (λ miss. absurd (miss hit)),
        ),
      ))
      (λ miss. (
        with_missed c v,
        keeps,
        tt,
        loaded fits plan n s (c + 2) (set s.views id (with_missed c v)) (noted fits plan n s r id v (c ∷ v.missed) at has),
        ((λ hit. absurd (miss hit)), (λ _. (λ i. (with_missed (e i) v, m.1), λ last. subst (λ z. 0 < times z v.taken) e (last_has s r id v c at last low miss)))),
      ))
