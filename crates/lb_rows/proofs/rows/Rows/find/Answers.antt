use Rattle.std.proofs.Common.{◌≡◌, ◌∙◌, ◌+◌, ◌<◌, ◌≤◌, ◌⊎◌, arith, ap, sym, subst, length, map, get_or, List, [], ℕ, Bor, IsSome, inl, inr, nat_eq}
use lib.Pointwise.{pointwise}
use Rattle.std.proofs.lemmas.List.{get_or-map, length-map}
use Rattle.std.specs.Cmp.Lexicographic.{same_text}
use Rattle.lb_rows.specs.Names.{place_of}
use Rattle.lb_rows.proofs.Places.{place_at, no_place, found, same}
use Rattle.lb_rows.proofs.rows.Rows.find.Goals as goal

abbrev key : Bor (List ℕ) → List ℕ
key row = row.now

abbrev past : Bor (List ℕ)
past = record { ref_ptr = (0, 0); now = [] }

-- the name at a place of the table, where it is seen as the list of its names
named : (refs : List (Bor (List ℕ))) (names : List (List ℕ)) (i : ℕ) → map key refs ≡ names → i < length refs → get_or names i [] ≡ (get_or refs i past).now
named refs names i view lt = subst (λ ns. get_or ns i [] ≡ (get_or refs i past).now) view (get_or-map key refs i past [] lt)

counted : (refs : List (Bor (List ℕ))) (names : List (List ℕ)) → map key refs ≡ names → length refs ≡ length names
counted refs names view = sym (length-map refs key) ∙ ap length view

pub returns-then-eq-clause-first : goal.returns-then-eq-clause-first
returns-then-eq-clause-first g c =
    let refs = c.self.inside.names.now in
    let at = c.loop-place.place in
    let is : get_or c.args.self.now at [] ≡ c.as_bytes.result.now = named refs c.args.self.now at c.self.view_is c.loop-place-test.true ∙ sym c.as_bytes.ensures.value in
    let here : get_or c.args.self.now at [] ≡ c.args.name.now = is ∙ same_text _ _ (sym (sym c.eq.ensures ∙ c.if-eq.true)) in
    let within : at < length c.args.self.now = subst (λ n. at < n) (counted refs c.args.self.now c.self.view_is) c.loop-place-test.true in
    sym (place_at c.args.self.now c.args.name.now at within here c.loop-place.invariant)

pub returns-then-eq-clause-found : goal.returns-then-eq-clause-found
returns-then-eq-clause-found g c =
    let first = returns-then-eq-clause-first g c in
    let has = found c.args.self.now c.args.name.now in
    (λ some. has.0 (subst IsSome first some), λ in_table. subst IsSome (sym first) (has.1 in_table))

before_or_at : (k n : ℕ) → k < n + 1 → (k < n) ⊎ (k ≡ n)
before_or_at k n lt = grind arith

pub loop-place-preserved : goal.loop-place-preserved
loop-place-preserved g c = λ k lt is.
    let refs = c.self.inside.names.now in
    let at = c.loop-place.place in
    elim (before_or_at k at lt) [
      | inl before ↦ c.loop-place.invariant k before is
      | inr here ↦
          let held : get_or c.args.self.now at [] ≡ c.as_bytes.result.now = named refs c.args.self.now at c.self.view_is c.loop-place-test.true ∙ sym c.as_bytes.ensures.value in
          let equal : c.as_bytes.result.now ≡ c.args.name.now = sym held ∙ subst (λ j. get_or c.args.self.now j [] ≡ c.args.name.now) here is in
          let yes = same c.as_bytes.result.now c.args.name.now equal in
          let no = sym c.eq.ensures ∙ c.if-eq.false in
          absurd (cc)
    ]

pub returns-clause-first : goal.returns-clause-first
returns-clause-first g c =
    let refs = c.self.inside.names.now in
    let all = counted refs c.args.self.now c.self.view_is in
    sym (no_place c.args.self.now c.args.name.now (λ k lt. c.loop-place.invariant k (omega (arith, all, lt, c.loop-place-test.false, c.loop-place.auto.place-end))))

pub returns-clause-found : goal.returns-clause-found
returns-clause-found g c =
    let first = returns-clause-first g c in
    let has = found c.args.self.now c.args.name.now in
    (λ some. has.0 (subst IsSome first some), λ in_table. subst IsSome (sym first) (has.1 in_table))
