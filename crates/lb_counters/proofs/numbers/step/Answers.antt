use Rattle.std.proofs.Common.{ℤ, ◌≡◌, ◌∙◌, ap, sym, [], ◌∷◌, of_z, rules, to_z, true, w32}
use Rattle.std.specs.Prelude.{unwrap_or}
use Rattle.lb_values.specs.declared.cell.Cell.TheVariants.{Counter, Resets}
use Rattle.lb_model.specs.Kinds.{names_of, optional_number}
use Rattle.lb_model.specs.Quantities.{counter_in}
use Rattle.lb_model_counters.specs.Counters.{names_in, numbered, step_counter, stepped, zeros}
use Rattle.lb_counters.proofs.Composed.{does-sets, looked, looked-more, step-comes}
use Rattle.lb_counters.proofs.numbers.step.Goals as goal

-- a number of 32 bits as it is handed on
abbrev handed : ℤ → ℤ
handed n = to_z w32 (of_z w32 n)

pub returns-then-not-resets : goal.returns-then-not-resets
unfolding step_counter
returns-then-not-resets g c =
    let C = g.C.Cells in
    let name = c.args.name.now in
    let old = c.args.cells.now in
    let mid = c.number_of.new.cells in
    let n = c.in-Some.number in
    let m = c.in-Some-sum.number in
    let same_n : handed n ≡ n = search rules in
    let same_m : handed m ≡ m = search rules in
    let same_by : handed c.args.by ≡ c.args.by = search rules in
    let told = c.in_ok-number.ensures.tells in
    record {
      does =
          does-sets C (step_counter name c.args.by c.args.resets) (Counter name ∷ []) (numbered name (handed m) ∷ []) c.in_ok-set_number.field-0
          c.set_number.new.cells mid old (looked C (Counter name) optional_number c.in_ok-number.field-0 mid old told) c.in_ok-set_number.ensures.sets
          (
          λ p h.
          let list = names_in p.world (C.meaning old p).now (Resets name) in
          step-comes name c.args.by (handed c.args.by) c.args.resets list (counter_in p.world (C.meaning old p).now name) n (handed n) m
          (handed m) (told.value p h ∙ c.in-Some.is) same_n same_by same_m c.in-Some-sum.ensures
          ∙ ap (λ r. stepped r name list (handed m)) c.if-not-resets.true
          );
    }

pub returns : goal.returns
unfolding step_counter
returns g c =
    let C = g.C.Cells in
    let name = c.args.name.now in
    let old = c.args.cells.now in
    let mid = c.number_of.new.cells in
    let after = c.resets_of.new.cells in
    let n = c.in-Some.number in
    let m = c.in-Some-sum.number in
    let same_n : handed n ≡ n = search rules in
    let same_m : handed m ≡ m = search rules in
    let same_by : handed c.args.by ≡ c.args.by = search rules in
    let told = c.in_ok-number.ensures.tells in
    let listed = c.in_ok-list.ensures.tells in
    let reset = unwrap_or c.in_ok-list.list [] in
    record {
      does =
          does-sets C (step_counter name c.args.by c.args.resets) (Counter name ∷ Resets name ∷ []) (numbered name (handed m) ∷ zeros reset)
          c.in_ok-set_and_reset.field-0 c.set_and_reset.new.cells after old
          (
          looked-more C (Counter name ∷ []) (Resets name) names_of c.in_ok-list.list after mid old
          (looked C (Counter name) optional_number c.in_ok-number.field-0 mid old told) listed
          )
          c.in_ok-set_and_reset.ensures.sets
          (
          λ p h.
          let list = names_in p.world (C.meaning old p).now (Resets name) in
          let before = listed.narrows p h in
          step-comes name c.args.by (handed c.args.by) c.args.resets list (counter_in p.world (C.meaning old p).now name) n (handed n) m
          (handed m) (told.value p before ∙ c.in-Some.is) same_n same_by same_m c.in-Some-sum.ensures
          ∙ ap (λ r. stepped r name list (handed m)) c.if-not-resets.false
          ∙ ap (λ k. stepped true name (names_in p.world k.now (Resets name)) (handed m)) (sym (told.stays p before))
          ∙ ap (λ o. stepped true name (unwrap_or o []) (handed m)) (listed.value p h)
          );
    }
