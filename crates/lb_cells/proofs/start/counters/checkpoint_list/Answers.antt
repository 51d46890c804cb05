use Rattle.std.proofs.Common.{ℕ, ℤ, List, ◌≡◌, ◌∙◌, ◌++◌, ◌∷◌, [], ap, arith, map, take}
use Rattle.lb_model.specs.StartLists.{checkpoint_names, start_counters}
use Rattle.lb_cells.proofs.StartSteps.{names-next}
use Rattle.lb_cells.proofs.start.counters.checkpoint_list.Goals as goal

pub loop-place-preserved : goal.loop-place-preserved
loop-place-preserved c =
    let counter : List ℕ × ℤ = (c.counter.result.0.now, c.counter.result.1) in
    let name : c.in_ok-from_slice.field-0 ≡ counter.0 = c.in_ok-from_slice.ensures ∙ c.as_bytes.ensures.value in
    c.in_ok-push.ensures.ok
    ∙ (λ i. c.loop-place.invariant i ++ name i ∷ [])
    ∙ names-next start_counters c.loop-place.place counter c.counter.ensures

pub returns : goal.returns
unfolding checkpoint_names start_counters
returns c =
    let all : c.loop-place.place ≡ 17 = omega arith in
    c.loop-place.invariant ∙ ap (λ n. map (λ counter. counter.0) (take n start_counters)) all
