use Rattle.std.proofs.Common.{◌∷◌, [], refl}
use Rattle.lb_values.specs.declared.cell.Cell.TheVariants.{Counter}
use Rattle.lb_model.specs.Quantities.{counter_in}
use Rattle.lb_model_expansion.specs.Expansion.{counter_value}
use Rattle.lb_expand.proofs.CloseLemmas.{closes-after, told-of}
use Rattle.lb_expand.proofs.PassLemmas.{look-passes, one-noted}
use Rattle.lb_expand.proofs.feeder.Feeder.value_of_counter.Goals as goal

pub returns-clause-closes : goal.returns-clause-closes
returns-clause-closes g c =
    let C = g.C.Cells in
    let name = c.args.name in
    let t = c.in_ok-number.ensures.tells in
    closes-after c.hand_counter.result t.narrows
    (λ more. look-passes C (Counter name ∷ []) (λ d. counter_in d.world d.cells.now name) (λ n d. counter_value n more d) c.in_ok-number.number (told-of t) (one-noted (Counter name) _ _ t.notes) t.value)
    (λ p h. refl) t.made t.loan c.hand_counter.ensures.closes
