use Rattle.std.proofs.Common.{rules, ◌≡◌, ◌+◌, ◌-◌, length, refl}
use Rattle.lb_tokens.specs.declared.source.Layer.{Layer}
use Rattle.lb_tokens.proofs.LayerLemmas.{layer_early, layer_pending}
use Rattle.lb_tokens.proofs.source.end_last.Goals as goal

pub returns-clause-ended : goal.returns-clause-ended
returns-clause-ended c =
    let x = c.index_mut-layer.result.now in
    let y : Layer = record { text = c.end_early.new.self; under = c.index_mut-layer.result.now.under } in
    let long : length c.args.layers.now.items ≡ c.len-last.result - 1 + 1 = search rules in
    layer_early c.args.layers.now.items (c.len-last.result - 1) x y long c.index_mut-layer.ensures.value refl c.end_early.ensures

pub returns-clause-pending : goal.returns-clause-pending
returns-clause-pending c =
    let x = c.index_mut-layer.result.now in
    let y : Layer = record { text = c.end_early.new.self; under = c.index_mut-layer.result.now.under } in
    let long : length c.args.layers.now.items ≡ c.len-last.result - 1 + 1 = search rules in
    layer_pending c.args.layers.now.items (c.len-last.result - 1) x y long c.index_mut-layer.ensures.value refl
