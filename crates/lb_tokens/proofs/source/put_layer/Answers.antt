use Rattle.std.proofs.Common.{◌≡◌, ◌∙◌, ◌-◌, ◌∷◌, ◌++◌, [], length, map, reverse, get_or, ap, arith}
use Rattle.std.proofs.lemmas.List.{get_or_push, length_push}
use Rattle.lb_model.specs.Sources.Item.{Pending, Text}
use Rattle.lb_tokens.specs.declared.source.Layer.{Layer}
use Rattle.lb_tokens.specs.Layers.{texts_of}
use Rattle.lb_tokens.proofs.LayerLemmas.{layer_put}
use Rattle.lb_tokens.proofs.source.put_layer.Goals as goal

pub returns-clause-ok : goal.returns-clause-ok
returns-clause-ok c =
    let n = c.len-last.result - 1 in
    let old = c.args.layers.now.items in
    let x = c.index_mut.result.now in
    let layer : Layer = record { text = c.args.text; under = c.new-none.result } in
    let y : Layer = record { text = c.index_mut.result.now.text; under = c.swap.new.x } in
    let pushed : c.push.new.self.items ≡ c.args.layers.now.items ++ layer ∷ [] = c.in_ok-push.ensures.items in
    let at : length c.args.layers.now.items ≡ c.len-last.result - 1 = omega (arith, c.len-last.ensures, ap length pushed, length_push c.args.layers.now.items layer) in
    let is : c.index_mut.result.now ≡ layer = c.index_mut.ensures.value ∙ ap (λ l. get_or l n x) pushed ∙ get_or_push old layer x n at in (
      c.swap.ensures.y_after ∙ ap (λ l. l.under) is ∙ c.new-none.ensures,
      layer_put old c.push.new.self.items n layer y pushed at
          ∙ ap (λ t. Text t ∷ map Pending c.swap.new.x ++ texts_of (reverse old)) (ap (λ l. l.text) is)
          ∙ ap (λ toks. Text c.args.text ∷ map Pending toks ++ texts_of (reverse old)) c.swap.ensures.x_after,
    )
