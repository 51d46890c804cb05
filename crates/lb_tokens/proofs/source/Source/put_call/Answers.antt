use Rattle.std.proofs.Common.{◌≡◌, ◌∙◌, ◌++◌, min, length, reverse, ap, arith}
use Rattle.lb_model_grammar.specs.Arguments.{substituted}
use Rattle.lb_tokens.specs.Layers.{texts_of}
use Rattle.lb_tokens.proofs.LayerLemmas.{pending_put}
use Rattle.lb_tokens.proofs.source.Source.put_call.Goals as goal

pub invariant_of-self-2 : goal.invariant_of-self-2
invariant_of-self-2 c =
    let s = c.self.inside in
    let toks = substituted c.args.arguments c.args.definition.body in
    let pushed = pending_put toks s.stack c.push_call.new.self (texts_of (reverse s.layers.items)) (c.in_ok-push_call.ensures.ok ∙ ap (λ call. substituted call.arguments call.body ++ s.stack) c.of.ensures) in
    let count = c.self.invariant in
    let filled : c.count_filled-count.result ≡ min (length toks) 1000001 =
    c.count_filled-count.ensures ∙ ap (λ b. min (length (substituted c.args.arguments b)) 1000001) (c.as_slice.ensures ∙ ap (λ d. d.body) c.get.ensures)
    in
    let sum = c.saturating_add.ensures in
    let room = c.if-saturating_add-gt-MOST_PENDING.false in
    omega (arith, pushed, count, filled, sum, room)
