use Rattle.std.proofs.Common.{◌≡◌, ◌∙◌, ◌++◌, length, reverse, ap, arith}
use Rattle.lb_tokens.specs.Layers.{texts_of}
use Rattle.lb_tokens.proofs.LayerLemmas.{pending_put}
use Rattle.lb_tokens.proofs.source.Source.put_list.Goals as goal

pub invariant_of-self-2 : goal.invariant_of-self-2
invariant_of-self-2 c =
    let s = c.self.inside in
    let pushed = pending_put c.args.list s.stack c.push_list.new.self (texts_of (reverse s.layers.items)) (c.in_ok-push_list.ensures.ok ∙ ap (λ l. l ++ s.stack) c.of.ensures) in
    let count = c.self.invariant in
    let len : c.len-count.result ≡ length c.args.list = c.len-count.ensures ∙ ap length c.get.ensures in
    omega (arith, pushed, count, len)
