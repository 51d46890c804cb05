use Rattle.std.proofs.Common.{◌∙◌, ◌≤◌, ap, subst, sym}
use Rattle.std.specs.Prelude.{IfSome}
use Rattle.lb_engine.specs.Macros.{order_behind}
use Rattle.lb_engine.proofs.MacroLemmas.{order-next}
use Rattle.lb_engine.proofs.macros.in_order.Goals as goal

pub tokens-preserved : goal.tokens-preserved
tokens-preserved c =
    let l = c.tokens in
    record {
      same = order-next l.last c.in-Some.next c.args.toks.now l.index _ c.tokens-test.true (ap (λ t. order_behind l.last t) (sym c.index-toks-index.is) ∙ sym c.order_behind.ensures.order ∙ c.in-Some.is) ∙ l.invariant.same;
      small = subst (λ o. IfSome o (λ n. n ≤ 255)) c.in-Some.is c.order_behind.ensures.few;
    }
