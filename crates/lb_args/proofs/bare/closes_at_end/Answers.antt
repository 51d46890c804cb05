use Rattle.std.proofs.Common.{◌∙◌, sym, ap}
use Rattle.lb_model_grammar.specs.Arguments.{level_then}
use Rattle.lb_args.proofs.BareLemmas.{closes-at}
use Rattle.lb_args.proofs.bare.closes_at_end.Goals as goal

pub returns-in-None : goal.returns-in-None
returns-in-None c =
    let l = c.tokens in
    sym (closes-at c.args.toks.now l.index l.level _ c.tokens-test.true (ap (λ t. level_then t l.level) (sym c.index-toks-index.is) ∙ sym c.level_then.ensures ∙ c.in-None.is)) ∙ l.invariant.same
