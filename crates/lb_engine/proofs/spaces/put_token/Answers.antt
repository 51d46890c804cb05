use Rattle.std.proofs.Common.{◌∙◌, ◌++◌, ◌∷◌, [], ap}
use Rattle.lb_model_nest.specs.Wholes.{and_then, put}
use Rattle.lb_engine.proofs.RowLemmas.{act-is}
use Rattle.lb_engine.proofs.spaces.put_token.Goals as goal

pub returns : goal.returns
returns g c =
    record {
      leads = λ more.
          act-is (λ toks w. and_then (put toks w) more) c.put_tokens.result (c.in_ok-push.ensures.ok ∙ ap (λ l. l ++ c.args.tok ∷ []) c.new-toks.ensures) (c.put_tokens.ensures.leads more);
    }
