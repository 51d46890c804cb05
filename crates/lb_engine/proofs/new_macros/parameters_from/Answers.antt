use Rattle.std.proofs.Common.{◌∙◌, ◌+◌, ◌-◌, ◌++◌, ap, sym}
use Rattle.lb_model_engine.specs.NewNames.{parameters_from}
use Rattle.lb_engine.proofs.NewMacroLemmas.{parameters-more}
use Rattle.lb_engine.proofs.new_macros.parameters_from.Goals as goal

pub parameters-preserved : goal.parameters-preserved
parameters-preserved c =
    let l = c.parameters in
    record {
      so_far =
          ap (λ t. t ++ parameters_from (l.number + 1) (c.args.end - (l.number + 1))) c.in_ok-push.ensures.ok
          ∙ sym (parameters-more l.toks l.number c.args.end c.parameters-test.true)
          ∙ l.invariant.so_far;
    }
