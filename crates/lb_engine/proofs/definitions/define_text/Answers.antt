use Rattle.lb_model_engine.specs.Definitions.{ParameterText, macro_defined}
use Rattle.lb_engine.proofs.RowLemmas.{act-is}
use Rattle.lb_engine.proofs.definitions.define_text.Goals as goal

pub returns : goal.returns
returns g c = record { goes = act-is (λ (t : ParameterText). macro_defined c.args.manner.long c.args.manner.reach c.args.name.now t c.args.toks) c.define_parts.result (λ i. record { tokens = c.into_parts-tokens.ensures.tokens i; brace = c.into_parts-tokens.ensures.brace i }) c.define_parts.ensures.goes }
