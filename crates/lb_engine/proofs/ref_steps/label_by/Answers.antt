use Rattle.std.proofs.Common.{refl}
use Rattle.lb_model_engine.specs.Counting.{label_set}
use Rattle.lb_model_engine.specs.Texts.{expanded_text}
use Rattle.lb_model_nest.specs.Wholes.{executed}
use Rattle.lb_engine.specs.Reads.{behind_reading}
use Rattle.lb_engine.proofs.JoinLemmas.{leads-same, read-failed}
use Rattle.lb_engine.proofs.RowLemmas.{read-ends, read-then}
use Rattle.lb_engine.proofs.ref_steps.label_by.Goals as goal

pub set_label-requires : goal.set_label-requires
set_label-requires g c = record { holds = (c.in_ok-toks.ensures.leads label_set).keeps }

pub returns-in-Of : goal.returns-in-Of
returns-in-Of g c =
    record {
      goes = leads-same (λ ts. expanded_text ts label_set) c.in_ok-printer.ensures
          (read-then (behind_reading label_set) c.set_label.result c.in-Of.is (c.in_ok-toks.ensures.leads label_set) c.set_label.ensures.goes);
    }

pub returns-in-Stops : goal.returns-in-Stops
returns-in-Stops g c =
    record {
      goes = leads-same (λ ts. expanded_text ts label_set) c.in_ok-printer.ensures
          (read-ends (behind_reading label_set) executed c.in-Stops.went c.in-Stops.is refl (c.in_ok-toks.ensures.leads label_set));
    }

pub returns-in_err-toks : goal.returns-in_err-toks
returns-in_err-toks g c = record { goes = read-failed c.from_residual-in_err-toks.result c.from_residual-in_err-toks.ensures.0 (c.in_err-toks.ensures.leads label_set) }
