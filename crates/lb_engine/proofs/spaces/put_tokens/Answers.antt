use Rattle.lb_engine.proofs.RowLemmas.{read-fails, row-ends}
use Rattle.lb_engine.specs.Reads.{behind_reading}
use Rattle.lb_model_nest.specs.Wholes.{put}
use Rattle.lb_engine.proofs.spaces.put_tokens.Goals as goal

pub returns : goal.returns
returns g c =
    record {
      leads = λ more.
          row-ends (put c.args.toks) more (behind_reading (λ u. more)) c.in_ok-went.went c.going.result (λ w. c.going.ensures more w) c.in_ok-went.ensures.goes;
    }

pub returns-in_err-went : goal.returns-in_err-went
returns-in_err-went g c = record { leads = λ more. read-fails c.from_residual.result c.from_residual.ensures.0 c.in_err-went.ensures.goes }
