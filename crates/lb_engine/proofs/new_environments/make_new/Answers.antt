use Rattle.lb_values.specs.declared.cell.Cell.TheVariants as cell
use Rattle.lb_model_engine.specs.NewNames.{environment_set, newly_named}
use Rattle.lb_engine.proofs.RowLemmas.{act-is}
use Rattle.lb_engine.proofs.new_environments.make_new.Goals as goal

pub returns : goal.returns
returns g c =
    record {
      goes = act-is (λ n. newly_named c.args.kind (cell.Word n) (environment_set c.args.name.now c.args.begins c.args.ends)) c.make_named.result c.in_ok-clone.ensures.cases c.make_named.ensures.goes;
    }
