use Rattle.std.specs.Prelude.{Bool, is_some, if◌then◌else◌}
use Rattle.lb_values.specs.declared.cell.Cell.TheVariants as cell
use Rattle.lb_model.specs.Kinds.{meaning_of}
use Rattle.lb_model_engine.specs.Environments.{end_begun, end_checked}
use Rattle.lb_model_engine.specs.NewNames.{end_name}
use Rattle.lb_engine.proofs.EndLemmas.{told-holds, told-then}
use Rattle.lb_engine.proofs.LookLemmas.{told-drops}
use Rattle.lb_engine.proofs.environment_ends.end.Goals as goal

pub end_by-requires : goal.end_by-requires
end_by-requires g c = record { holds = told-holds g.C.Cells c.args.engine.now c.requires.holds c.in_ok-has_macro.ensures.tells }

pub returns : goal.returns
returns g c =
    let name = c.args.name.now in
    record {
      goes = told-then g.C.Cells (cell.Word (end_name name)) (λ v. is_some (meaning_of v)) (λ has_macro w. if has_macro then end_begun name w else end_checked name w) c.in_ok-has_macro.has_macro
          c.end_by.result c.in_ok-has_macro.ensures.tells c.end_by.ensures.goes;
    }

pub returns-in_err-has_macro : goal.returns-in_err-has_macro
returns-in_err-has_macro g c = record { goes = told-drops c.from_residual.result c.from_residual.ensures.0 c.in_err-has_macro.ensures.tells }
