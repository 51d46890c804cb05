use Rattle.lb_engine.proofs.RowLemmas.{act-is}
use Rattle.lb_engine.specs.BoxSizes.{sized}
use Rattle.lb_model_engine.specs.Boxes.{size_changed}
use Rattle.lb_model_nest.specs.Wholes.{change}
use Rattle.std.proofs.Common.{rules, sym, ◌≡◌}
use Rattle.lb_values.specs.declared.cell.Cell.TheVariants as cell
use Rattle.lb_values.specs.declared.value.Value.TheVariants as value
use Rattle.lb_engine.proofs.box_sizes.change_held.Goals as goal

pub returns-in_ok-boxed-in-Some : goal.returns-in_ok-boxed-in-Some
returns-in_ok-boxed-in-Some g c = let resized : c.with_size.result ≡ sized c.args.size c.args.length c.in-Some.boxed = search rules in record { goes = act-is (λ x. size_changed c.args.reach c.args.number x (sized c.args.size c.args.length)) c.resize.result (sym c.in-Some.is) (act-is (λ b. change c.args.reach (cell.Boxed c.args.number) (value.Boxed b)) c.resize.result resized c.resize.ensures.goes) }
