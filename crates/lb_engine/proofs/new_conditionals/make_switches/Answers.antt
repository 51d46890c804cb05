use Rattle.std.proofs.Common.{◌++◌, codes}
use Rattle.lb_values.specs.declared.cell.Cell.TheVariants as cell
use Rattle.lb_values.specs.declared.reach.Reach.TheVariants.{Local}
use Rattle.lb_model_nest.specs.Wholes.{change}
use Rattle.lb_model_engine.specs.NewNames.{switch}
use Rattle.lb_engine.proofs.LeadsLemmas.{leads-then}
use Rattle.lb_engine.proofs.new_conditionals.make_switches.Goals as goal

pub returns-in-On : goal.returns-in-On
returns-in-On g c =
    let name = c.args.name.now in
    let switched = c.args.switched.now in
    record {
      goes = leads-then (change Local (cell.Word (switched ++ codes "true")) (switch name (codes "iftrue"))) (change Local (cell.Word (switched ++ codes "false")) (switch name (codes "iffalse")))
          c.make_switch-in-On.result c.in-On.is c.in_ok-went.ensures.goes c.make_switch-in-On.ensures.goes;
    }
