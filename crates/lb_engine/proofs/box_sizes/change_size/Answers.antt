use Rattle.lb_base.specs.declared.node.Boxed.{Boxed}
use Rattle.lb_engine.proofs.JoinLemmas.{read-failed}
use Rattle.lb_engine.proofs.LeadsLemmas.{leads-read}
use Rattle.lb_engine.proofs.RowLemmas.{act-is}
use Rattle.lb_engine.specs.BoxSizes.{sized}
use Rattle.lb_model_engine.specs.Boxes.{size_changed}
use Rattle.lb_model_nest.specs.Wholes.{Executed, Whole, executed}
use Rattle.lb_model_nest.specs.declared.turn.Went.TheVariants.{On}
use Rattle.lb_values.specs.declared.reach.Reach.{Reach}
use Rattle.std.proofs.Common.{FitsSigned, rules, w32}
use Rattle.std.proofs.lemmas.Int.{to_z-of_z}
use Rattle.std.specs.Prelude.{Option, ℕ}
use Rattle.lb_engine.proofs.box_sizes.change_size.Goals as goal

-- what is done with what the register holds
abbrev to : Reach → ℕ → (Boxed → Boxed) → Option Boxed → Whole → Executed
to reach n f box v = size_changed reach n box f v

pub change_held-requires : goal.change_held-requires
change_held-requires g c = record { holds = (c.in_ok-box_held.ensures.leads (λ x. executed On)).keeps }

pub returns : goal.returns
returns g c =
    let row = to c.args.reach c.args.number (sized c.args.size c.args.length) in
    let fits : FitsSigned w32 c.args.length = search rules in
    record { goes = leads-read row c.in_ok-box_held.box_held c.change_held.result (c.in_ok-box_held.ensures.leads row) (act-is (λ n. size_changed c.args.reach c.args.number c.in_ok-box_held.box_held (sized c.args.size n)) c.change_held.result (to_z-of_z w32 c.args.length fits) c.change_held.ensures.goes) }

pub returns-in_err-box_held : goal.returns-in_err-box_held
returns-in_err-box_held g c = record { goes = read-failed c.from_residual.result c.from_residual.ensures.0 (c.in_err-box_held.ensures.leads (to c.args.reach c.args.number (sized c.args.size c.args.length))) }
