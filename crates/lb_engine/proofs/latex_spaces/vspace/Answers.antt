use Rattle.lb_engine.proofs.ModeLemmas.{mode-goes, mode-stops}
use Rattle.lb_engine.proofs.latex_spaces.vspace.Goals as goal
use Rattle.lb_model_engine.specs.Items.{starred_argument, vspace, vspace_of}
use Rattle.lb_model_nest.specs.Wholes.{is_restricted, mode_of}
use Rattle.std.proofs.Common.{false, rules, true, ◌≡◌}

pub returns-then-is_restricted : goal.returns-then-is_restricted
unfolding vspace
returns-then-is_restricted g c =
    let is : is_restricted (mode_of c.args.engine.now.nest.level.kind) ≡ true = search rules in
    record { goes = mode-stops g.C.Cells is_restricted (λ w. starred_argument vspace_of w) is c.requires.holds }

pub returns : goal.returns
unfolding vspace
returns g c =
    let is : is_restricted (mode_of c.args.engine.now.nest.level.kind) ≡ false = search rules in
    record { goes = mode-goes is_restricted (λ w. starred_argument vspace_of w) c.read_vspace.result is c.read_vspace.ensures.goes }
